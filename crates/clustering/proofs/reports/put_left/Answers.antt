use Rattle.std.proofs.Common.{map}
use Rattle.gx_base.specs.Replays.{in_rooms}
use Rattle.clustering.specs.CloudState.{state_of}
use Rattle.clustering.specs.ClusterReports.{there_line}
use Rattle.clustering.proofs.lines.RangeLines.{lines_more}
use Rattle.clustering.proofs.reports.put_left.Goals as goal

pub loop-id-preserved : goal.loop-id-preserved
loop-id-preserved c =
    lines_more (there_line (in_rooms (map state_of c.args.rooms.now))) c.args.text.now.items c.loop-id.text.items c.put_if_left.new.text.items c.loop-id.id c.in_ok-put_if_left.ensures c.loop-id.invariant

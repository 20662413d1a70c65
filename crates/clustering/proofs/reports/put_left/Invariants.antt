use Rattle.std.proofs.Common.{◌≡◌, ◌++◌, map}
use Rattle.std.specs.List.{flat_map, range_with_len}
use Rattle.gx_base.specs.Replays.{in_rooms}
use Rattle.clustering.specs.CloudState.{state_of}
use Rattle.clustering.specs.ClusterReports.{there_line}
use Rattle.clustering.proofs.reports.put_left.Given as goal

abbrev pub invariant-loop-id : goal.invariant-loop-id
invariant-loop-id l = l.text.items ≡ l.fn.text.items ++ flat_map (there_line (in_rooms (map state_of l.rooms))) (range_with_len 0 l.id)

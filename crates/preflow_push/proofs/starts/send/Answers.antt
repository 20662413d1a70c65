use Rattle.std.proofs.Common.{◌∙◌}
use Rattle.std.proofs.lemmas.Int.{to_z-of_z}
use Rattle.std.specs.Int.{w64}
use Rattle.preflow_push.proofs.start_states.FlowWrites.{sends}
use Rattle.preflow_push.proofs.starts.send.Goals as goal

pub returns : goal.returns
returns c =
    c.in_ok-make.ensures
    ∙ sends c.args.shards.now _ c.args.arc _ c.args.amount c.requires.rooms (to_z-of_z w64 c.args.arc c.ranges.arc) (to_z-of_z w64 c.args.amount c.ranges.amount) c.ranges.amount c.requires.no_flow

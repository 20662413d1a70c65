use Rattle.std.proofs.Common.{◌∙◌}
use Rattle.std.proofs.lemmas.Int.{to_z-of_z}
use Rattle.std.specs.Int.{w64}
use Rattle.preflow_push.proofs.start_states.FlowWrites.{gains}
use Rattle.preflow_push.proofs.starts.gain.Goals as goal

pub returns : goal.returns
returns c = c.in_ok-make.ensures ∙ gains c.args.shards.now _ c.args.node _ c.args.amount c.requires (to_z-of_z w64 c.args.node c.ranges.node) (to_z-of_z w64 c.args.amount c.ranges.amount)

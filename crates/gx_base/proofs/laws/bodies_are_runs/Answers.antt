use Rattle.gx_base.proofs.bodies.ReplyRuns.{RunsTo-body}
use Rattle.gx_base.proofs.laws.bodies_are_runs.Goals as goal

pub returns : goal.returns
returns c = RunsTo-body

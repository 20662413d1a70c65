use Rattle.gx_base.proofs.bodies.ReplyRuns.{RunsTo-call, RunsTo-push, RunsTo-done}
use Rattle.gx_base.proofs.laws.runs_go_on_by_what_follows.Goals as goal

pub returns : goal.returns
returns c = record { calls = RunsTo-call; pushes = RunsTo-push; ends = RunsTo-done }

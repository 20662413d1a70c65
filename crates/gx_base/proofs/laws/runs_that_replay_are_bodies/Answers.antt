use Rattle.gx_base.proofs.bodies.ReplyRuns.{body-whole}
use Rattle.gx_base.proofs.laws.runs_that_replay_are_bodies.Goals as goal

pub returns : goal.returns
returns c = body-whole

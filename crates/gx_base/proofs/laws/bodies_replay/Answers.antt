use Rattle.gx_base.proofs.bodies.BodyReplays.{body-Replays}
use Rattle.gx_base.proofs.laws.bodies_replay.Goals as goal

pub returns : goal.returns
returns c = body-Replays

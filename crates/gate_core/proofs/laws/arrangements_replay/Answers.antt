use Rattle.gate_core.proofs.lawful.GateLaws.{replayed}
use Rattle.gate_core.proofs.laws.arrangements_replay.Goals as goal

pub returns : goal.returns
returns c = replayed

use Rattle.gate_core.proofs.lawful.GateLaws.{alone}
use Rattle.gate_core.proofs.laws.a_worker_replays_alone.Goals as goal

pub returns : goal.returns
returns c = alone

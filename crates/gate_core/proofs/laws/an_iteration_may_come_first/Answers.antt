use Rattle.gate_core.proofs.lawful.GateLaws.{released_first}
use Rattle.gate_core.proofs.laws.an_iteration_may_come_first.Goals as goal

pub returns : goal.returns
returns c = released_first

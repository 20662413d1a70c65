use Rattle.gate_core.proofs.lawful.GateLaws.{replays_alone}
use Rattle.gate_core.proofs.laws.lawful_gates_may_be_homed.Goals as goal

pub returns : goal.returns
returns c = λ g h. record { lawful = h; alone = λ worker. replays_alone g worker h }

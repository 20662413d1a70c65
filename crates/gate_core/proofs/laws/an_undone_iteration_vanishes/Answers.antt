use Rattle.gate_core.proofs.lawful.GateLaws.{all_undone}
use Rattle.gate_core.proofs.laws.an_undone_iteration_vanishes.Goals as goal

pub returns : goal.returns
returns c = all_undone

use Rattle.gate_core.proofs.lawful.KeptLawful.{undo_keeps}
use Rattle.gate_core.proofs.laws.undo_keeps_gates.Goals as goal

pub returns-clause-lawful : goal.returns-clause-lawful
returns-clause-lawful c = λ g worker iter h. (undo_keeps g worker iter h).lawful

pub returns-clause-same_start : goal.returns-clause-same_start
returns-clause-same_start c = λ g worker iter h. (undo_keeps g worker iter h).same_start

use Rattle.gate_core.proofs.lawful.KeptLawful.{release_keeps}
use Rattle.gate_core.proofs.laws.release_keeps_gates.Goals as goal

pub returns-clause-lawful : goal.returns-clause-lawful
returns-clause-lawful c = λ g worker iter number h below. (release_keeps g worker iter number h below).lawful

pub returns-clause-same_start : goal.returns-clause-same_start
returns-clause-same_start c = λ g worker iter number h below. (release_keeps g worker iter number h below).same_start

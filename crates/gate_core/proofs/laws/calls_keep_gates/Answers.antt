use Rattle.gate_core.proofs.lawful.KeptLawful.{admit_keeps}
use Rattle.gate_core.proofs.laws.calls_keep_gates.Goals as goal

pub returns-clause-lawful : goal.returns-clause-lawful
returns-clause-lawful c = λ g worker iter item call h f n. (admit_keeps g worker iter item call h f n).lawful

pub returns-clause-same_start : goal.returns-clause-same_start
returns-clause-same_start c = λ g worker iter item call h f n. (admit_keeps g worker iter item call h f n).same_start

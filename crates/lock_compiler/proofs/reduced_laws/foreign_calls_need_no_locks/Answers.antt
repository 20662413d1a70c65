use Rattle.lock_compiler.proofs.clashing.Foreign.{compiled_none, reduced_none}
use Rattle.lock_compiler.proofs.reduced_laws.foreign_calls_need_no_locks.Goals as goal

pub returns-clause-compiled : goal.returns-clause-compiled
returns-clause-compiled c = compiled_none

pub returns-clause-reduced : goal.returns-clause-reduced
returns-clause-reduced c = reduced_none

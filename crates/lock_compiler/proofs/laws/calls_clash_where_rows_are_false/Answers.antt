use Rattle.lock_compiler.proofs.clashing.Compiled.{compiled_clash}
use Rattle.lock_compiler.proofs.clashing.Reduced.{reduced_compiled_clash}
use Rattle.lock_compiler.proofs.laws.calls_clash_where_rows_are_false.Goals as goal

pub returns-clause-compiled : goal.returns-clause-compiled
returns-clause-compiled c = compiled_clash

pub returns-clause-reduced : goal.returns-clause-reduced
returns-clause-reduced c = reduced_compiled_clash

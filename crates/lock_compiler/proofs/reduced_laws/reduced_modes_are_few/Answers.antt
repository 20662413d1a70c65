use Rattle.lock_compiler.proofs.clashing.Fewest.{reduced-busy, reduced-apart}
use Rattle.lock_compiler.proofs.reduced_laws.reduced_modes_are_few.Goals as goal

pub returns-clause-busy : goal.returns-clause-busy
returns-clause-busy c = reduced-busy

pub returns-clause-apart : goal.returns-clause-apart
returns-clause-apart c = reduced-apart

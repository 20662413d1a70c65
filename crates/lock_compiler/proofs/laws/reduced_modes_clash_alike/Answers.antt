use Rattle.lock_compiler.proofs.clashing.Reduced.{reduced_clash}
use Rattle.lock_compiler.proofs.laws.reduced_modes_clash_alike.Goals as goal

pub returns : goal.returns
returns c = reduced_clash

use Rattle.std.proofs.Common.{◌≡◌, take, map}
use Rattle.lock_compiler.specs.LockModes.{incompatible}
use Rattle.lock_compiler.proofs.reducing.refusals.Given as goal

abbrev pub invariant-loop-asked : goal.invariant-loop-asked
invariant-loop-asked l = l.refuses.items ≡ map (incompatible l.modes l.mode) (take l.asked-index l.numbers)

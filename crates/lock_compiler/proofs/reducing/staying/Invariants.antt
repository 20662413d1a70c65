use Rattle.std.proofs.Common.{◌≡◌}
use Rattle.lock_compiler.specs.Reduced.{numbers_below, mode_stays}
use Rattle.lock_compiler.proofs.reducing.staying.Given as goal

abbrev pub invariant-loop-mode : goal.invariant-loop-mode
invariant-loop-mode l = l.numbers.items ≡ numbers_below (mode_stays l.modes) l.mode

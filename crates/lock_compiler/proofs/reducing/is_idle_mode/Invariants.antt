use Rattle.std.proofs.Common.{◌≡◌, true}
use Rattle.lock_compiler.specs.Reduced.{all_below, are_compatible}
use Rattle.lock_compiler.proofs.reducing.is_idle_mode.Given as goal

abbrev pub invariant-loop-other : goal.invariant-loop-other
invariant-loop-other l = all_below (are_compatible l.modes l.mode) l.other ≡ true

use Rattle.std.proofs.Common.{◌≡◌, true}
use Rattle.lock_compiler.specs.Reduced.{all_below, is_unlike}
use Rattle.lock_compiler.proofs.reducing.mode_stays.Given as goal

abbrev pub invariant-loop-earlier : goal.invariant-loop-earlier
invariant-loop-earlier l = all_below (is_unlike l.modes l.mode) l.earlier ≡ true

use Rattle.std.proofs.Common.{◌≡◌, true}
use Rattle.lock_compiler.specs.Reduced.{all_below, tells_alike}
use Rattle.lock_compiler.proofs.reducing.are_alike.Given as goal

abbrev pub invariant-loop-other : goal.invariant-loop-other
invariant-loop-other l = all_below (tells_alike l.modes l.x l.y) l.other ≡ true

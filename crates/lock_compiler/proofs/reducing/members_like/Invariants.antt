use Rattle.std.proofs.Common.{◌≡◌}
use Rattle.lock_compiler.specs.Reduced.{members_like}
use Rattle.lock_compiler.proofs.reducing.members_like.Given as goal

abbrev pub invariant-loop-other : goal.invariant-loop-other
invariant-loop-other l = l.members.items ≡ members_like l.modes l.mode l.other

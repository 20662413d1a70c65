use Rattle.std.proofs.Common.{◌≡◌, drop}
use Rattle.lock_compiler.specs.Wants.{wanted_in}
use Rattle.lock_compiler.proofs.wants.want_at.Given as goal

-- none of the lists so far is for the method
abbrev pub invariant-loop-list : goal.invariant-loop-list
invariant-loop-list l = wanted_in (drop l.list-index l.lists) l.method ≡ wanted_in l.lists l.method

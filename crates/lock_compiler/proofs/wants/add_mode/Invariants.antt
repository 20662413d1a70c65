use Rattle.std.proofs.Common.{◌≡◌, ℕ, ◌++◌, drop}
use Rattle.lock_compiler.specs.LockModes.{wants_among}
use Rattle.lock_compiler.specs.Wants.{wanted_in}
use Rattle.lock_compiler.proofs.wants.add_mode.Given as goal

-- with what is wanted of the members that are left it comes to all
abbrev pub invariant-loop-member : goal.invariant-loop-member
invariant-loop-member l = (m : ℕ) → wanted_in l.lists.items m ++ wants_among l.mode (drop l.member-index l.members) m ≡ wanted_in l.initial.lists.items m ++ wants_among l.mode l.members m

use Rattle.std.proofs.Common.{◌≡◌, ℕ, ◌++◌, drop}
use Rattle.lock_compiler.specs.LockModes.{wants_from, wants_of}
use Rattle.lock_compiler.specs.Wants.{modes_of, wanted_in}
use Rattle.lock_compiler.proofs.wants.wants_by_method.Given as goal

-- with what is wanted of the modes that are left it comes to all
abbrev pub invariant-loop-number : goal.invariant-loop-number
invariant-loop-number l = (m : ℕ) → wanted_in l.lists.items m ++ wants_from l.number (modes_of (drop l.number l.modes)) m ≡ wants_of (modes_of l.modes) m

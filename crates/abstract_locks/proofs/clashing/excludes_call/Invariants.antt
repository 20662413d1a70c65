use Rattle.std.proofs.Common.{◌≡◌, ℕ, ◌-◌, ◌<◌, Some, length}
use Rattle.std.specs.Prelude.{slice_get}
use Rattle.lock_compiler.specs.declared.modes.Need.{Need}
use Rattle.lock_compiler.specs.LockModes.{needs_of}
use Rattle.abstract_locks.specs.LockScreens.{Excludes}
use Rattle.abstract_locks.proofs.clashing.excludes_call.Given as goal

-- none of the needs so far is kept out
abbrev pub invariant-asks : goal.invariant-asks
invariant-asks l = (k : ℕ) (need : Need) → k < l.place → slice_get (needs_of l.modes l.asked) k ≡ Some need → Excludes l.modes l.held need → ⊥

abbrev pub decreases-asks : goal.decreases-asks
decreases-asks l = length (needs_of l.modes l.asked) - l.place

use Rattle.std.proofs.Common.{◌≡◌, ℕ, ◌-◌, ◌<◌, Some, length}
use Rattle.std.specs.Prelude.{slice_get}
use Rattle.std.specs.List.{Any}
use Rattle.lock_compiler.specs.declared.modes.Need.{Need}
use Rattle.lock_compiler.specs.LockModes.{needs_of}
use Rattle.abstract_locks.specs.LockScreens.{Excludes}
use Rattle.abstract_locks.proofs.clashing.calls_clash.Given as goal

-- none of the held needs so far keeps the asked call out
abbrev pub invariant-holds : goal.invariant-holds
invariant-holds l =
    (k : ℕ) (need : Need) → k < l.place → slice_get (needs_of l.modes l.held) k ≡ Some need → Any (Excludes l.modes need) (needs_of l.modes l.asked) → ⊥

abbrev pub decreases-holds : goal.decreases-holds
decreases-holds l = length (needs_of l.modes l.held) - l.place

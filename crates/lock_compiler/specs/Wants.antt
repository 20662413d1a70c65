-- Modes as the code keeps them.
use Rattle.std.specs.Prelude.{◌≡◌, ℕ, ◌^◌, ◌<◌, ◌==◌, Bool, List, [], ◌∷◌, map, length, if◌then◌else◌}
use Rattle.lock_compiler.specs.declared.modes.Mode.{Mode}
use Rattle.lock_compiler.specs.declared.wants.MethodWants.{MethodWants}
use Rattle.lock_compiler.specs.LockModes.{LockMode, LockModes, Want, wants_of}

abbrev pub mode_of : Mode → LockMode
mode_of mode = record { members = mode.members.items; refuses = mode.refuses.items }

abbrev pub modes_of : List Mode → LockModes
modes_of modes = map mode_of modes

abbrev pub is_for : ℕ → MethodWants → Bool
is_for method wants = wants.method == method

-- what calls of a method want, by the first list for this method
abbrev pub wanted_in : List MethodWants → ℕ → List Want
wanted_in [] method = []
wanted_in (wants ∷ others) method = if wants.method == method then wants.wants.items else wanted_in others method

-- there are few enough modes to number them, and few enough wants, and the lists have what calls of each method want
pub record AreKeptWants (modes : LockModes) (lists : List MethodWants) : Type 0 where
  pub few : length modes < 2 ^ 32
  pub few_wants : (method : ℕ) → length (wants_of modes method) < 2 ^ 32
  pub wants : (method : ℕ) → wanted_in lists method ≡ wants_of modes method

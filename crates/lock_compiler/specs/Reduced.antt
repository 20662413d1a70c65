-- Modes made as few as their compatibility allows.
use Rattle.std.specs.Prelude.{ℕ, zero, suc, Bool, true, false, not, ◌&&◌, List, [], ◌∷◌, ◌++◌, length, map, if◌then◌else◌}
use Rattle.lock_compiler.specs.LockModes.{Member, LockMode, LockModes, members_at, incompatible}

-- all numbers below one pass a test
abbrev pub all_below : (ℕ → Bool) → ℕ → Bool
all_below test zero = true
all_below test (suc n) = all_below test n && test n

-- those that pass it, rising
abbrev pub numbers_below : (ℕ → Bool) → ℕ → List ℕ
numbers_below test zero = []
numbers_below test (suc n) = if test n then numbers_below test n ++ n ∷ [] else numbers_below test n

abbrev pub same_answer : Bool → Bool → Bool
same_answer true answer = answer
same_answer false answer = not answer

-- two modes are compatible, whichever of them is held
abbrev pub are_compatible : LockModes → ℕ → ℕ → Bool
are_compatible modes x y = not (incompatible modes x y) && not (incompatible modes y x)

-- a mode is compatible with all, held and asked for
abbrev pub is_idle_mode : LockModes → ℕ → Bool
is_idle_mode modes mode = all_below (are_compatible modes mode) (length modes)

-- one mode is incompatible with both of two others or with none of them, held, and so it is where it is asked for
abbrev pub tells_alike : LockModes → ℕ → ℕ → ℕ → Bool
tells_alike modes x y other = same_answer (incompatible modes x other) (incompatible modes y other) && same_answer (incompatible modes other x) (incompatible modes other y)

-- two modes are incompatible with the same modes, held and asked for
abbrev pub are_alike : LockModes → ℕ → ℕ → Bool
are_alike modes x y = all_below (tells_alike modes x y) (length modes)

abbrev pub is_unlike : LockModes → ℕ → ℕ → Bool
is_unlike modes mode earlier = not (are_alike modes earlier mode)

-- a mode that stays: it isn't compatible with all, and none before it is like it
abbrev pub mode_stays : LockModes → ℕ → Bool
mode_stays modes mode = not (is_idle_mode modes mode) && all_below (is_unlike modes mode) mode

abbrev pub staying : LockModes → List ℕ
staying modes = numbers_below (mode_stays modes) (length modes)

-- the members of the modes below a number that are like this one
abbrev pub members_like : LockModes → ℕ → ℕ → List Member
members_like modes mode zero = []
members_like modes mode (suc n) = if are_alike modes mode n then members_like modes mode n ++ members_at modes n else members_like modes mode n

-- a mode that stays, with the members of all that are like it
abbrev pub merged_mode : LockModes → ℕ → LockMode
merged_mode modes mode = record { members = members_like modes mode (length modes); refuses = map (incompatible modes mode) (staying modes) }

-- the modes that stay, numbered again
abbrev pub reduced : LockModes → LockModes
reduced modes = map (merged_mode modes) (staying modes)

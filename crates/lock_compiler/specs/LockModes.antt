-- Lock modes, what calls need of them, and which calls clash.
use Rattle.std.specs.Prelude.{◌≡◌, ℕ, ◌+◌, ◌==◌, ℤ, pos, Bool, true, false, Option, Some, None, List, [], ◌∷◌, ◌++◌, map, Contains, slice_index_or, refl, if◌then◌else◌}
use Rattle.std.specs.Coded.{Coded, code_by, coded×, coded_ℕ, coded_bool, coded_list, coded_option}
use Rattle.gx_base.specs.declared.calls.Made.{Made}
use Rattle.gx_base.specs.Conditions.{value_of}
use Rattle.lock_compiler.specs.declared.modes.Need.{Need}

-- what is locked: a method with the number of a value of its calls, or with none where it is the method as a whole
abbrev pub Member : Type 0
Member = ℕ × Option ℕ

-- a mode: its members, and whether it refuses, when held, each mode that is asked for, by their numbers
pub record LockMode : Type 0 where
  pub members : List Member
  pub refuses : List Bool

-- modes are numbered from 0
abbrev pub LockModes : Type 0
LockModes = List LockMode

abbrev pub no_mode : LockMode
no_mode = record { members = []; refuses = [] }

abbrev pub members_at : LockModes → ℕ → List Member
members_at modes number = (slice_index_or modes number no_mode).members

-- a held mode and an asked one are incompatible
abbrev pub incompatible : LockModes → ℕ → ℕ → Bool
incompatible modes held asked = slice_index_or (slice_index_or modes held no_mode).refuses asked false

-- what a call of a method wants to lock: a mode by its number, with the number of a value of the call or with none
abbrev pub Want : Type 0
Want = ℕ × Option ℕ

abbrev pub wants_among : ℕ → List Member → ℕ → List Want
wants_among number [] method = []
wants_among number (member ∷ members) method = if member.0 == method then (number, member.1) ∷ wants_among number members method else wants_among number members method

abbrev pub wants_from : ℕ → LockModes → ℕ → List Want
wants_from number [] method = []
wants_from number (mode ∷ modes) method = wants_among number mode.members method ++ wants_from (number + 1) modes method

-- one for each member of the method, in the order of the modes
abbrev pub wants_of : LockModes → ℕ → List Want
wants_of modes method = wants_from 0 modes method

-- the value that is locked, which is 0 for a method as a whole
abbrev pub locked_value : Made → Option ℕ → ℤ
locked_value made None = pos 0
locked_value made (Some place) = value_of made place

abbrev pub need_of : Made → Want → Need
need_of made want = record { mode = want.0; value = locked_value made want.1 }

-- what a call with its reply needs
abbrev pub needs_of : LockModes → Made → List Need
needs_of modes made = map (need_of made) (wants_of modes made.call.method)

-- a need of the first call, held, and a need of the second, asked for, have equal values and incompatible modes
pub record Clash (modes : LockModes) (first second : Made) : Type 0 where
  pub held : Need
  pub asked : Need
  pub held_by_first : Contains (needs_of modes first) held
  pub asked_by_second : Contains (needs_of modes second) asked
  pub equal_values : held.value ≡ asked.value
  pub refused : incompatible modes held.mode asked.mode ≡ true

-- modes are stored as their fields
abbrev pub mode_code : Coded LockMode
mode_code =
    code_by (List Member × List Bool)
    (coded× (coded_list (coded× coded_ℕ (coded_option coded_ℕ))) (coded_list coded_bool))
    (λ mode. (mode.members, mode.refuses))
    (λ p. record { members = p.0; refuses = p.1 })
    (λ _. refl)

abbrev pub modes_code : Coded LockModes
modes_code = coded_list mode_code

-- What a kind of object is.
use Rattle.std.specs.Prelude.{ℕ, ◌+◌, ◌&&◌, Bool, false, nat_le, nat_lt, List, [], length}
use Rattle.gx_base.specs.States.{State}
use Rattle.gx_base.specs.Meanings.{Meaning, no_meaning}

-- its own word, the number of its first method, which the others follow one after another, the words of its methods by rising number,
-- what its calls do, what the rows of its states may hold, and whether it has a state function
pub record ObjectKind : Type 1 where
  pub word : List ℕ
  pub first : ℕ
  pub words : List (List ℕ)
  pub meaning : Meaning
  pub may_hold : State → Type 0
  pub has_state_function : Bool

-- there is a method of this number, where methods have these words, from this number on
abbrev pub is_among : ℕ → List (List ℕ) → ℕ → Bool
is_among first words method = nat_le first method && nat_lt method (first + length words)

-- what stands for the numbers that no kind has: it has no methods
abbrev pub no_kind : ObjectKind
no_kind = record { word = []; first = 0; words = []; meaning = no_meaning; may_hold = λ s. Unit {0}; has_state_function = false }

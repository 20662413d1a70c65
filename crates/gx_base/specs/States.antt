-- The abstract state that all objects share.
use Rattle.std.specs.Prelude.{◌≡◌, ℕ, ℤ, false, pos, Option, Some, None, List, [], ◌∷◌, if◌then◌else◌, FitsSigned, refl}
use Rattle.std.specs.Coded.{Coded, code_by, coded×, coded_ℕ, coded_ℤ, coded_list}
use Rattle.std.specs.Ordering.{nat_cmp, int_cmp, int_eq, ordering_then}
use Rattle.std.specs.declared.cmp.Ordering.{Ordering}
use Rattle.std.specs.FinMap as map
use Rattle.std.specs.Int.{w64}

-- rows are ordered by their sort, and then by their number
abbrev pub row_cmp : (ℕ × ℤ) → (ℕ × ℤ) → Ordering
row_cmp x y = ordering_then (nat_cmp x.0 y.0) (int_cmp x.1 y.1)

-- the number of the kind, and the rows
pub record State : Type 0 where
  pub kind : ℕ
  pub rows : map.FinMap row_cmp (List ℤ)

-- the first number of a row, or 0
abbrev pub first_or_zero : Option (List ℤ) → ℤ
first_or_zero None = pos 0
first_or_zero (Some []) = pos 0
first_or_zero (Some (x ∷ xs)) = x

-- the row of a sort and a number
abbrev pub row_at : State → ℕ × ℤ → Option (List ℤ)
row_at s key = map.get s.rows key

-- the rows with another one in this place
abbrev pub rows_put : map.FinMap row_cmp (List ℤ) → ℕ × ℤ → Option (List ℤ) → map.FinMap row_cmp (List ℤ)
rows_put m key None = map.remove m key
rows_put m key (Some xs) = map.insert m key xs

-- the state with another row in this place
abbrev pub with_row : State → ℕ × ℤ → Option (List ℤ) → State
with_row s key row = record { kind = s.kind; rows = rows_put s.rows key row }

-- the number in a row, or 0
abbrev pub number_at : State → ℕ × ℤ → ℤ
number_at s key = first_or_zero (map.get s.rows key)

-- the rows with this number in a row. There is no row for 0
abbrev pub rows_with : map.FinMap row_cmp (List ℤ) → ℕ × ℤ → ℤ → map.FinMap row_cmp (List ℤ)
rows_with m key x = if int_eq x (pos 0) then map.remove m key else map.insert m key (x ∷ [])

-- the state with this number in a row
abbrev pub with_number : State → ℕ × ℤ → ℤ → State
with_number s key x = record { kind = s.kind; rows = rows_with s.rows key x }

-- a row holds one number of 64 bits, other than 0
abbrev pub IsNumberRow : Option (List ℤ) → Type 0
IsNumberRow None = Unit {0}
IsNumberRow (Some []) = ⊥
IsNumberRow (Some (x ∷ [])) = FitsSigned w64 x × (int_eq x (pos 0) ≡ false)
IsNumberRow (Some (x ∷ y ∷ ys)) = ⊥

-- each row holds one number other than 0
abbrev pub HoldsNumbers : State → Type 0
HoldsNumbers s = (key : ℕ × ℤ) → IsNumberRow (map.get s.rows key)

-- a state is stored as the pair of its fields
abbrev pub state_code : Coded State
state_code =
    code_by (ℕ × map.FinMap row_cmp (List ℤ)) (coded× coded_ℕ (map.code (coded× coded_ℕ coded_ℤ) (coded_list coded_ℤ))) (λ s. (s.kind, s.rows)) (λ p. record { kind = p.0; rows = p.1 }) (λ _. refl)

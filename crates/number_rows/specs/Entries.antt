-- The entries of a hashed map of numbers.
use Rattle.std.specs.Prelude.{ℕ, ℤ, pos, Bool, false, cond, List, Option, Some, None, count_by, unwrap_or, FitsSigned}
use Rattle.std.specs.Int.{w64}
use Rattle.std.specs.Ordering.{int_eq}
use Rattle.std.specs.Map.{lookup}

-- each key has a number of 64 bits
abbrev pub FitAll : List (ℤ × ℤ) → Type 0
FitAll es = (k : ℤ) → FitsSigned w64 (unwrap_or (lookup (int_eq k) es) (pos 0))

abbrev pub is_zero : ℤ → Bool
is_zero x = int_eq x (pos 0)

-- how many entries hold 0
abbrev pub dead_in : List (ℤ × ℤ) → ℕ
dead_in es = count_by (λ e. is_zero e.1) es

abbrev pub one_if : Bool → ℕ
one_if b = cond b 1 0

-- a look-up finds 0
abbrev pub found_zero : Option ℤ → Bool
found_zero None = false
found_zero (Some x) = is_zero x

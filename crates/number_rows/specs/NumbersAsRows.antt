-- The rows of an abstract state that numbers by key are.
use Rattle.std.specs.Prelude.{ℕ, ℤ, pos, List, [], ◌∷◌, unwrap_or}
use Rattle.std.specs.Ordering.{int_cmp}
use Rattle.std.specs.FinMap as map
use Rattle.gx_base.specs.States.{row_cmp, rows_with}

-- the number of a key, 0 where it has no row
abbrev pub number_in : map.FinMap int_cmp ℤ → ℤ → ℤ
number_in m k = unwrap_or (map.get m k) (pos 0)

abbrev pub entries_onto : map.FinMap row_cmp (List ℤ) → ℕ → List (ℤ × ℤ) → map.FinMap row_cmp (List ℤ)
entries_onto base sort [] = base
entries_onto base sort (e ∷ es) = rows_with (entries_onto base sort es) (sort, e.0) e.1

-- the rows of a state, with the numbers written over those of one sort
unfoldable pub rows_onto : map.FinMap row_cmp (List ℤ) → ℕ → map.FinMap int_cmp ℤ → map.FinMap row_cmp (List ℤ)
rows_onto base sort m = entries_onto base sort (map.entries m)

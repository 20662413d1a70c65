-- Which pairs of methods have a row.
use Rattle.std.specs.Prelude.{ℕ, Bool, ◌==◌, ◌&&◌, List}
use Rattle.std.specs.List.{list_any}

-- the pair is that of these methods
abbrev pub is_pair : ℕ → ℕ → ℕ × ℕ → Bool
is_pair first second pair = (pair.0 == first) && (pair.1 == second)

-- the pair of these methods stands in the list
abbrev pub has_pair : List (ℕ × ℕ) → ℕ → ℕ → Bool
has_pair pairs first second = list_any (is_pair first second) pairs

-- What reading a file means, where it is told.
use Rattle.std.specs.Prelude.{◌≡◌, ℕ, ◌≤◌, List, take, drop, length, ◌++◌, Option, Some}

-- n bytes went from the front of what was left to the front of the piece
pub record Gives (was : List ℕ) (now : Option (List ℕ)) (piece : List ℕ) (n : ℕ) : Type 0 where
  pub enough : n ≤ length was
  pub front : take n piece ≡ take n was
  pub rest : now ≡ Some (drop n was)

-- these bytes came, and the rest of all is left
pub record HasCome (all : List ℕ) (left : Option (List ℕ)) (bytes : List ℕ) : Type 0 where
  pub rest : List ℕ
  pub is_left : left ≡ Some rest
  pub whole : all ≡ bytes ++ rest

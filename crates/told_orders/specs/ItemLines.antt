-- Items that have lines of their own, and texts that begin with the lines of an order of them.
use Rattle.std.specs.Prelude.{◌≡◌, ℕ, Bool, true, false, not, ◌&&◌, ◌==◌, List, [], ◌∷◌, ◌++◌, ⊤}
use Rattle.std.specs.List.{flat_map}
use Rattle.gx_base.specs.declared.items.Item.{Item}

-- no line feed (10) is among the bytes
abbrev pub has_no_feed : List ℕ → Bool
has_no_feed [] = true
has_no_feed (b ∷ bs) = not (b == 10) && has_no_feed bs

-- each such item has a line that begins with the same byte, and no two of them have the same line
pub record HaveOwnLines (IsOne : Item → Type 0) (first : ℕ) (line : Item → List ℕ) : Type 0 where
  pub text : Item → List ℕ
  pub is_line : (item : Item) → line item ≡ first ∷ (text item ++ 10 ∷ [])
  pub has_one_feed : (item : Item) → IsOne item → has_no_feed (text item) ≡ true
  pub is_own : (item other : Item) → IsOne item → IsOne other → line item ≡ line other → item ≡ other

-- no line that begins with this byte is the first
abbrev pub BeginsOtherwise : ℕ → List ℕ → Type 0
BeginsOtherwise first [] = ⊤
BeginsOtherwise first (b ∷ bs) = (b == first) ≡ false

-- the bytes begin with a line for each item of the order, in turn, and what stands after these is told apart from such lines
pub record BeginsWithLines (first : ℕ) (line : Item → List ℕ) (bytes : List ℕ) (order : List Item) : Type 0 where
  pub more : List ℕ
  pub begins : bytes ≡ flat_map line order ++ more
  pub told_apart : BeginsOtherwise first more

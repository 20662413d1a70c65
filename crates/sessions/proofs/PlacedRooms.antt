-- Rooms by rising number: where one more is to stand, and what is left once some are done with.
use Rattle.std.specs.Prelude.{◌≡◌, ℕ, zero, suc, List, [], ◌∷◌, ◌++◌, take, drop, refl}
use Rattle.std.specs.Ordering.{nat_cmp}
use Rattle.std.specs.BTreeSet.{insert_key}
use Rattle.sessions.specs.RoomLists.{rooms_after_first}

-- past so many others, the room is still to be put among the rest
abbrev pub put_past : List ℕ → ℕ → ℕ → List ℕ
put_past rooms place room = take place rooms ++ insert_key nat_cmp (drop place rooms) room

-- with one more done with, what is left is the rest of what was left
pub rest_left : (rooms : List ℕ) (passed : ℕ) → rooms_after_first (drop passed rooms) ≡ drop (suc passed) rooms
rest_left [] zero = refl
rest_left [] (suc passed) = refl
rest_left (x ∷ xs) zero = refl
rest_left (x ∷ xs) (suc passed) = rest_left xs passed

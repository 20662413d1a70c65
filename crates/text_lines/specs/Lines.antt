-- The lines of a text, as lists of bytes.
use Rattle.std.specs.Prelude.{ℕ, Bool, false, ◌&&◌, ◌==◌, if◌then◌else◌, List, [], ◌∷◌, length}

-- the same pieces, with a byte more at the front of the first one
abbrev pub onto : ℕ → List (List ℕ) → List (List ℕ)
onto b [] = (b ∷ []) ∷ []
onto b (piece ∷ pieces) = (b ∷ piece) ∷ pieces

-- whether the first byte is b
abbrev pub begins_with : ℕ → List ℕ → Bool
begins_with b [] = false
begins_with b (c ∷ bs) = c == b

-- The lines of a text. A line feed (10) ends a line, and one carriage return (13) right before it goes with it;
-- any other carriage return is a byte of its line. What follows the last line feed is a line where it isn't empty.
abbrev pub lines_of : List ℕ → List (List ℕ)
lines_of [] = []
lines_of (b ∷ bs) =
    if b == 10 then [] ∷ lines_of bs
    else if begins_with 10 bs && b == 13 then lines_of bs
    else onto b (lines_of bs)

-- the line without one carriage return at its end
abbrev pub without_return_of : List ℕ → List ℕ
without_return_of [] = []
without_return_of (b ∷ bs) = if length bs == 0 && b == 13 then [] else b ∷ without_return_of bs

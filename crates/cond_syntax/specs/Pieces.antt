-- The pieces of a line: the longest runs of signs that belong together.
use Rattle.std.specs.Prelude.{ℕ, Bool, false, ◌&&◌, ◌||◌, ◌==◌, if◌then◌else◌, List, [], ◌∷◌, ◌++◌, length}
use Rattle.std.specs.Char.{is_ascii_digit, is_ascii_alphabetic}
use Rattle.text_lines.specs.Fields.{is_blank}

-- Whether a piece that has these signs goes on with one more: words by letters and digits, numbers (also after
-- a minus, 45) by digits, and an exclamation mark (33) or `<` (60) by one `=` (61).
abbrev pub goes_on : List ℕ → ℕ → Bool
goes_on [] b = false
goes_on (first ∷ more) b =
    if is_ascii_alphabetic first then is_ascii_alphabetic b || is_ascii_digit b
    else if is_ascii_digit first || first == 45 then is_ascii_digit b
    else (first == 33 || first == 60) && length more == 0 && b == 61

-- these pieces, after a piece that has ended
abbrev pub after_piece : List ℕ → List (List ℕ) → List (List ℕ)
after_piece [] pieces = pieces
after_piece (b ∷ bs) pieces = (b ∷ bs) ∷ pieces

-- the pieces of these signs, where a piece with those in front has begun
abbrev pub pieces_from : List ℕ → List ℕ → List (List ℕ)
pieces_from piece [] = after_piece piece []
pieces_from piece (b ∷ bs) =
    if is_blank b then after_piece piece (pieces_from [] bs)
    else if goes_on piece b then pieces_from (piece ++ b ∷ []) bs
    else after_piece piece (pieces_from (b ∷ []) bs)

-- the pieces of a line. Blanks separate pieces and are otherwise ignored
abbrev pub pieces_of : List ℕ → List (List ℕ)
pieces_of line = pieces_from [] line

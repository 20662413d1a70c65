-- The fields of a line, as lists of bytes.
use Rattle.std.specs.Prelude.{◌≡◌, ℕ, Bool, true, false, ◌||◌, ◌==◌, if◌then◌else◌, List, [], ◌∷◌}
use Rattle.text_lines.specs.Lines.{onto}

-- a space or a tab
abbrev pub is_blank : ℕ → Bool
is_blank b = b == 32 || b == 9

-- whether a field that stands before these bytes ends there
abbrev pub ends_here : List ℕ → Bool
ends_here [] = true
ends_here (b ∷ bs) = is_blank b

-- the fields of a line: the longest runs of bytes without a blank
abbrev pub fields_of : List ℕ → List (List ℕ)
fields_of [] = []
fields_of (b ∷ bs) =
    if is_blank b then fields_of bs
    else if ends_here bs then (b ∷ []) ∷ fields_of bs
    else onto b (fields_of bs)

-- no blank is in front
abbrev pub StartsField : List ℕ → Type 0
StartsField [] = Unit {0}
StartsField (b ∷ bs) = is_blank b ≡ false

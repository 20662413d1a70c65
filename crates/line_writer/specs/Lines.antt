-- Lines of text, by their fields.
use Rattle.std.specs.Prelude.{ℕ, List, [], ◌∷◌, ◌++◌}
use Rattle.std.specs.Fmt.{signed_decimal}
use Rattle.line_writer.specs.declared.Field.{Field}
use Rattle.line_writer.specs.declared.Field.TheVariants.{Word, Number}

abbrev pub field_text : Field → List ℕ
field_text (Word word) = word.now
field_text (Number number) = signed_decimal number

-- fields with one space between
abbrev pub spaced : List (List ℕ) → List ℕ
spaced [] = []
spaced (field ∷ []) = field
spaced (field ∷ next ∷ fields) = field ++ 32 ∷ spaced (next ∷ fields)

abbrev pub line : List (List ℕ) → List ℕ
line fields = spaced fields ++ 10 ∷ []

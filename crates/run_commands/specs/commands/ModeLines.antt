-- The lines on lock modes that `classify` writes after those of the rows.
use Rattle.std.specs.Prelude.{◌≡◌, ◌⊎◌, ℕ, nat_le, Option, Some, None, List, [], ◌∷◌, ◌++◌, map, length, codes, if◌then◌else◌}
use Rattle.std.specs.Fmt.{decimal}
use Rattle.std.specs.List.{flat_map, range_with_len}
use Rattle.gx_base.specs.Methods.{word_of}
use Rattle.gx_base.specs.Tables.{Rows}
use Rattle.cond_lattice.specs.Grades.{AreSimple}
use Rattle.cond_syntax.specs.Printing.{letter_of}
use Rattle.line_writer.specs.Lines.{line}
use Rattle.lock_compiler.specs.CompileRefusals.{IsFirstNotSimple}
use Rattle.lock_compiler.specs.Compiled.{compiled}
use Rattle.lock_compiler.specs.LockModes.{Member, LockModes, members_at, incompatible}
use Rattle.lock_compiler.specs.Reduced.{reduced}

-- a star for a method as a whole; for a value the letter of its place, and 0 past place 7
abbrev pub place_sign : Option ℕ → ℕ
place_sign None = 42
place_sign (Some place) = if nat_le place 7 then letter_of place else 48

-- a method and a place
abbrev pub member_text : Member → List ℕ
member_text member = word_of member.0 ++ 46 ∷ place_sign member.1 ∷ []

-- a mode and its members
abbrev pub mode_line : LockModes → ℕ → List ℕ
mode_line modes mode = line (codes "mode" ∷ decimal mode ∷ map member_text (members_at modes mode))

-- whether a held mode excludes an asked one
abbrev pub exclusion_sign : LockModes → ℕ → ℕ → ℕ
exclusion_sign modes held asked = if incompatible modes held asked then 120 else 46

abbrev pub mode_numbers : LockModes → List ℕ
mode_numbers modes = range_with_len 0 (length modes)

-- a held mode, and a sign for each mode that may be asked for
abbrev pub matrix_line : LockModes → ℕ → List ℕ
matrix_line modes held = line (codes "matrix" ∷ decimal held ∷ map (exclusion_sign modes held) (mode_numbers modes) ∷ [])

-- how many modes there are, the modes, and what each excludes
abbrev pub modes_text : LockModes → List ℕ
modes_text modes =
    line (codes "modes" ∷ decimal (length modes) ∷ []) ++ flat_map (mode_line modes) (mode_numbers modes) ++ flat_map (matrix_line modes) (mode_numbers modes)

-- the table has no lock modes, since the row of these two methods isn't simple
abbrev pub none_text : ℕ → ℕ → List ℕ
none_text first second = line (codes "modes" ∷ codes "none" ∷ word_of first ∷ word_of second ∷ [])

-- each row of the kind is simple, and the text tells the table's modes, made few
pub record TellsModes (kind : ℕ) (rows : Rows) (text : List ℕ) : Type 0 where
  pub simple : AreSimple kind rows
  pub is : text ≡ modes_text (reduced (compiled kind rows))

-- some row isn't simple, and the text tells the methods of the first
pub record TellsNone (kind : ℕ) (rows : Rows) (text : List ℕ) : Type 0 where
  pub first : ℕ
  pub second : ℕ
  pub is_first : IsFirstNotSimple kind rows first second
  pub is : text ≡ none_text first second

abbrev pub AreModeLines : ℕ → Rows → List ℕ → Type 0
AreModeLines kind rows text = TellsModes kind rows text ⊎ TellsNone kind rows text

-- What `classify` says of a file: its report, byte by byte, and the lines that it tells.
use Rattle.std.specs.Prelude.{◌≡◌, ℕ, ◌≤◌, List, [], ◌∷◌, ◌++◌, codes}
use Rattle.std.specs.List.{flat_map}
use Rattle.gx_base.specs.declared.kinds.Kind.{Kind}
use Rattle.gx_base.specs.Conditions.{Condition}
use Rattle.gx_base.specs.Kinds.{kind_number}
use Rattle.gx_base.specs.Methods.{methods_of, word_of}
use Rattle.gx_base.specs.Tables.{Rows}
use Rattle.gx_base.specs.TableRows.{RowMap, row_of}
use Rattle.cond_lattice.specs.declared.grades.Grade.{Grade}
use Rattle.cond_lattice.specs.declared.grades.Grade.TheVariants.{Simple, Online, General}
use Rattle.cond_lattice.specs.Grades.{grade_of}
use Rattle.cond_syntax.specs.Printing.{condition_text}
use Rattle.cond_syntax.specs.TableTexts.{all_kinds, Fault, IsTableText, IsFirstFault}
use Rattle.line_writer.specs.Lines.{line}
use Rattle.run_commands.specs.Inputs.{main_of}
use Rattle.run_commands.specs.CommandMeaning.{CommandMeaning}
use Rattle.run_commands.specs.commands.ModeLines.{AreModeLines}

-- the word of a class
abbrev pub class_text : Grade → List ℕ
class_text Simple = codes "SIMPLE"
class_text Online = codes "ONLINE"
class_text General = codes "GENERAL"

-- two methods, the class of their row, and the row
abbrev pub pair_line : ℕ → ℕ → Condition → List ℕ
pair_line first second row = line (codes "row" ∷ word_of first ∷ word_of second ∷ class_text (grade_of row) ∷ condition_text row ∷ [])

abbrev pub class_line : Rows → ℕ → ℕ → List ℕ
class_line rows first second = pair_line first second (rows first second)

-- the lines of the rows with this method first
abbrev pub class_lines : Kind → Rows → ℕ → List ℕ
class_lines kind rows first = flat_map (class_line rows first) (methods_of (kind_number kind))

-- a line for each pair of methods of the kind, by their numbers
abbrev pub rows_text : Kind → Rows → List ℕ
rows_text kind rows = flat_map (class_lines kind rows) (methods_of (kind_number kind))

-- the lines of the rows, and then those on lock modes
pub record IsClassText (kind : Kind) (rows : Rows) (text : List ℕ) : Type 0 where
  pub on_modes : List ℕ
  pub are_mode_lines : AreModeLines (kind_number kind) rows on_modes
  pub is : text ≡ rows_text kind rows ++ on_modes

-- the file is the text of a table of one of the wanted kinds, and this tells its rows and its modes
pub record IsClassReport (wanted : List Kind) (bytes report : List ℕ) : Type 0 where
  pub kind : Kind
  pub rows : RowMap
  pub is_table : IsTableText wanted bytes kind rows
  pub is_report : IsClassText kind (row_of rows) report

-- the file is the text of a table of one of the wanted kinds
pub record IsTable (wanted : List Kind) (bytes : List ℕ) : Type 0 where
  pub kind : Kind
  pub rows : RowMap
  pub is_table : IsTableText wanted bytes kind rows

-- the file is no text of a table of one of the wanted kinds, and this is the first line with a fault
pub record IsFaultyTable (wanted : List Kind) (bytes : List ℕ) (line : ℕ) : Type 0 where
  pub fault : Fault
  pub is_first : IsFirstFault wanted bytes line fault

-- a table of any kind is wanted; lines are counted from 1, no table is too large, and nothing commits
abbrev pub classify_meaning : CommandMeaning
classify_meaning = record {
  reported = λ inputs report. IsClassReport all_kinds (main_of inputs) report;
  bad_table = λ inputs why. ⊥;
  malformed = λ inputs line. IsFaultyTable all_kinds (main_of inputs) line;
  too_large = λ inputs what. ⊥;
  passes = λ inputs limit. ⊥;
  ends = λ inputs. IsTable all_kinds (main_of inputs);
  faults = λ why. ⊥;
  lines = λ line. 1 ≤ line;
  limits = λ what. ⊥;
  runs_on = ⊥;
}

-- The table of the gates of a kind.
use Rattle.std.specs.Prelude.{◌≡◌, ℕ, ◌≤◌, true, false, ◌&&◌, ◌==◌, if◌then◌else◌, Option, Some, None, List, ⊤}
use Rattle.std.specs.FinMap as map
use Rattle.gx_base.specs.Methods.{is_method}
use Rattle.gx_base.specs.Tables.{Rows}
use Rattle.gx_base.specs.TableRows.{RowMap, row_of}
use Rattle.gx_base.specs.declared.kinds.Kind.{Kind}
use Rattle.gx_base.specs.declared.kinds.Choice.{Choice}
use Rattle.gx_base.specs.Kinds.{kind_number}
use Rattle.gx_base.specs.ShippedTables.{KindTables}
use Rattle.table_choice.specs.RunTables.{IsTableOfRun, IsFaultyText, IsAbove}
use Rattle.run_commands.specs.declared.run_faults.TableFault.{TableFault}
use Rattle.run_commands.specs.declared.run_faults.TableFault.TheVariants.{Line, Pair}
use Rattle.run_commands.specs.declared.run_faults.RunFault.{RunFault}
use Rattle.run_commands.specs.declared.run_faults.RunFault.TheVariants.{BadTable, NoMemory}

-- the table has the rows of a kind's pairs of methods, and no others. There is one such table
abbrev pub IsWholeTable : ℕ → Rows → RowMap → Type 0
IsWholeTable kind rows table = (first second : ℕ) → map.get table (first, second) ≡ (if is_method kind first && is_method kind second then Some (rows first second) else None)

-- the table after has these rows of the kind's pairs with this method first, and else what it had before
pub record GainsRows (kind : ℕ) (rows : Rows) (first : ℕ) (before after : RowMap) : Type 0 where
  pub has : (second : ℕ) → is_method kind second ≡ true → map.get after (first, second) ≡ Some (rows first second)
  pub outside : (second : ℕ) → is_method kind second ≡ false → map.get after (first, second) ≡ map.get before (first, second)
  pub others : (other second : ℕ) → (other == first) ≡ false → map.get after (other, second) ≡ map.get before (other, second)

-- the fault tells of a table, or of want of memory
abbrev pub TellsTable : RunFault → Type 0
TellsTable (BadTable why) = ⊤
TellsTable NoMemory = ⊤
TellsTable _ = ⊥

-- it has the rows of the table of the run: the shipped one that the words name, or that of a user's conditions, which is below the
-- precise one. There is one such table
pub record IsRunTable (kind : Kind) (tables : KindTables) (choice : Choice) (conditions : Option (List ℕ)) (table : RowMap) : Type 0 where
  pub rows : RowMap
  pub are_rows : IsTableOfRun kind tables choice conditions rows
  pub is_whole : IsWholeTable (kind_number kind) (row_of rows) table

-- conditions are refused at the first line that is at fault, or for the first pair of methods whose row isn't below the precise one
abbrev pub IsBadTable : Kind → KindTables → Option (List ℕ) → TableFault → Type 0
IsBadTable kind tables None why = ⊥
IsBadTable kind tables (Some bytes) (Line line) = IsFaultyText kind bytes line
IsBadTable kind tables (Some bytes) (Pair first second) = IsAbove kind tables.precise bytes first second

-- the faults of conditions that may be told: lines are counted from 1, and pairs are of methods of the kind
abbrev pub IsTableFault : Kind → TableFault → Type 0
IsTableFault kind (Line line) = 1 ≤ line
IsTableFault kind (Pair first second) = (is_method (kind_number kind) first ≡ true) × (is_method (kind_number kind) second ≡ true)

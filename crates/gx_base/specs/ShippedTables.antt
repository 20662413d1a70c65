-- The tables that an object ships: what stands in each row, for each choice.
use Rattle.std.specs.Prelude.{◌≡◌, ℕ, Bool, if◌then◌else◌}
use Rattle.gx_base.specs.declared.kinds.Choice.{Choice}
use Rattle.gx_base.specs.declared.kinds.Choice.TheVariants.{Precise, Simple, Rw, Global}
use Rattle.gx_base.specs.Conditions.{False}
use Rattle.gx_base.specs.Tables.{Rows, IsValid, KeepsToKind}
use Rattle.gx_base.specs.TableRows.{RowMap, row_of}

-- what a kind ships: the weakest rows, those that locks can keep, and those of readers and writers
pub record KindTables : Type 0 where
  pub precise : Rows
  pub simple : Rows
  pub reader_writer : Rows

-- no two calls may be swapped
abbrev pub false_rows : Rows
false_rows first second = False

-- the rows of a choice, with one lock for all under the last
abbrev pub rows_chosen : KindTables → Choice → Rows
rows_chosen tables Precise = tables.precise
rows_chosen tables Simple = tables.simple
rows_chosen tables Rw = tables.reader_writer
rows_chosen tables Global = false_rows

-- the objects of a kind may use these tables: whatever the choice, the rows are valid, and false for other methods
pub record SuitKind (kind : ℕ) (tables : KindTables) : Type 0 where
  pub valid : (choice : Choice) → IsValid kind (rows_chosen tables choice)
  pub keeps_to_kind : (choice : Choice) → KeepsToKind kind (rows_chosen tables choice)

-- the rows that a type ships: those of the kind where the type holds it, and else false ones
abbrev pub rows_shipped : Bool → KindTables → Choice → Rows
rows_shipped holds_kind tables choice = if holds_kind then rows_chosen tables choice else false_rows

-- the table has the rows that the type ships for this choice
abbrev pub IsShipped : Bool → KindTables → Choice → RowMap → Type 0
IsShipped holds_kind tables choice table = (first second : ℕ) → row_of table first second ≡ rows_shipped holds_kind tables choice first second

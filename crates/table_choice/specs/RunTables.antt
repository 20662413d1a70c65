-- The table of a run, and when one that a user wrote is refused.
use Rattle.std.specs.Prelude.{◌≡◌, ◌⊎◌, ℕ, Result, Ok, Err, Option, Some, None, List, [], ◌∷◌}
use Rattle.gx_base.specs.declared.kinds.Choice.{Choice}
use Rattle.gx_base.specs.declared.kinds.Kind.{Kind}
use Rattle.gx_base.specs.Kinds.{kind_number}
use Rattle.gx_base.specs.ShippedTables.{KindTables, rows_chosen}
use Rattle.gx_base.specs.TableRows.{RowMap, row_of}
use Rattle.gx_base.specs.Tables.{Rows, IsValid, KeepsToKind}
use Rattle.cond_lattice.specs.Tables.{AreRowsBelow, IsFirstNotBelow}
use Rattle.cond_syntax.specs.TableTexts.{Fault, IsTableText, IsFirstFault}
use Rattle.table_choice.specs.declared.refusals.TableRefuse.{TableRefuse}
use Rattle.cond_text.specs.declared.faults.TextFault.{TextFault}
use Rattle.cond_text.specs.declared.faults.TextFault.TheVariants.{Syntax, UnknownMethod, UnknownName, Twice, TooDeep, NoMemory as NoMemoryForText}
use Rattle.table_choice.specs.declared.refusals.TableRefuse.TheVariants.{Line, NotBelow, NoMemory}

-- the bytes are the text of this table of the kind, each of whose rows is below the other's
pub record IsAccepted (kind : Kind) (upper : Rows) (bytes : List ℕ) (table : RowMap) : Type 0 where
  pub is_table : IsTableText (kind ∷ []) bytes kind table
  pub below : AreRowsBelow (kind_number kind) (row_of table) upper

-- the bytes are no text of a table of the kind, and have their first fault on this line
pub record IsFaultyText (kind : Kind) (bytes : List ℕ) (line : ℕ) : Type 0 where
  pub fault : Fault
  pub is_first : IsFirstFault (kind ∷ []) bytes line fault

-- they are the text of a table of the kind, and this is the first pair of methods whose row isn't below the other's
pub record IsAbove (kind : Kind) (upper : Rows) (bytes : List ℕ) (first second : ℕ) : Type 0 where
  pub table : RowMap
  pub is_table : IsTableText (kind ∷ []) bytes kind table
  pub pair : IsFirstNotBelow (kind_number kind) (row_of table) upper first second

-- a refusal comes exactly where it has cause to, but for want of memory
pub record RefusesWhere {A : Type 0} (cause : Type 0) (refusal : TableRefuse) (result : Result A TableRefuse) : Type 0 where
  pub only : result ≡ Err refusal → cause
  pub always : cause → (result ≡ Err refusal) ⊎ (result ≡ Err NoMemory)

-- a gate of the kind may have the table
pub record MayServe (kind : ℕ) (rows : Rows) : Type 0 where
  pub valid : IsValid kind rows
  pub keeps_to_kind : KeepsToKind kind rows

-- without a user's own the table is the shipped one of the choice, and else the user's, which is accepted below the precise one
abbrev pub IsTableOfRun : Kind → KindTables → Choice → Option (List ℕ) → RowMap → Type 0
IsTableOfRun kind tables choice None table = (first second : ℕ) → row_of table first second ≡ rows_chosen tables choice first second
IsTableOfRun kind tables choice (Some bytes) table = IsAccepted kind tables.precise bytes table

-- whatever is wrong with a text, its line is told
abbrev pub table_refusal : TextFault → TableRefuse
table_refusal (Syntax line) = Line line
table_refusal (UnknownMethod line) = Line line
table_refusal (UnknownName line) = Line line
table_refusal (Twice line) = Line line
table_refusal (TooDeep line) = Line line
table_refusal NoMemoryForText = NoMemory

-- this table is given, but for want of memory
abbrev pub GivesRunTable : RowMap → Result RowMap TableRefuse → Type 0
GivesRunTable table (Ok given) = given ≡ table
GivesRunTable table (Err refused) = refused ≡ NoMemory

-- the refusal tells the first pair whose row isn't below
abbrev pub IsPairRefusal : ℕ → Rows → Rows → TableRefuse → Type 0
IsPairRefusal kind lower upper (NotBelow first second) = IsFirstNotBelow kind lower upper first second
IsPairRefusal kind lower upper _ = ⊥

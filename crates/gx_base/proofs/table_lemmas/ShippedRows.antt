-- What an object ships is valid for its kind, and false for methods of other kinds.
use Rattle.std.specs.Prelude.{◌≡◌, ℕ, Bool, true, false, IsTrue, refl}
use Rattle.std.proofs.Common.{sym, subst}
use Rattle.gx_base.specs.declared.kinds.Choice.{Choice}
use Rattle.gx_base.specs.ShippedTables.{KindTables, SuitKind, false_rows, rows_shipped, IsShipped}
use Rattle.gx_base.specs.TableRows.{RowMap, row_of}
use Rattle.gx_base.specs.Tables.{Rows, KeepsToKind, IsValid}

-- the rows are valid, and false for methods that aren't the kind's
pub record Serves (kind : ℕ) (rows : Rows) : Type 0 where
  pub valid : IsValid kind rows
  pub keeps_to_kind : KeepsToKind kind rows

false_rows-IsValid : (kind : ℕ) → IsValid kind false_rows
false_rows-IsValid kind = record {
  swaps = λ s a b e h fa fb t. absurd (cc);
  sees_first = λ s a b e h fa fb t l. absurd (cc);
  sees_second = λ s a b e h fa fb t l. absurd (cc);
}

serves_by : (held : Bool) (kind : ℕ) (tables : KindTables) (choice : Choice) → (IsTrue held → SuitKind kind tables) → Serves kind (rows_shipped held tables choice)
serves_by true kind tables choice suit = record { valid = (suit refl).valid choice; keeps_to_kind = (suit refl).keeps_to_kind choice }
serves_by false kind tables choice suit = record { valid = false_rows-IsValid kind; keeps_to_kind = λ first second f. refl }

pub shipped_serves : (held : Bool) (kind : ℕ) (tables : KindTables) (choice : Choice) (table : RowMap) → (IsTrue held → SuitKind kind tables) → IsShipped held tables choice table → Serves kind (row_of table)
shipped_serves held kind tables choice table suit h =
    let same : ◌≡◌ {A = Rows} (rows_shipped held tables choice) (row_of table) = λ i first second. sym (h first second) i in
    subst (Serves kind) same (serves_by held kind tables choice suit)

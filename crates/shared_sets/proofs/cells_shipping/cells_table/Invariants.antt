use Rattle.std.proofs.Common.{◌≡◌, ℕ}
use Rattle.gx_base.specs.Methods.{first_method}
use Rattle.gx_base.specs.ShippedTables.{rows_chosen}
use Rattle.gx_base.specs.TableRows.{row_of}
use Rattle.gx_base.specs.declared.kinds.Kind.TheVariants.{Cells}
use Rattle.gx_base.specs.Kinds.{kind_number}
use Rattle.kind_tables.proofs.CallerLemmas.{filled_to}
use Rattle.shared_sets.specs.CellsTables.{cells_tables}
use Rattle.shared_sets.proofs.cells_shipping.cells_table.Given as goal

abbrev pub invariant-loop-first : goal.invariant-loop-first
invariant-loop-first l = (m n : ℕ) → row_of l.table m n ≡ filled_to (kind_number Cells) (rows_chosen cells_tables l.choice) l.first (first_method (kind_number Cells)) m n

abbrev pub invariant-loop-second : goal.invariant-loop-second
invariant-loop-second l = (m n : ℕ) → row_of l.table m n ≡ filled_to (kind_number Cells) (rows_chosen cells_tables l.choice) l.first l.second m n

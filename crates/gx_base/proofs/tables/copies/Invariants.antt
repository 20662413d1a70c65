use Rattle.std.proofs.Common.{◌≡◌, take}
use Rattle.gx_base.specs.RowLists.{table_rows_of}
use Rattle.gx_base.proofs.tables.copies.Given as goal

abbrev pub invariant-loop-row : goal.invariant-loop-row
invariant-loop-row l = table_rows_of l.copies.items ≡ table_rows_of (take l.row-index l.rows)

use Rattle.std.proofs.Common.{take}
use Rattle.gx_base.specs.RowLists.{table_rows_of, AgreeOn}
use Rattle.gx_base.proofs.tables.agree_on.Given as goal

abbrev pub invariant-loop-row : goal.invariant-loop-row
invariant-loop-row l = AgreeOn l.one l.other (table_rows_of (take l.row-index l.rows))

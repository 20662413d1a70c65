use Rattle.std.proofs.Common.{take}
use Rattle.gx_base.specs.RowLists.{buckets_of, table_rows_in, AgreeOn}
use Rattle.gx_base.proofs.tables.agree_on_all.Given as goal

abbrev pub invariant-loop-bucket : goal.invariant-loop-bucket
invariant-loop-bucket l = AgreeOn l.one l.other (table_rows_in (buckets_of (take l.bucket-index l.buckets)))

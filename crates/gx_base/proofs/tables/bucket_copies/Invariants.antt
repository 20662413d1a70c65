use Rattle.std.proofs.Common.{◌≡◌, take}
use Rattle.gx_base.specs.RowLists.{buckets_of}
use Rattle.gx_base.proofs.tables.bucket_copies.Given as goal

abbrev pub invariant-loop-bucket : goal.invariant-loop-bucket
invariant-loop-bucket l = buckets_of l.copied.items ≡ buckets_of (take l.bucket-index l.buckets)

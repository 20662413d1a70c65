use Rattle.std.proofs.Common.{◌≡◌, ◌+◌, ◌-◌, vec_len}
use Rattle.gx_base.specs.RowLists.{buckets_of, row_map_of, AreBuckets}
use Rattle.gx_base.proofs.tables.make_buckets.Given as goal

abbrev pub invariant-more : goal.invariant-more
invariant-more l = record {
  rows : row_map_of (buckets_of l.buckets.items) ≡ row_map_of (buckets_of l.fn.buckets.items);
  kept : AreBuckets 0 (buckets_of l.buckets.items);
}

abbrev pub decreases-more : goal.decreases-more
decreases-more l = l.number + 1 - vec_len l.buckets

use Rattle.std.proofs.Common.{◌≡◌, [], ◌∷◌, ◌++◌, sym, ◌∙◌, ap, subst}
use Rattle.gx_base.specs.RowLists.{buckets_of, row_map_of, AreBuckets}
use Rattle.gx_base.proofs.table_lemmas.Buckets.{buckets_of-push, row_map_of-push, AreBuckets-push}
use Rattle.gx_base.proofs.tables.make_buckets.Goals as goal

pub more-preserved : goal.more-preserved
more-preserved c =
    let grown : buckets_of c.push.new.self.items ≡ buckets_of c.more.buckets.items ++ [] ∷ [] = ap buckets_of c.in_ok-push.ensures.items ∙ buckets_of-push c.more.buckets.items c.new.result c.new.ensures.items in
    record {
      rows = ap row_map_of grown ∙ row_map_of-push (buckets_of c.more.buckets.items) ∙ c.more.invariant.rows;
      kept = subst (AreBuckets 0) (sym grown) (AreBuckets-push 0 (buckets_of c.more.buckets.items) c.more.invariant.kept);
    }

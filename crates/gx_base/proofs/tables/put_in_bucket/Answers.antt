use Rattle.std.proofs.Common.{◌∙◌, ap, ◌<◌, length, arith}
use Rattle.std.proofs.lemmas.Result.{on_ok_weaker, on_err_weaker}
use Rattle.std.specs.FinMap as map
use Rattle.gx_base.specs.Conditions.{condition_of}
use Rattle.gx_base.specs.RowLists.{row_map_of}
use Rattle.gx_base.proofs.table_lemmas.Buckets.{put_there, same_there, kept_after}
use Rattle.gx_base.proofs.tables.put_in_bucket.Goals as goal

pub returns-clause-ok : goal.returns-clause-ok
returns-clause-ok c =
    let below : c.bucket_at-number.result < length c.make_buckets.new.buckets.items = omega (arith, c.in_ok-make_buckets.ensures.made) in
    on_ok_weaker c.put_row.result
    (λ put. (put_there c.make_buckets.new.buckets.items c.bucket_at-number.result c.args.row c.index_mut.result.now c.put_row.new.rows c.make_buckets.ensures.kept c.bucket_at-number.ensures below c.index_mut.ensures.value put).1
    ∙ ap (λ rows. map.insert rows (c.args.row.first, c.args.row.second) (condition_of c.args.row.cond)) c.make_buckets.ensures.rows)
    c.put_row.ensures.ok

pub returns-clause-err : goal.returns-clause-err
returns-clause-err c =
    on_err_weaker c.put_row.result
    (λ same. ap row_map_of (same_there c.make_buckets.new.buckets.items c.bucket_at-number.result c.index_mut.result.now c.put_row.new.rows c.index_mut.ensures.value same) ∙ c.make_buckets.ensures.rows)
    c.put_row.ensures.err

pub returns-clause-kept : goal.returns-clause-kept
returns-clause-kept c =
    let below : c.bucket_at-number.result < length c.make_buckets.new.buckets.items = omega (arith, c.in_ok-make_buckets.ensures.made) in
    kept_after c.put_row.result c.make_buckets.new.buckets.items c.bucket_at-number.result c.args.row c.index_mut.result.now c.put_row.new.rows c.make_buckets.ensures.kept c.bucket_at-number.ensures below c.index_mut.ensures.value c.put_row.ensures.ok c.put_row.ensures.err

use Rattle.std.proofs.Common.{IsTrue}
use Rattle.gx_base.specs.RowLists.{table_rows_of, AgreeOn}
use Rattle.gx_base.proofs.table_lemmas.Agreeing.{agree_here_all, agree_more_all}
use Rattle.gx_base.proofs.tables.agree_on_all.Goals as goal

pub returns-then-not-agree_on : goal.returns-then-not-agree_on
returns-then-not-agree_on c = (
  λ t. absurd (cc),
  λ h.
      let same : AgreeOn c.args.one.now c.args.other.now (table_rows_of c.deref.result.now) = rw c.deref.ensures.value (agree_here_all c.args.one.now c.args.other.now c.args.buckets.now c.loop-bucket.bucket-index c.bucket-item.result h c.loop-bucket-test.true c.bucket-item.is) in
      let t : IsTrue c.agree_on.result = c.agree_on.ensures.1 same in
      let f = c.if-not-agree_on.true in
      absurd (cc),
)

pub loop-bucket-preserved : goal.loop-bucket-preserved
loop-bucket-preserved c =
    let t : IsTrue c.agree_on.result = c.if-not-agree_on.false in
    let same : AgreeOn c.args.one.now c.args.other.now (table_rows_of c.bucket-item.result.items) = rw c.deref.ensures.value at (c.agree_on.ensures.0 t) in
    agree_more_all c.args.one.now c.args.other.now c.args.buckets.now c.loop-bucket.bucket-index c.bucket-item.result c.loop-bucket.invariant c.loop-bucket-test.true c.bucket-item.is same

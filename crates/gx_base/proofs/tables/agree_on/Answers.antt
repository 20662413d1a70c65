use Rattle.std.proofs.Common.{◌≡◌, IsTrue, sym, ◌∙◌}
use Rattle.gx_base.specs.TableRows.{row_of}
use Rattle.gx_base.proofs.table_lemmas.Agreeing.{agree_here, agree_more}
use Rattle.gx_base.proofs.tables.agree_on.Goals as goal

pub returns-then-not-equals : goal.returns-then-not-equals
returns-then-not-equals c = (
  λ t. absurd (cc),
  λ h.
      let same = agree_here c.args.one.now c.args.other.now c.args.rows.now c.loop-row.row-index c.row-item.result h c.loop-row-test.true c.row-item.is in
      let t : IsTrue c.equals.result = c.equals.ensures.1 (c.row-here.ensures ∙ same ∙ sym c.row-there.ensures) in
      let f = c.if-not-equals.true in
      absurd (cc),
)

pub loop-row-preserved : goal.loop-row-preserved
loop-row-preserved c =
    let t : IsTrue c.equals.result = c.if-not-equals.false in
    let same : row_of c.args.one.now c.row-item.result.first c.row-item.result.second ≡ row_of c.args.other.now c.row-item.result.first c.row-item.result.second = sym c.row-here.ensures ∙ c.equals.ensures.0 t ∙ c.row-there.ensures in
    agree_more c.args.one.now c.args.other.now c.args.rows.now c.loop-row.row-index c.row-item.result c.loop-row.invariant c.loop-row-test.true c.row-item.is same

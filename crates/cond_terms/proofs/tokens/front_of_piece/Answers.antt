use Rattle.std.proofs.Common.{sym, ◌∙◌}
use Rattle.cond_terms.proofs.reading.PieceLemmas.{front_more}
use Rattle.cond_terms.proofs.tokens.front_of_piece.Goals as goal

pub loop-at-preserved : goal.loop-at-preserved
loop-at-preserved c = c.loop-at.invariant ∙ front_more c.args.line.now c.loop-at.at c.loop-at-test.true (sym c.goes_on.ensures ∙ c.if-not-goes_on.false)

use Rattle.text_lines.proofs.lemmas.LineLemmas.{is_dropped, is_absent}
use Rattle.text_lines.proofs.lemmas.NumberLemmas.{some_from_test}
use Rattle.text_lines.proofs.lines.without_return.Goals as goal

pub returns-then-line-end-eq13 : goal.returns-then-line-end-eq13
returns-then-line-end-eq13 c = is_dropped c.args.line.now (some_from_test c.args.line.now c.is_empty.result c.is_empty.ensures c.if-is_empty.false) c.if-line-end-eq13.true

pub returns-else-line-end-eq13 : goal.returns-else-line-end-eq13
returns-else-line-end-eq13 c = is_absent c.args.line.now (some_from_test c.args.line.now c.is_empty.result c.is_empty.ensures c.if-is_empty.false) c.if-line-end-eq13.false

use Rattle.std.proofs.Common.{add-one, arith}
use Rattle.text_lines.proofs.lemmas.LineLemmas.{line_to, last_line}
use Rattle.text_lines.proofs.lines.first_feed.Goals as goal

pub returns-then-byte-eq10-clause-lines : goal.returns-then-byte-eq10-clause-lines
returns-then-byte-eq10-clause-lines c =
    rw add-one (line_to c.args.text.now c.loop-at.at c.loop-at-test.true c.loop-at.invariant c.if-byte-eq10.true)

pub returns-clause-lines : goal.returns-clause-lines
returns-clause-lines c = last_line c.args.text.now c.requires (λ k lt. c.loop-at.invariant k (omega arith))

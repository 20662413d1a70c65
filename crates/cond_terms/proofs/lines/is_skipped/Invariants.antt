use Rattle.std.proofs.Common.{◌≡◌, drop}
use Rattle.cond_syntax.specs.TableTexts.{is_skipped}
use Rattle.cond_terms.proofs.lines.is_skipped.Given as goal

abbrev pub invariant-loop-byte : goal.invariant-loop-byte
invariant-loop-byte l = is_skipped l.line ≡ is_skipped (drop l.byte-index l.line)

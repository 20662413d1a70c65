use Rattle.std.proofs.Common.{◌≡◌, drop}
use Rattle.cond_syntax.specs.Pieces.{pieces_of}
use Rattle.cond_terms.proofs.tokens.front_while_blank.Given as goal

abbrev pub invariant-loop-at : goal.invariant-loop-at
invariant-loop-at l = pieces_of l.line ≡ pieces_of (drop l.at l.line)

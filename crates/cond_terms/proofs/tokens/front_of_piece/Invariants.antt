use Rattle.std.proofs.Common.{◌≡◌, take, drop}
use Rattle.cond_syntax.specs.Pieces.{pieces_of, pieces_from}
use Rattle.cond_terms.proofs.tokens.front_of_piece.Given as goal

abbrev pub invariant-loop-at : goal.invariant-loop-at
invariant-loop-at l = pieces_of l.line ≡ pieces_from (take l.at l.line) (drop l.at l.line)

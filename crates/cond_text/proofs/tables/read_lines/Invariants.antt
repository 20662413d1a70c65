use Rattle.std.proofs.Common.{◌+◌, ◌≤◌, length}
use Rattle.text_lines.specs.Lines.{lines_of}
use Rattle.cond_text.specs.LineAnswers.{so_far}
use Rattle.cond_text.proofs.texts.LineSteps.{HaveRead}
use Rattle.cond_text.proofs.tables.read_lines.Given as goal

abbrev pub invariant-loop-rest : goal.invariant-loop-rest
invariant-loop-rest l = record {
  have : HaveRead l.wanted l.bytes l.count l.rest (so_far l.reader);
  within : l.count ≤ length (lines_of l.bytes);
  short : l.count + length l.rest ≤ length l.bytes;
}

abbrev pub decreases-loop-rest : goal.decreases-loop-rest
decreases-loop-rest l = length l.rest

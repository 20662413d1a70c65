use Rattle.cond_text.proofs.texts.PairLemmas.{none_placed}
use Rattle.cond_text.proofs.tables.row_lines.RowLines.new.Goals as goal

pub invariant_of-result : goal.invariant_of-result
invariant_of-result c = record { tied = none_placed _ _ c.new.ensures.items c.blank.ensures }

use Rattle.cond_syntax.proofs.texts.TextAnswers.{answered}
use Rattle.cond_syntax.proofs.laws.each_text_is_a_table_or_has_a_first_fault.Goals as goal

pub returns : goal.returns
returns c = answered

use Rattle.cond_syntax.proofs.texts.TableLemmas.{same_table}
use Rattle.cond_syntax.proofs.laws.a_text_is_of_one_table.Goals as goal

pub returns : goal.returns
returns c = same_table

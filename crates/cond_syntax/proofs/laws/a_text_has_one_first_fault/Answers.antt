use Rattle.cond_syntax.proofs.texts.TableLemmas.{same_fault}
use Rattle.cond_syntax.proofs.laws.a_text_has_one_first_fault.Goals as goal

pub returns : goal.returns
returns c = same_fault

use Rattle.cond_syntax.proofs.texts.TableLemmas.{no_fault_of_a_table}
use Rattle.cond_syntax.proofs.laws.a_table_has_no_fault.Goals as goal

pub returns : goal.returns
returns c = no_fault_of_a_table

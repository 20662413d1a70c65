use Rattle.cond_syntax.proofs.grammar.OneTree.{one_tree}
use Rattle.cond_syntax.proofs.laws.tokens_spell_one_condition.Goals as goal

pub returns : goal.returns
returns c = one_tree

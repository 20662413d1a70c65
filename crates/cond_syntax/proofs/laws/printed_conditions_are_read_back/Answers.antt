use Rattle.cond_syntax.proofs.printing.PrintedConditions.{printed_condition}
use Rattle.cond_syntax.proofs.laws.printed_conditions_are_read_back.Goals as goal

pub returns : goal.returns
returns c = printed_condition

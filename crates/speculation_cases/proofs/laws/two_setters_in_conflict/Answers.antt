use Rattle.speculation_cases.proofs.SetterTurns.{setters_in_turn}
use Rattle.speculation_cases.proofs.laws.two_setters_in_conflict.Goals as goal

pub returns : goal.returns
returns c = setters_in_turn

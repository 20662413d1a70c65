use Rattle.speculation_cases.proofs.DiamondTurns.{both_in_turn}
use Rattle.speculation_cases.proofs.laws.the_diamond_with_two_workers.Goals as goal

pub returns : goal.returns
returns c = both_in_turn

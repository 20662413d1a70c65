use Rattle.speculation_cases.proofs.DiamondTurns.{drained_diamond}
use Rattle.speculation_cases.proofs.laws.the_drained_diamond.Goals as goal

pub returns : goal.returns
returns c = drained_diamond

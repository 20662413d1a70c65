use Rattle.lock_compiler.proofs.collecting.Inequalities.{locked_exactly}
use Rattle.lock_compiler.proofs.collecting.Rising.{locked_increase}
use Rattle.lock_compiler.proofs.laws.locked_numbers_are_those_of_inequalities.Goals as goal

pub returns-clause-exactly : goal.returns-clause-exactly
returns-clause-exactly c = locked_exactly

pub returns-clause-rising : goal.returns-clause-rising
returns-clause-rising c = locked_increase

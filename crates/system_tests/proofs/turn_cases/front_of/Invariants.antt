use Rattle.std.proofs.Common.{length}
use Rattle.system_tests.proofs.turn_cases.front_of.Given as goal

abbrev pub decreases-loop-rest : goal.decreases-loop-rest
decreases-loop-rest l = length l.rest

use Rattle.std.proofs.Common.{length}
use Rattle.cluster_runs.proofs.drawn_runs.printed_order.Given as goal

abbrev pub decreases-loop-rest : goal.decreases-loop-rest
decreases-loop-rest l = length l.rest

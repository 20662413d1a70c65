use Rattle.speculation.proofs.Theorems.{scheduled_has_no_trace, played_has_no_trace}
use Rattle.speculation.proofs.laws.aborted_iterations_leave_no_trace.Goals as goal

pub returns-clause-scheduled : goal.returns-clause-scheduled
returns-clause-scheduled c = scheduled_has_no_trace

pub returns-clause-played : goal.returns-clause-played
returns-clause-played c = played_has_no_trace

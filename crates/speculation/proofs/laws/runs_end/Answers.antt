use Rattle.speculation.proofs.Limited.{ends_or_passes}
use Rattle.speculation.proofs.Theorems.{runs_end}
use Rattle.speculation.proofs.laws.runs_end.Goals as goal

pub returns-clause-by_limit : goal.returns-clause-by_limit
returns-clause-by_limit c = ends_or_passes

pub returns-clause-by_count : goal.returns-clause-by_count
returns-clause-by_count c = runs_end

use Rattle.gx_base.proofs.CallerLemmas.{undoes}
use Rattle.shared_sets.proofs.laws.calls_are_undone.Goals as goal

pub returns-clause-sets : goal.returns-clause-sets
returns-clause-sets c = λ s call kind h f. record { undone = undoes s call h f }

pub returns-clause-cells : goal.returns-clause-cells
returns-clause-cells c = λ s call kind h f. record { undone = undoes s call h f }

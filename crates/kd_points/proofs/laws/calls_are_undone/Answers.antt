use Rattle.gx_base.proofs.CallerLemmas.{undoes}
use Rattle.kd_points.proofs.laws.calls_are_undone.Goals as goal

pub returns : goal.returns
returns c = λ s call kind h f. record { undone = undoes s call h f }

use Rattle.std.proofs.Common.{◌≡◌, rules}
use Rattle.std.proofs.lemmas.Result.{IfOk-weaker}
use Rattle.gx_base.specs.Conditions.{condition_of}
use Rattle.cond_lattice.specs.Simple.{strengthened}
use Rattle.cond_lattice.proofs.bounds.Bounds.{is_strengthened}
use Rattle.cond_lattice.proofs.simple.+strengthen.Goals as goal

pub returns-in_ok-right-in-And-clause-below : goal.returns-in_ok-right-in-And-clause-below
returns-in_ok-right-in-And-clause-below t c =
    IfOk-weaker _ (λ s. condition_of s ≡ strengthened (condition_of c.args.cond.now)) _
    (λ s e. is_strengthened (condition_of c.args.cond.now) (condition_of s) e) (search rules)

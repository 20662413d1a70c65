use Rattle.std.proofs.Common.{◌≡◌, rules}
use Rattle.std.proofs.lemmas.Result.{IfOk-weaker}
use Rattle.gx_base.specs.Conditions.{condition_of}
use Rattle.cond_lattice.specs.Simple.{join_of}
use Rattle.cond_lattice.proofs.bounds.Bounds.{is_join}
use Rattle.cond_lattice.proofs.simple.join.Goals as goal

pub returns-clause-bound : goal.returns-clause-bound
returns-clause-bound c =
    IfOk-weaker _ (λ m. condition_of m ≡ join_of (condition_of c.args.c.now) (condition_of c.args.d.now)) _
    (λ m spelled. is_join _ _ _ c.requires.first c.requires.second spelled) (search rules)

use Rattle.std.proofs.Common.{◌≡◌, rules}
use Rattle.std.proofs.lemmas.Result.{IfOk-weaker}
use Rattle.gx_base.specs.Conditions.{condition_of}
use Rattle.cond_lattice.specs.Simple.{meet_of}
use Rattle.cond_lattice.proofs.bounds.Bounds.{is_meet}
use Rattle.cond_lattice.proofs.simple.meet.Goals as goal

pub returns-clause-bound : goal.returns-clause-bound
returns-clause-bound c =
    IfOk-weaker _ (λ m. condition_of m ≡ meet_of (condition_of c.args.c.now) (condition_of c.args.d.now)) _
    (λ m spelled. is_meet _ _ _ c.requires.first c.requires.second spelled) (search rules)

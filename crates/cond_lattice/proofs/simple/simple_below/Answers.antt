use Rattle.std.proofs.Common.{rules}
use Rattle.gx_base.specs.Conditions.{condition_of}
use Rattle.cond_lattice.proofs.bounds.Implied.{order_is_implication}
use Rattle.cond_lattice.proofs.simple.simple_below.Goals as goal

pub returns-then-not-is_false-clause-implication : goal.returns-then-not-is_false-clause-implication
returns-then-not-is_false-clause-implication c near_c near_d =
    order_is_implication c.all_stand_in.result (condition_of c.args.c.now) (condition_of c.args.d.now) (search rules) c.requires.first c.requires.second near_c near_d

pub returns-else-not-is_false-clause-implication : goal.returns-else-not-is_false-clause-implication
returns-else-not-is_false-clause-implication c near_c near_d =
    order_is_implication _ (condition_of c.args.c.now) (condition_of c.args.d.now) (search rules) c.requires.first c.requires.second near_c near_d

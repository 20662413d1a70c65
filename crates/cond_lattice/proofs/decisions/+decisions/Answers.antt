use Rattle.std.proofs.Common.{sym, ap, ◌∙◌}
use Rattle.gx_base.specs.Conditions.{condition_of}
use Rattle.cond_lattice.specs.Derivations.{is_derived}
use Rattle.cond_lattice.proofs.order.Derived.{is_derived-true, same_derived}
use Rattle.cond_lattice.proofs.decisions.+decisions.Goals as goal

pub is_derived-returns-then-same_condition : goal.is_derived-returns-then-same_condition
is_derived-returns-then-same_condition t c =
    sym (same_derived (condition_of c.args.c.now) (condition_of c.args.d.now) (sym c.same_condition.ensures.rule ∙ c.if-same_condition.true))

pub is_derived_apart-returns-in-False-default-2 : goal.is_derived_apart-returns-in-False-default-2
is_derived_apart-returns-in-False-default-2 t c =
    sym (ap (λ d. is_derived (condition_of c.args.c.now) (condition_of d)) c.in-False-default.is-1 ∙ is_derived-true (condition_of c.args.c.now))

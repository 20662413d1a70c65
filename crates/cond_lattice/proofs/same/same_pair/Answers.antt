use Rattle.std.specs.Prelude.{◌&&◌}
use Rattle.std.proofs.Common.{sym, ap, ◌∙◌}
use Rattle.cond_lattice.specs.Same.{same_term}
use Rattle.cond_lattice.proofs.order.Sameness.{equals_same}
use Rattle.cond_lattice.proofs.same.same_pair.Goals as goal

pub returns-then-equals : goal.returns-then-equals
returns-then-equals c =
    sym (ap (λ b. b && c.equals-then-equals.result) c.if-equals.true)
    ∙ (λ k. equals_same c.equals.result c.args.x c.args.u c.equals.ensures k && equals_same c.equals-then-equals.result c.args.y c.args.v c.equals-then-equals.ensures k)

pub returns-else-equals : goal.returns-else-equals
returns-else-equals c =
    c.if-equals.false
    ∙ ap (λ b. b && same_term c.args.y c.args.v) (sym c.if-equals.false ∙ equals_same c.equals.result c.args.x c.args.u c.equals.ensures)

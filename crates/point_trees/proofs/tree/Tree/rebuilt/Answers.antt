use Rattle.std.proofs.Common.{IfOk, sym, subst}
use Rattle.point_trees.specs.Rebuilding.{HaveOwnIds, IsMadeOf}
use Rattle.point_trees.proofs.rebuilds.Gathering.{made_from_ok}
use Rattle.point_trees.proofs.tree.Tree.rebuilt.Goals as goal

pub of_points-requires : goal.of_points-requires
of_points-requires c = subst HaveOwnIds (sym c.deref_mut.ensures.value) c.in_ok-spots.ensures.own

pub returns : goal.returns
returns c = made_from_ok c.of_points.result c.in_ok-spots.spots.items c.args.self.now (subst (λ xs. IfOk c.of_points.result (IsMadeOf xs)) c.deref_mut.ensures.value c.of_points.ensures) c.in_ok-spots.ensures.every

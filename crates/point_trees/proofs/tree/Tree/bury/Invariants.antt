use Rattle.point_trees.proofs.trees.Veils.{IsSame}
use Rattle.point_trees.proofs.tree.Tree.bury.Given as goal

abbrev pub invariant-loop : goal.invariant-loop
invariant-loop l = IsSame l.fn.self l.self

use Rattle.point_trees.proofs.rebuilds.Walks.{Walked}
use Rattle.point_trees.proofs.tree.Tree.points.Given as goal

abbrev pub invariant-loop-key : goal.invariant-loop-key
invariant-loop-key l =
    (goal.iterator-loop-key).can_next l.key-iterator × (goal.iterator-loop-key).is_finite l.key-iterator × Walked l.self l.spots.items l.key-iterator

use Rattle.std.proofs.Common.{◌-◌}
use Rattle.slab.specs.Slab.{slab_len}
use Rattle.point_trees.specs.TreeStates.{node_at}
use Rattle.point_trees.proofs.trees.Seats.{depth_or_zero}
use Rattle.point_trees.proofs.trees.Veils.{IsClearing}
use Rattle.point_trees.proofs.tree.Tree.clear_way.Given as goal

abbrev pub invariant-walk : goal.invariant-walk
invariant-walk l = IsClearing l.fn.self l.self l.spot l.at

abbrev pub decreases-walk : goal.decreases-walk
decreases-walk l = slab_len l.self.nodes - depth_or_zero (node_at l.self l.at)

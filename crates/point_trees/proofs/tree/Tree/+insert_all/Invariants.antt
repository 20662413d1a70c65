use Rattle.std.proofs.Common.{length}
use Rattle.point_trees.proofs.tree.Tree.+insert_all.Given as goal

abbrev pub decreases-insert_all : goal.decreases-insert_all
decreases-insert_all l = length l.spots.now

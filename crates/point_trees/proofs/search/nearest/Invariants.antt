use Rattle.std.proofs.Common.{◌≡◌}
use Rattle.point_trees.specs.Searches.{reach_of}
use Rattle.slab.specs.Slab.{slab_len}
use Rattle.point_trees.specs.TreeStates.{node_at}
use Rattle.point_trees.proofs.searches.Searched.{IsSearched}
use Rattle.point_trees.proofs.searches.Work.{work}
use Rattle.point_trees.proofs.search.nearest.Given as goal

abbrev pub invariant-search : goal.invariant-search
invariant-search l = (l.best.reach ≡ reach_of l.q l.best.point) × IsSearched (node_at l.tree) l.q l.best.point l.waiting.items

abbrev pub decreases-search : goal.decreases-search
decreases-search l = work (node_at l.tree) (slab_len l.tree.nodes) l.waiting.items

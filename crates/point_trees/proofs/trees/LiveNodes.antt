-- Which points have live nodes.
use Rattle.std.specs.Prelude.{◌≡◌, ℕ, true, Option, Some, None}
use Rattle.gx_base.specs.declared.calls.Spot.{Spot}
use Rattle.point_trees.specs.declared.nodes.Node.{Node}
use Rattle.point_trees.specs.Trees.{Nodes}

-- this is a live node of the spot
abbrev pub IsNodeOf : Option Node → Spot → Type 0
IsNodeOf None r = ⊥
IsNodeOf (Some n) r = (n.live ≡ true) × (n.spot ≡ r)

-- some node holds the point
abbrev pub IsLive : Nodes → Spot → Type 0
IsLive look r = (i : ℕ) × IsNodeOf (look i) r

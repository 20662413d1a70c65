-- The search for the nearest point: what has been found, and what is still to be visited.
use Rattle.std.specs.Prelude.{ℕ, Bool, true, not, nat_lt, ◌&&◌, Option, Some, None, List, [], ◌∷◌, ◌++◌, if◌then◌else◌}
use Rattle.std.specs.Ordering.{int_eq}
use Rattle.gx_base.specs.declared.calls.Spot.{Spot}
use Rattle.gx_base.specs.Spots.{square, distance, far, beyond}
use Rattle.point_trees.specs.declared.nodes.Node.{Node}
use Rattle.point_trees.specs.declared.search.Pending.{Pending}
use Rattle.point_trees.specs.Trees.{coordinate, is_left, child}

-- the node's point is one that may be the nearest to the spot
abbrev pub is_other : Spot → Node → Bool
is_other q n = n.live && not (int_eq n.spot.id q.id)

-- the point of a node, where it may be
abbrev pub other_of : Spot → Node → Option Spot
other_of q n = if is_other q n then Some n.spot else None

-- the squared distance along the axis of a node, from its plane
abbrev pub to_plane : Spot → Node → ℕ
to_plane q n = square (coordinate n.axis q) (coordinate n.axis n.spot)

abbrev pub pending_at : Option ℕ → ℕ → List Pending
pending_at None reach = []
pending_at (Some c) reach = record { from = c; reach = reach } ∷ []

-- how far the best point so far is; where there is none, nothing is farther
abbrev pub reach_of : Spot → Option Spot → ℕ
reach_of q None = far
reach_of q (Some n) = distance q n

-- all that is at least so far away is farther than the best so far
abbrev pub is_past : Spot → Option Spot → ℕ → Bool
is_past q best reach = nat_lt (reach_of q best) reach

-- a point is to take the place of the best so far
abbrev pub takes : Spot → Spot → Option Spot → Bool
takes q c None = true
takes q c (Some m) = not (beyond q c m)

-- the side behind a node's plane, where something there can be nearer than the best so far
abbrev pub far_side : Spot → Option Spot → Node → List Pending
far_side q best n = if is_past q best (to_plane q n) then [] else pending_at (child n (not (is_left n q))) (to_plane q n)

-- the sides of a node that are still to be visited: the near one is looked at first
abbrev pub sides_of : Spot → Option Spot → Node → ℕ → List Pending
sides_of q best n reach = far_side q best n ++ pending_at (child n (is_left n q)) reach

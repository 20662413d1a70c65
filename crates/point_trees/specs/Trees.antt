-- Trees of points: which node stands where, and where the way of a spot leads.
use Rattle.std.specs.Prelude.{◌≡◌, ℕ, zero, suc, ◌<◌, ◌≤◌, ℤ, Bool, true, false, Option, Some, None, is_some, ◌&&◌, if◌then◌else◌, FitsSigned}
use Rattle.std.specs.Int.{w64}
use Rattle.std.specs.Ordering.{int_cmp, int_eq, ordering_then, is_lt}
use Rattle.std.specs.declared.cmp.Ordering.{Ordering}
use Rattle.gx_base.specs.declared.calls.Spot.{Spot}
use Rattle.point_trees.specs.declared.nodes.Axis.{Axis}
use Rattle.point_trees.specs.declared.nodes.Axis.TheVariants.{X, Y}
use Rattle.point_trees.specs.declared.nodes.Node.{Node}
use Rattle.point_trees.specs.declared.nodes.Seat.{Seat}
use Rattle.point_trees.specs.declared.nodes.Seat.TheVariants.{Found, Free, Empty}

abbrev pub coordinate : Axis → Spot → ℤ
coordinate X r = r.x
coordinate Y r = r.y

-- spots are compared by their coordinates, and then by the id
abbrev pub level_cmp : Spot → Spot → Ordering
level_cmp p q = ordering_then (int_cmp p.x q.x) (ordering_then (int_cmp p.y q.y) (ordering_then (int_cmp p.z q.z) (int_cmp p.id q.id)))

-- along an axis by its coordinate first
abbrev pub spot_cmp : Axis → Spot → Spot → Ordering
spot_cmp axis p q = ordering_then (int_cmp (coordinate axis p) (coordinate axis q)) (level_cmp p q)

-- the spot stands on the left side of the node
abbrev pub is_left : Node → Spot → Bool
is_left n r = is_lt (spot_cmp n.axis r n.spot)

abbrev pub child : Node → Bool → Option ℕ
child n left = if left then n.left else n.right

-- a new node
abbrev pub leaf_of : Axis → Spot → ℕ → ℕ → Node
leaf_of axis spot depth up = record { spot = spot; live = true; bare = false; axis = axis; depth = depth; up = up; left = None; right = None }

-- the node with a child on a side
abbrev pub linked : Node → Bool → ℕ → Node
linked n true c = record n { left = Some c }
linked n false c = record n { right = Some c }

-- the nodes by their keys
abbrev pub Nodes : Type 0
Nodes = ℕ → Option Node

-- the child on the spot's own side
abbrev pub child_of : Option Node → Spot → Option ℕ
child_of None r = None
child_of (Some n) r = child n (is_left n r)

-- where the way of a spot comes to after so many steps: at each node it goes on to the child on the spot's own side
abbrev pub way : Nodes → Spot → ℕ → Option ℕ → Option ℕ
way look r zero from = from
way look r (suc k) None = None
way look r (suc k) (Some i) = way look r k (child_of (look i) r)

abbrev pub node_depth : Option Node → Option ℕ
node_depth None = None
node_depth (Some n) = Some n.depth

-- nothing is live under the node, as is noted there
abbrev pub is_bare : Option Node → Bool
is_bare None = true
is_bare (Some n) = n.bare

-- nothing is live under this child, or there is none
abbrev pub all_bare : Nodes → Option ℕ → Bool
all_bare look None = true
all_bare look (Some c) = is_bare (look c)

-- none of the first nodes on the spot's way is bare, as far as to this depth
abbrev pub IsOpenTo : Nodes → Option ℕ → Spot → ℕ → Type 0
IsOpenTo look root r depth = (k j : ℕ) → k ≤ depth → way look r k root ≡ Some j → is_bare (look j) ≡ false

-- the node holds the point of this id
abbrev pub is_point_of : ℤ → Node → Bool
is_point_of id n = n.live && int_eq n.spot.id id

-- the numbers of a spot fit in 64 bits
abbrev pub FitsSpot : Spot → Type 0
FitsSpot r = FitsSigned w64 r.id × FitsSigned w64 r.x × FitsSigned w64 r.y × FitsSigned w64 r.z

-- a tree of so many nodes: each stands, live or not, where the way of its spot leads from the root after as many steps as
-- its depth says. The numbers lead to the key of the live node of each id, and no node on the way to a live one is bare
pub record IsTree (look : Nodes) (root : Option ℕ) (size : ℕ) (numbers : ℤ → Option ℕ) : Type 0 where
  pub rooted : (r : ℕ) → root ≡ Some r → node_depth (look r) ≡ Some 0
  pub placed : (i : ℕ) (n : Node) → look i ≡ Some n → way look n.spot n.depth root ≡ Some i
  pub nested : (i c : ℕ) (n : Node) (left : Bool) → look i ≡ Some n → child n left ≡ Some c → node_depth (look c) ≡ Some (suc n.depth)
  pub shallow : (i : ℕ) (n : Node) → look i ≡ Some n → n.depth < size
  pub numbered : (i : ℕ) (n : Node) → look i ≡ Some n → is_some (numbers n.spot.id) ≡ true
  pub owned : (i : ℕ) (n : Node) → look i ≡ Some n → n.live ≡ true → numbers n.spot.id ≡ Some i
  pub fits : (i : ℕ) (n : Node) → look i ≡ Some n → FitsSpot n.spot
  pub passable : (i : ℕ) (n : Node) → look i ≡ Some n → n.live ≡ true → IsOpenTo look root n.spot n.depth

-- the key stands for the id, and its node holds the point of this id
pub record IsOwner (look : Nodes) (numbers : ℤ → Option ℕ) (id : ℤ) (key : ℕ) : Type 0 where
  pub node : Node
  pub numbered : numbers id ≡ Some key
  pub there : look key ≡ Some node
  pub live : node.live ≡ true
  pub named : node.spot.id ≡ id

-- where the spot belongs: at its own node, or on the free side of the node at which its way ends
abbrev pub IsSeat : Nodes → Option ℕ → Spot → Seat → Type 0
IsSeat look root spot (Found j) = (n : Node) × (look j ≡ Some n) × (n.spot ≡ spot)
IsSeat look root spot (Free j left) =
    (n : Node) × (look j ≡ Some n) × (child n left ≡ None) × (is_left n spot ≡ left) × (way look spot n.depth root ≡ Some j)
IsSeat look root spot Empty = root ≡ None

-- the seat is the spot's own node
abbrev pub is_found : Seat → Bool
is_found (Found j) = true
is_found (Free j left) = false
is_found Empty = false

-- how deep a child of the node stands
abbrev pub depth_below : Option Node → ℕ
depth_below None = 0
depth_below (Some n) = suc n.depth

-- how deep a new node at the seat stands
abbrev pub seat_depth : Nodes → Seat → ℕ
seat_depth look (Found j) = 0
seat_depth look (Free j left) = depth_below (look j)
seat_depth look Empty = 0

-- A tree that is made anew, out of a list of points.
use Rattle.std.specs.Prelude.{◌≡◌, ◌+◌, ◌*◌, ◌^◌, ◌≤◌, ℕ, ℤ, true, is_some, Some, List, ◌⊎◌}
use Rattle.std.specs.List.{Contains, IsDistinct}
use Rattle.std.specs.Ordering.{int_eq}
use Rattle.gx_base.specs.declared.calls.Spot.{Spot}
use Rattle.gx_base.specs.PointKind.{spot_at}
use Rattle.slab.specs.Slab.{slab_len}
use Rattle.point_trees.specs.declared.nodes.Seat.{Seat}
use Rattle.point_trees.specs.declared.tree.Tree.{Tree}
use Rattle.point_trees.specs.Trees.{IsSeat, node_depth}
use Rattle.point_trees.specs.TreeStates.{node_at, tree_state, dead_nodes, IsSound, NoPoint, NoneBare}

-- this is a point of the tree
abbrev pub IsPointOf : Tree → Spot → Type 0
IsPointOf tree r = spot_at (tree_state tree) r.id ≡ Some r

-- some point of the tree has this id
abbrev pub HasPoint : Tree → ℤ → Type 0
HasPoint tree id = is_some (spot_at (tree_state tree) id) ≡ true

-- the spots have an id each
abbrev pub HaveOwnIds : List Spot → Type 0
HaveOwnIds spots = IsDistinct (λ p q. int_eq p.id q.id) spots

-- the spots may all be put in at the seat: no id has a point yet, or stands twice, and no node is bare
pub record AreNew (tree : Tree) (spots : List Spot) (seat : Seat) : Type 0 where
  pub own : HaveOwnIds spots
  pub free : (r : Spot) → Contains spots r → NoPoint tree r.id
  pub bare : NoneBare tree
  pub seated : (r : Spot) → Contains spots r → IsSeat (node_at tree) tree.root r seat

-- the points of the new tree are those of the old one and of these; each id that had a point, or is one of these, has one;
-- and no more nodes are dead
pub record Gathers (old new : Tree) (spots : List Spot) : Type 0 where
  pub none_else : (r : Spot) → IsPointOf new r → IsPointOf old r ⊎ Contains spots r
  pub stay : (id : ℤ) → HasPoint old id → HasPoint new id
  pub all : (r : Spot) → Contains spots r → HasPoint new r.id
  pub dead : dead_nodes new ≤ dead_nodes old

-- so many nodes are new: they stand no deeper below this depth than halving so many takes, and the others as before
pub record IsLow (old new : Tree) (depth count : ℕ) : Type 0 where
  pub fresh : (j d : ℕ) → node_depth (node_at new j) ≡ Some d → (node_depth (node_at old j) ≡ Some d) ⊎ ((e : ℕ) × (d ≡ depth + e) × (2 ^ e ≤ count))
  pub stay : (j d : ℕ) → node_depth (node_at old j) ≡ Some d → node_depth (node_at new j) ≡ Some d
  pub size : slab_len new.nodes ≡ slab_len old.nodes + count

-- no node stands deeper than halving the nodes takes
abbrev pub IsBalancedTree : Tree → Type 0
IsBalancedTree tree = (j d : ℕ) → node_depth (node_at tree j) ≡ Some d → 2 ^ d ≤ slab_len tree.nodes

-- the tree has these points, and no dead nodes; no node counts as put in by itself, and none stands deep
pub record IsMadeOf (spots : List Spot) (tree : Tree) : Type 0 where
  pub sound : IsSound tree
  pub none_else : (r : Spot) → IsPointOf tree r → Contains spots r
  pub all : (r : Spot) → Contains spots r → HasPoint tree r.id
  pub none_dead : dead_nodes tree ≡ 0
  pub none_grown : tree.grown ≡ 0
  pub balanced : IsBalancedTree tree

-- the new tree has the same points, and no dead nodes; no node counts as put in by itself, and none stands deep
pub record IsRebuilt (old new : Tree) : Type 0 where
  pub sound : IsSound new
  pub state : tree_state new ≡ tree_state old
  pub none_dead : dead_nodes new ≡ 0
  pub none_grown : new.grown ≡ 0
  pub balanced : IsBalancedTree new

-- a tree of fewer nodes isn't rebuilt
abbrev pub least_rebuilt : ℕ
least_rebuilt = 64

-- the tree has fewer nodes than are rebuilt, or at most half of its nodes are dead, and at most half were put in one by one
abbrev pub IsLeanTree : Tree → Type 0
IsLeanTree tree = least_rebuilt ≤ slab_len tree.nodes → (2 * dead_nodes tree ≤ slab_len tree.nodes) × (2 * tree.grown ≤ slab_len tree.nodes)

-- What a tree of points stands for.
use Rattle.std.specs.Prelude.{◌≡◌, ℕ, ◌+◌, ◌-◌, ◌^◌, min, ℤ, Bool, true, false, cond, ◌&&◌, ◌||◌, Option, Some, None, List, [], ◌∷◌, if◌then◌else◌, ◌⊎◌}
use Rattle.std.specs.FinMap as map
use Rattle.std.specs.Map.{lookup}
use Rattle.std.specs.Ordering.{int_eq, is_lt}
use Rattle.gx_base.specs.declared.calls.Spot.{Spot}
use Rattle.gx_base.specs.declared.kinds.Kind.TheVariants.{Points}
use Rattle.gx_base.specs.Kinds.{kind_number}
use Rattle.gx_base.specs.States.{State, row_cmp, rows_put, row_at}
use Rattle.slab.specs.Slab.{get, slab_len, Updates}
use Rattle.point_trees.specs.declared.nodes.Axis.{Axis}
use Rattle.point_trees.specs.declared.nodes.Node.{Node}
use Rattle.point_trees.specs.declared.nodes.Seat.{Seat}
use Rattle.point_trees.specs.declared.nodes.Seat.TheVariants.{Free}
use Rattle.point_trees.specs.declared.tree.Tree.{Tree}
use Rattle.point_trees.specs.Trees.{Nodes, spot_cmp, is_point_of, IsTree, IsSeat, way, is_bare, node_depth, seat_depth}

-- the node of a key
abbrev pub node_at : Tree → Nodes
node_at tree key = get tree.nodes key

-- the key that stands for an id
abbrev pub key_of : Tree → ℤ → Option ℕ
key_of tree id = lookup (int_eq id) tree.numbers.entries

-- the row of a point
abbrev pub place : Spot → List ℤ
place r = r.x ∷ r.y ∷ r.z ∷ []

-- the row that a node is for an id: its point, where it is live and has this id
abbrev pub row_of_node : ℤ → Option Node → Option (List ℤ)
row_of_node id None = None
row_of_node id (Some n) = if is_point_of id n then Some (place n.spot) else None

-- the rows of these ids, each with the key of its node
abbrev pub tree_rows : Nodes → List (ℤ × ℕ) → map.FinMap row_cmp (List ℤ)
tree_rows look [] = map.empty
tree_rows look (e ∷ es) = rows_put (tree_rows look es) (0, e.0) (row_of_node e.0 (look e.1))

-- the state of points
abbrev pub tree_state : Tree → State
tree_state tree = record { kind = kind_number Points; rows = tree_rows (node_at tree) tree.numbers.entries }

-- the points of a state are as many
abbrev pub count_of : State → ℕ
count_of s = map.len s.rows

-- how many nodes hold no point
abbrev pub dead_nodes : Tree → ℕ
dead_nodes tree = slab_len tree.nodes - tree.live

-- what the code relies on: the nodes are a tree, and the points are counted
pub record IsSound (tree : Tree) : Type 0 where
  pub placed : IsTree (node_at tree) tree.root (slab_len tree.nodes) (key_of tree)
  pub counted : tree.live ≡ count_of (tree_state tree)

abbrev pub same_spot : Spot → Spot → Bool
same_spot p q = int_eq p.id q.id && int_eq p.x q.x && int_eq p.y q.y && int_eq p.z q.z

abbrev pub holds_spot : List (Option Node) → Spot → Bool
holds_spot [] r = false
holds_spot (None ∷ slots) r = holds_spot slots r
holds_spot (Some n ∷ slots) r = same_spot n.spot r || holds_spot slots r

-- the tree has a node for the spot, live or not
abbrev pub has_node : Tree → Spot → Bool
has_node tree r = holds_spot tree.nodes.slots r

-- no live node has this id
abbrev pub NoPoint : Tree → ℤ → Type 0
NoPoint tree id = row_at (tree_state tree) (0, id) ≡ None

-- each node has stayed, live or not
abbrev pub KeepsNodes : Tree → Tree → Type 0
KeepsNodes old new = (r : Spot) → has_node old r ≡ true → has_node new r ≡ true

-- nothing has changed but the room that there is
pub record IsAlike (old new : Tree) : Type 0 where
  pub slots : new.nodes.slots ≡ old.nodes.slots
  pub entries : new.numbers.entries ≡ old.numbers.entries
  pub root : new.root ≡ old.root
  pub live : new.live ≡ old.live
  pub grown : new.grown ≡ old.grown

-- one node more was put in by itself; the count stays at the greatest number of 64 bits
abbrev pub CountsOne : Tree → Tree → Type 0
CountsOne old new = new.grown ≡ min (old.grown + 1) (2 ^ 64 - 1)

-- there are as many nodes as before, and as many of them count as put in by themselves
pub record KeepsCounts (old new : Tree) : Type 0 where
  pub size : slab_len new.nodes ≡ slab_len old.nodes
  pub grown : new.grown ≡ old.grown

-- there is one node more, which counts as put in by itself
pub record AddsNode (old new : Tree) : Type 0 where
  pub size : slab_len new.nodes ≡ slab_len old.nodes + 1
  pub grown : CountsOne old new

-- a new node has this key, and its id stands for it
pub record IsPlanted (old new : Tree) (key : ℕ) (node : Node) : Type 0 where
  pub vacant : node_at old key ≡ None
  pub nodes : Updates old.nodes new.nodes key (Some node)
  pub size : slab_len new.nodes ≡ slab_len old.nodes + 1
  pub keys : (id : ℤ) → key_of new id ≡ cond (int_eq node.spot.id id) (Some key) (key_of old id)
  pub root : new.root ≡ old.root
  pub live : new.live ≡ old.live
  pub grown : CountsOne old new

-- a spot that belongs on another free side still belongs there
abbrev pub SeatsStay : Tree → Tree → Seat → Type 0
SeatsStay old new seat = (r : Spot) (j : ℕ) (left : Bool) → IsSeat (node_at old) old.root r (Free j left) → (Free j left ≡ seat → ⊥) → IsSeat (node_at new) new.root r (Free j left)

-- no node is bare
abbrev pub NoneBare : Tree → Type 0
NoneBare tree = (j : ℕ) (n : Node) → node_at tree j ≡ Some n → n.bare ≡ false

-- a new node has this key: what belonged at its seat belongs on one of its sides now
pub record HangsBelow (old new : Tree) (seat : Seat) (spot : Spot) (axis : Axis) (key : ℕ) : Type 0 where
  pub vacant : node_at old key ≡ None
  pub below : (r : Spot) → IsSeat (node_at old) old.root r seat → IsSeat (node_at new) new.root r (Free key (is_lt (spot_cmp axis r spot)))
  pub beside : SeatsStay old new seat
  pub deep : node_depth (node_at new key) ≡ Some (seat_depth (node_at old) seat)
  pub other_depths : (j d : ℕ) → node_depth (node_at new j) ≡ Some d → (j ≡ key) ⊎ (node_depth (node_at old j) ≡ Some d)
  pub depths_stay : (j d : ℕ) → node_depth (node_at old j) ≡ Some d → node_depth (node_at new j) ≡ Some d
  pub size : slab_len new.nodes ≡ slab_len old.nodes + 1
  pub none_bare : NoneBare old → NoneBare new
  pub grown : CountsOne old new

-- the tree has no nodes
pub record IsBlank (tree : Tree) : Type 0 where
  pub slots : tree.nodes.slots ≡ []
  pub entries : tree.numbers.entries ≡ []
  pub root : tree.root ≡ None
  pub live : tree.live ≡ 0
  pub grown : tree.grown ≡ 0

-- no node on the spot's way is bare
abbrev pub IsClear : Tree → Spot → Type 0
IsClear tree r = (k j : ℕ) → way (node_at tree) r k tree.root ≡ Some j → is_bare (node_at tree j) ≡ false

-- it is noted whether a node is bare, and nothing else has changed
pub record IsVeiled (old new : Tree) (key : ℕ) (bare : Bool) : Type 0 where
  pub nodes : (n : Node) → node_at old key ≡ Some n → Updates old.nodes new.nodes key (Some (record n { bare = bare }))
  pub size : slab_len new.nodes ≡ slab_len old.nodes
  pub rest : new ≡ record old { nodes = new.nodes }

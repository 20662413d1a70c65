-- A new point, as the code puts it in.
use Rattle.std.specs.Prelude.{◌≡◌, ℕ, suc, ℤ, ◌+◌, ◌≤◌, Bool, true, false, cond, Option, Some, None, List, is_some, count_by, slice_index_or, refl, ◌⊎◌}
use Rattle.std.proofs.Common.{sym, ◌∙◌, ap, subst, arith, inl, inr}
use Rattle.std.specs.Map.{lookup}
use Rattle.std.specs.Ordering.{int_eq}
use Rattle.gx_base.specs.declared.calls.Spot.{Spot}
use Rattle.gx_base.specs.States.{with_row}
use Rattle.slab.specs.Slab.{slab_len, Updates}
use Rattle.point_trees.specs.declared.nodes.Axis.{Axis}
use Rattle.point_trees.specs.declared.nodes.Node.{Node}
use Rattle.point_trees.specs.declared.nodes.Seat.{Seat}
use Rattle.point_trees.specs.declared.nodes.Seat.TheVariants.{Free, Empty}
use Rattle.point_trees.specs.declared.tree.Tree.{Tree}
use Rattle.point_trees.specs.Trees.{child, way, is_left, leaf_of, linked, node_depth, depth_below, FitsSpot, IsTree, IsSeat}
use Rattle.point_trees.specs.TreeStates.{node_at, key_of, place, tree_rows, tree_state, count_of, dead_nodes, IsSound, IsAlike, IsPlanted, HangsBelow, has_node, NoPoint, IsClear, NoneBare}
use Rattle.point_trees.proofs.states.Basics.{some_none, some_is, same_key}
use Rattle.point_trees.proofs.states.StateRows.{with_rows, Settles}
use Rattle.point_trees.proofs.states.Counts.{count-more}
use Rattle.point_trees.proofs.trees.Ways.{AllStay, ended, depth_stays}
use Rattle.point_trees.proofs.trees.Holders.{holds-at}
use Rattle.point_trees.proofs.trees.Changes.{Changed, settled_state, nodes_kept, others_live}
use Rattle.point_trees.proofs.trees.Growth.{linked_bare, grown_stays, way_to_new, seat_stays, grown_tree, grown_rows, first_stays, first_tree, first_rows}

-- where nothing but the room has changed
pub alike_state : (old new : Tree) → IsAlike old new → tree_state new ≡ tree_state old
alike_state old new a = λ i. with_rows (tree_rows (λ key. slice_index_or (a.slots i) key None) (a.entries i))

pub alike_sound : (old new : Tree) → IsAlike old new → IsSound old → IsSound new
alike_sound old new a s = record {
  placed = subst (λ (p : List (Option Node) × List (ℤ × ℕ) × Option ℕ). IsTree (λ key. slice_index_or p.0 key None) p.2 (count_by is_some p.0) (λ id. lookup (int_eq id) p.1))
      (λ i. (sym a.slots i, sym a.entries i, sym a.root i)) s.placed;
  counted = a.live ∙ s.counted ∙ sym (ap count_of (alike_state old new a));
}

childless : (axis : Axis) (spot : Spot) (depth up : ℕ) (side : Bool) → child (leaf_of axis spot depth up) side ≡ None
childless axis spot depth up true = refl
childless axis spot depth up false = refl

-- what a new point makes of a tree
pub record Grown (old new : Tree) (spot : Spot) : Type 0 where
  pub counted : count_of (tree_state new) ≡ new.live + 1
  pub changed : Changed old (record new { live = new.live + 1 }) spot.id (Some (place spot))
  pub held : has_node new spot ≡ true
  pub size : slab_len new.nodes ≡ slab_len old.nodes + 1
  pub live : new.live ≡ old.live

grown_by : (old new : Tree) (spot : Spot) (key : ℕ) (leaf : Node) → IsSound old → NoPoint old spot.id → IsTree (node_at new) new.root (slab_len new.nodes) (key_of new)
    → Settles (node_at old) (node_at new) (key_of old) (key_of new) spot.id (Some (place spot)) → AllStay (node_at old) (node_at new) → new.live ≡ old.live → node_at new key ≡ Some leaf → leaf.spot ≡ spot → slab_len new.nodes ≡ slab_len old.nodes + 1 → Grown old new spot
grown_by old new spot key leaf s free t rows stays live here same size =
    let state : tree_state new ≡ with_row (tree_state old) (0, spot.id) (Some (place spot)) = settled_state old new spot.id (Some (place spot)) rows in
    let more : count_of (tree_state new) ≡ new.live + 1 = ap count_of state ∙ count-more (tree_state old) (0, spot.id) (place spot) free ∙ ap (λ c. c + 1) (sym s.counted) ∙ ap (λ c. c + 1) (sym live) in
    record {
      counted = more;
      changed = record { sound = record { placed = t; counted = sym more }; state = state; kept = nodes_kept old new stays };
      held = holds-at new.nodes.slots key leaf spot here same;
      size = size;
      live = live;
    }

linked_depth : (n : Node) (left : Bool) (c : ℕ) → (linked n left c).depth ≡ n.depth
linked_depth n true c = refl
linked_depth n false c = refl

n_plus_one : (n : ℕ) → n + 1 ≡ suc n
n_plus_one n = omega arith

-- behind a node
module _ (old mid new : Tree) (spot : Spot) (axis : Axis) (key at : ℕ) (n : Node) (left : Bool) (s : IsSound old) (free : NoPoint old spot.id) (stood : node_at old at ≡ Some n)
    (seat : IsSeat (node_at old) old.root spot (Free at left)) (p : IsPlanted old mid key (leaf_of axis spot (n.depth + 1) at)) (u : Updates mid.nodes new.nodes at (Some (linked n left key)))
    (size : slab_len new.nodes ≡ slab_len mid.nodes) (rest : new ≡ record mid { nodes = new.nodes }) (fits : FitsSpot spot) (clear : IsClear old spot) where
  abbrev leaf : Node
  leaf = leaf_of axis spot (n.depth + 1) at

  same : seat.0 ≡ n
  same = some_is seat.0 n (sym seat.1 ∙ stood)

  open_side : child n left ≡ None
  open_side = ap (λ (x : Node). child x left) (sym same) ∙ seat.2

  apart : key ≡ at → ⊥
  apart e = some_none n (sym p.vacant ∙ ap (node_at old) e ∙ stood)

  here : node_at new key ≡ Some leaf
  here = u.others key apart ∙ p.nodes.changed

  others : (j : ℕ) → (j ≡ key → ⊥) → (j ≡ at → ⊥) → node_at new j ≡ node_at old j
  others j d f = u.others j f ∙ p.nodes.others j d

  numbers : (x : ℤ) → key_of new x ≡ cond (int_eq spot.id x) (Some key) (key_of old x)
  numbers x = ap (λ (t : Tree). key_of t x) rest ∙ p.keys x

  root : new.root ≡ old.root
  root = ap (λ (t : Tree). t.root) rest ∙ p.root

  pub hung_from : Grown old new spot
  hung_from = grown_by old new spot key leaf s free
      (subst (λ r. IsTree (node_at new) r (slab_len new.nodes) (key_of new)) (sym root) (subst (λ z. IsTree (node_at new) old.root z (key_of new)) (sym (size ∙ p.size))
      (grown_tree (node_at old) (node_at new) key at n leaf left p.vacant stood open_side here u.changed others old.root (slab_len old.nodes) (key_of old) (key_of new) s.placed
      (subst (λ (x : Node). way (node_at old) spot x.depth old.root ≡ Some at) same seat.4) (ap (λ (x : Node). is_left x spot) (sym same) ∙ seat.3) (childless axis spot (n.depth + 1) at) (omega arith) fits numbers
      (others_live old spot.id s free) clear refl)))
      (grown_rows (node_at old) (node_at new) key at n leaf left p.vacant stood open_side here u.changed others old.root (slab_len old.nodes) (key_of old) (key_of new) s.placed
      (subst (λ (x : Node). way (node_at old) spot x.depth old.root ≡ Some at) same seat.4) (ap (λ (x : Node). is_left x spot) (sym same) ∙ seat.3) (childless axis spot (n.depth + 1) at) (omega arith) fits numbers
      (others_live old spot.id s free) clear refl refl)
      (grown_stays (node_at old) (node_at new) key at n leaf left p.vacant stood open_side here u.changed others)
      (ap (λ (t : Tree). t.live) rest ∙ p.live) here refl (size ∙ p.size)

  pub hung_below : HangsBelow old new (Free at left) spot axis key
  hung_below = record {
    vacant = p.vacant;
    below = λ r s.
        let n_is : s.0 ≡ n = some_is s.0 n (sym s.1 ∙ stood) in (
          leaf,
          here,
          childless axis spot (n.depth + 1) at (is_left leaf r),
          refl,
          ap (λ d. way (node_at new) r d new.root) (n_plus_one n.depth) ∙ ap (way (node_at new) r (suc n.depth)) root
              ∙ way_to_new (node_at old) (node_at new) key at n leaf left p.vacant stood open_side here u.changed others r old.root
              (ap (λ (x : Node). way (node_at old) r x.depth old.root) (sym n_is) ∙ s.4) (ap (λ (x : Node). is_left x r) (sym n_is) ∙ s.3),
        );
    beside = λ r j side s d. subst (λ o. IsSeat (node_at new) o r (Free j side)) (sym root)
        (seat_stays (node_at old) (node_at new) key at n leaf left p.vacant stood open_side here u.changed others r old.root j side s d);
    deep = ap node_depth here ∙ ap Some (n_plus_one n.depth) ∙ sym (ap (λ o. Some (depth_below o)) stood);
    other_depths = λ j d e. by_key j d e (same_key j key) (same_key j at);
    depths_stay = depth_stays (node_at old) (node_at new) (grown_stays (node_at old) (node_at new) key at n leaf left p.vacant stood open_side here u.changed others);
    size = size ∙ p.size;
    none_bare = λ b j m g. by_bare b j m g (same_key j key) (same_key j at);
    grown = ap (λ (t : Tree). t.grown) rest ∙ p.grown;
  }
    where
      by_bare : NoneBare old → (j : ℕ) (m : Node) → node_at new j ≡ Some m → (j ≡ key) ⊎ (j ≡ key → ⊥) → (j ≡ at) ⊎ (j ≡ at → ⊥) → m.bare ≡ false
      by_bare b j m g (inl k) f = ap (λ (x : Node). x.bare) (some_is m leaf (sym g ∙ ap (node_at new) k ∙ here))
      by_bare b j m g (inr k) (inl f) = ap (λ (x : Node). x.bare) (some_is m (linked n left key) (sym g ∙ ap (node_at new) f ∙ u.changed)) ∙ linked_bare n left key ∙ b at n stood
      by_bare b j m g (inr k) (inr f) = b j m (sym (others j k f) ∙ g)

      by_key : (j d : ℕ) → node_depth (node_at new j) ≡ Some d → (j ≡ key) ⊎ (j ≡ key → ⊥) → (j ≡ at) ⊎ (j ≡ at → ⊥) → (j ≡ key) ⊎ (node_depth (node_at old j) ≡ Some d)
      by_key j d e (inl k) f = inl k
      by_key j d e (inr k) (inl f) = inr (ap node_depth (ap (node_at old) f ∙ stood) ∙ sym (ap Some (linked_depth n left key)) ∙ sym (ap node_depth (ap (node_at new) f ∙ u.changed)) ∙ e)
      by_key j d e (inr k) (inr f) = inr (sym (ap node_depth (others j k f)) ∙ e)

-- as the root
pub rooted_from : (old mid : Tree) (spot : Spot) (axis : Axis) (key : ℕ) → IsSound old → NoPoint old spot.id → old.root ≡ None → IsPlanted old mid key (leaf_of axis spot 0 0) → FitsSpot spot → Grown old (record mid { root = Some key }) spot
rooted_from old mid spot axis key s free none p fits =
    let t : IsTree (node_at old) None (slab_len old.nodes) (key_of old) = subst (λ r. IsTree (node_at old) r (slab_len old.nodes) (key_of old)) none s.placed in
    grown_by old (record mid { root = Some key }) spot key (leaf_of axis spot 0 0) s free
    (subst (λ z. IsTree (node_at mid) (Some key) z (key_of mid)) (sym p.size)
    (first_tree (node_at old) (node_at mid) key (leaf_of axis spot 0 0) p.vacant p.nodes.changed p.nodes.others (slab_len old.nodes) (key_of old) (key_of mid) t (childless axis spot 0 0) refl fits p.keys refl))
    (first_rows (node_at old) (node_at mid) key (leaf_of axis spot 0 0) p.vacant p.nodes.changed p.nodes.others (slab_len old.nodes) (key_of old) (key_of mid) t (childless axis spot 0 0) refl fits p.keys refl refl)
    (first_stays (node_at old) (node_at mid) key (leaf_of axis spot 0 0) p.vacant p.nodes.changed p.nodes.others (slab_len old.nodes) (key_of old) (key_of mid) t (childless axis spot 0 0) refl fits p.keys refl)
    p.live p.nodes.changed refl p.size

pub rooted_below : (old mid : Tree) (spot : Spot) (axis : Axis) (key : ℕ) → old.root ≡ None → IsPlanted old mid key (leaf_of axis spot 0 0) → HangsBelow old (record mid { root = Some key }) Empty spot axis key
rooted_below old mid spot axis key none p = record {
  vacant = p.vacant;
  below = λ r s. (leaf_of axis spot 0 0, p.nodes.changed, childless axis spot 0 0 (is_left (leaf_of axis spot 0 0) r), refl, refl);
  beside = λ r j side s d. absurd (ended (node_at old) r s.0.depth j (ap (way (node_at old) r s.0.depth) (sym none) ∙ s.4));
  deep = ap node_depth p.nodes.changed;
  other_depths = λ j d e. by_key j d e (same_key j key);
  depths_stay = λ j d e. kept j d e (same_key j key);
  size = p.size;
  none_bare = λ b j m g. by_bare b j m g (same_key j key);
  grown = p.grown;
}
  where
    by_bare : NoneBare old → (j : ℕ) (m : Node) → node_at mid j ≡ Some m → (j ≡ key) ⊎ (j ≡ key → ⊥) → m.bare ≡ false
    by_bare b j m g (inl k) = ap (λ (x : Node). x.bare) (some_is m (leaf_of axis spot 0 0) (sym g ∙ ap (node_at mid) k ∙ p.nodes.changed))
    by_bare b j m g (inr k) = b j m (sym (p.nodes.others j k) ∙ g)

    by_key : (j d : ℕ) → node_depth (node_at mid j) ≡ Some d → (j ≡ key) ⊎ (j ≡ key → ⊥) → (j ≡ key) ⊎ (node_depth (node_at old j) ≡ Some d)
    by_key j d e (inl k) = inl k
    by_key j d e (inr k) = inr (sym (ap node_depth (p.nodes.others j k)) ∙ e)

    kept : (j d : ℕ) → node_depth (node_at old j) ≡ Some d → (j ≡ key) ⊎ (j ≡ key → ⊥) → node_depth (node_at mid j) ≡ Some d
    kept j d e (inl k) = absurd (some_none d (sym (ap node_depth (ap (node_at old) k ∙ p.vacant)) ∙ e))
    kept j d e (inr k) = ap node_depth (p.nodes.others j k) ∙ e

-- the count of points doesn't matter
pub below_counted : (old new : Tree) (seat : Seat) (spot : Spot) (axis : Axis) (key : ℕ) → HangsBelow old new seat spot axis key → HangsBelow old (record new { live = new.live + 1 }) seat spot axis key
below_counted old new seat spot axis key b = record { vacant = b.vacant; below = b.below; beside = b.beside; deep = b.deep; other_depths = b.other_depths; depths_stay = b.depths_stay; size = b.size; none_bare = b.none_bare; grown = b.grown }

-- a new node is live, and one that was dead may have become so
pub no_more_dead : (old new : Tree) → slab_len new.nodes ≤ slab_len old.nodes + 1 → new.live ≡ old.live → dead_nodes (record new { live = new.live + 1 }) ≤ dead_nodes old
no_more_dead old new size live = omega arith

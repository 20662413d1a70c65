-- A search that has nothing left to visit has found the nearest point.
use Rattle.std.specs.Prelude.{◌≡◌, ℕ, ℤ, Bool, true, false, Option, Some, None, List, [], if◌then◌else◌, slice_index_or, refl, ◌⊎◌}
use Rattle.std.proofs.Common.{sym, ◌∙◌, ap, subst, inl, inr}
use Rattle.std.specs.Ordering.{int_eq}
use Rattle.gx_base.specs.declared.calls.Spot.{Spot}
use Rattle.gx_base.specs.PointKind.{spot_of, spot_at, nearest}
use Rattle.point_trees.specs.declared.nodes.Node.{Node}
use Rattle.point_trees.specs.declared.tree.Tree.{Tree}
use Rattle.point_trees.specs.NearestPoints.{IsNearest}
use Rattle.point_trees.proofs.searches.NearestLaws.{nearest-when}
use Rattle.point_trees.specs.Trees.{is_point_of}
use Rattle.point_trees.proofs.trees.LiveNodes.{IsNodeOf, IsLive}
use Rattle.point_trees.specs.TreeStates.{node_at, key_of, place, row_of_node, tree_state, IsSound, holds_spot, has_node}
use Rattle.point_trees.proofs.trees.Holders.{holds-at}
use Rattle.point_trees.proofs.searches.Searched.{Within, IsAwaitedIn, IsSearched}
use Rattle.point_trees.proofs.states.Basics.{some_none, some_is, and_parts, same_int}
use Rattle.point_trees.proofs.states.StateRows.{row_found, get-rows_of, owner_spot}

-- a live node's point is in the state
pub live_there : (tree : Tree) (r : Spot) → IsSound tree → IsLive (node_at tree) r → spot_at (tree_state tree) r.id ≡ Some r
live_there tree r s l = by_node (node_at tree l.0) refl l.1
  where
    by_node : (o : Option Node) → node_at tree l.0 ≡ o → IsNodeOf o r → spot_at (tree_state tree) r.id ≡ Some r
    by_node None g h = absurd h
    by_node (Some n) g h =
        let named : key_of tree r.id ≡ Some l.0 = ap (λ (t : Spot). key_of tree t.id) (sym h.1) ∙ s.placed.owned l.0 n g h.0 in
        sym (owner_spot (node_at tree) tree.numbers.entries r.id l.0 n (record { node = n; numbered = named; there = g; live = h.0; named = ap (λ (t : Spot). t.id) h.1 }) g) ∙ ap Some h.1

-- and a point of the state has a live node
spot_by : (id : ℤ) (n : Node) (r : Spot) (b : Bool) → is_point_of id n ≡ b → spot_of id (if b then Some (place n.spot) else None) ≡ Some r → IsNodeOf (Some n) r
spot_by id n r true e f =
    let parts : (n.live ≡ true) × (int_eq n.spot.id id ≡ true) = and_parts n.live (int_eq n.spot.id id) e in
    let named : n.spot.id ≡ id = same_int n.spot.id id parts.1 in
    (parts.0, ap (λ y. record { id = y; x = n.spot.x; y = n.spot.y; z = n.spot.z }) named ∙ some_is (record { id = id; x = n.spot.x; y = n.spot.y; z = n.spot.z }) r f)
spot_by id n r false e f = absurd (some_none r f)

pub there_live : (tree : Tree) (id : ℤ) (r : Spot) → spot_at (tree_state tree) id ≡ Some r → IsLive (node_at tree) r
there_live tree id r e = by_key (key_of tree id) refl (sym (ap (spot_of id) (get-rows_of (node_at tree) tree.numbers.entries id)) ∙ e)
  where
    by_node : (key : ℕ) (o : Option Node) → node_at tree key ≡ o → spot_of id (row_of_node id o) ≡ Some r → IsLive (node_at tree) r
    by_node key None g f = absurd (some_none r f)
    by_node key (Some n) g f = (key, subst (λ o. IsNodeOf o r) (sym g) (spot_by id n r (is_point_of id n) refl f))

    by_key : (o : Option ℕ) → key_of tree id ≡ o → spot_of id (row_found (node_at tree) id (key_of tree id)) ≡ Some r → IsLive (node_at tree) r
    by_key None k f = absurd (some_none r (sym (ap (λ o. spot_of id (row_found (node_at tree) id o)) k) ∙ f))
    by_key (Some key) k f = by_node key (node_at tree key) refl (sym (ap (λ o. spot_of id (row_found (node_at tree) id o)) k) ∙ f)

ended : (tree : Tree) (q : Spot) (best : Option Spot) → IsSound tree → IsSearched (node_at tree) q best [] → IsNearest (tree_state tree) q best
ended tree q None s h = λ r i. by_cover r (h.covered r (there_live tree r.id r i.there, i.other))
  where
    by_cover : (r : Spot) → Within q None r ⊎ IsAwaitedIn (node_at tree) q [] r → ⊥
    by_cover r (inl w) = w
    by_cover r (inr a) = a
ended tree q (Some n) s h = (record { there = live_there tree n s (h.source n refl).0; other = (h.source n refl).1 }, λ r i. by_cover r (h.covered r (there_live tree r.id r i.there, i.other)))
  where
    by_cover : (r : Spot) → Within q (Some n) r ⊎ IsAwaitedIn (node_at tree) q [] r → Within q (Some n) r
    by_cover r (inl w) = w
    by_cover r (inr a) = absurd a

pub found_nearest : (tree : Tree) (q : Spot) (best : Option Spot) → IsSound tree → IsSearched (node_at tree) q best [] → best ≡ nearest (tree_state tree) q
found_nearest tree q best s h = sym (nearest-when (tree_state tree) q best (ended tree q best s h))

-- so the tree has a node for each point
node_held : (slots : List (Option Node)) (i : ℕ) (o : Option Node) (r : Spot) → slice_index_or slots i None ≡ o → IsNodeOf o r → holds_spot slots r ≡ true
node_held slots i None r g h = absurd h
node_held slots i (Some n) r g h = holds-at slots i n r g h.1

pub held_point : (tree : Tree) (id : ℤ) (r : Spot) → spot_at (tree_state tree) id ≡ Some r → has_node tree r ≡ true
held_point tree id r e = let l : IsLive (node_at tree) r = there_live tree id r e in node_held tree.nodes.slots l.0 (node_at tree l.0) r refl l.1

-- What a tree is after it is noted whether a node is bare.
use Rattle.std.specs.Prelude.{◌≡◌, ℕ, zero, suc, ◌<◌, ◌≤◌, ℤ, Bool, true, false, Option, Some, None, is_some, refl, ◌⊎◌}
use Rattle.std.proofs.Common.{sym, ◌∙◌, ap, subst, arith, inl, inr}
use Rattle.slab.specs.Slab.{slab_len}
use Rattle.gx_base.specs.declared.calls.Spot.{Spot}
use Rattle.point_trees.specs.declared.nodes.Node.{Node}
use Rattle.point_trees.specs.declared.tree.Tree.{Tree}
use Rattle.point_trees.specs.Trees.{is_left, child, child_of, way, node_depth, is_bare, all_bare, IsTree, IsOpenTo}
use Rattle.point_trees.specs.TreeStates.{node_at, key_of, row_of_node, tree_state, count_of, IsSound, IsClear, KeepsNodes, KeepsCounts, IsVeiled}
use Rattle.point_trees.proofs.states.Basics.{same_key, some_none, some_is}
use Rattle.point_trees.proofs.states.StateRows.{with_rows, row_found, rows_of-same, row_of_alike}
use Rattle.point_trees.proofs.trees.Ways.{AllStay, way_further, way_kept, way_over}
use Rattle.point_trees.proofs.trees.Openings.{prefix, moved, less_or, nobody_under}
use Rattle.point_trees.proofs.trees.Marks.{marked_stays, WasThere, was_there, marked_tree, marked_open}
use Rattle.point_trees.proofs.trees.Changes.{nodes_kept}
use Rattle.point_trees.proofs.trees.Seats.{depth_or_zero}

-- the points are as before
pub record IsSame (old new : Tree) : Type 0 where
  pub sound : IsSound new
  pub state : tree_state new ≡ tree_state old
  pub kept : KeepsNodes old new
  pub counts : KeepsCounts old new

pub same_itself : (tree : Tree) → IsSound tree → IsSame tree tree
same_itself tree s = record { sound = s; state = refl; kept = λ r h. h; counts = record { size = refl; grown = refl } }

pub same_then : (a b c : Tree) → IsSame a b → IsSame b c → IsSame a c
same_then a b c f g = record { sound = g.sound; state = g.state ∙ f.state; kept = λ r h. g.kept r (f.kept r h); counts = record { size = g.counts.size ∙ f.counts.size; grown = g.counts.grown ∙ f.counts.grown } }

module _ (old new : Tree) (key : ℕ) (n : Node) (v : Bool) (s : IsSound old) (there : node_at old key ≡ Some n) (w : IsVeiled old new key v) where
  here : node_at new key ≡ Some (record n { bare = v })
  here = (w.nodes n there).changed

  others : (j : ℕ) → (j ≡ key → ⊥) → node_at new j ≡ node_at old j
  others = (w.nodes n there).others

  pub veiled_root : new.root ≡ old.root
  veiled_root = ap (λ (t : Tree). t.root) w.rest

  keys : (x : ℤ) → key_of new x ≡ key_of old x
  keys x = ap (λ (t : Tree). key_of t x) w.rest

  pub veiled_stays : AllStay (node_at old) (node_at new)
  veiled_stays = marked_stays (node_at old) (node_at new) key n n.live v there here others

  pub veiled_back : AllStay (node_at new) (node_at old)
  veiled_back = marked_stays (node_at new) (node_at old) key (record n { bare = v }) n.live n.bare here there (λ j d. sym (others j d))

  state : tree_state new ≡ tree_state old
  state = ap with_rows (rows_of-same (node_at old) (node_at new) old.numbers.entries new.numbers.entries (λ id. ap (row_found (node_at new) id) (keys id) ∙ by_found id (key_of old id)))
    where
      by_key : (id : ℤ) (k : ℕ) → (k ≡ key) ⊎ (k ≡ key → ⊥) → row_of_node id (node_at new k) ≡ row_of_node id (node_at old k)
      by_key id k (inl e) = ap (row_of_node id) (ap (node_at new) e ∙ here) ∙ row_of_alike id n (record n { bare = v }) refl refl ∙ sym (ap (row_of_node id) (ap (node_at old) e ∙ there))
      by_key id k (inr d) = ap (row_of_node id) (others k d)

      by_found : (id : ℤ) (o : Option ℕ) → row_found (node_at new) id o ≡ row_found (node_at old) id o
      by_found id None = refl
      by_found id (Some k) = by_key id k (same_key k key)

  abbrev Was : ℕ → Node → Type 0
  Was j m = WasThere (node_at old) (node_at new) key n n.live v there here others j m

  was : (j : ℕ) (m : Node) → node_at new j ≡ Some m → Was j m
  was j m g = was_there (node_at old) (node_at new) key n n.live v there here others j m g

  was_live : (j : ℕ) (m : Node) (x : Was j m) → m.live ≡ true → x.old.live ≡ true
  was_live j m x l = by_mark x.live
    where
      by_mark : ((j ≡ key) × (m.live ≡ n.live)) ⊎ ((j ≡ key → ⊥) × (m.live ≡ x.old.live)) → x.old.live ≡ true
      by_mark (inl p) = ap (λ (y : Node). y.live) (some_is x.old n (sym x.stood ∙ ap (node_at old) p.0 ∙ there)) ∙ sym p.1 ∙ l
      by_mark (inr p) = sym p.1 ∙ l

  owned : (j : ℕ) (m : Node) → node_at new j ≡ Some m → m.live ≡ true → key_of new m.spot.id ≡ Some j
  owned j m g l = let x = was j m g in keys m.spot.id ∙ ap (λ (r : Spot). key_of old r.id) x.amends.spot ∙ s.placed.owned j x.old x.stood (was_live j m x l)

  veiled : ((j : ℕ) (m : Node) → node_at new j ≡ Some m → m.live ≡ true → IsOpenTo (node_at new) old.root m.spot m.depth) → IsSame old new
  veiled o = record {
    sound = record {
      placed = subst (λ r. IsTree (node_at new) r (slab_len new.nodes) (key_of new)) (sym veiled_root) (subst (λ z. IsTree (node_at new) old.root z (key_of new)) (sym w.size)
          (marked_tree (node_at old) (node_at new) key n n.live v there here others old.root (slab_len old.nodes) (key_of old) (key_of new) s.placed (λ x e. ap is_some (keys x) ∙ e) owned o));
      counted = ap (λ (t : Tree). t.live) w.rest ∙ s.counted ∙ sym (ap count_of state);
    };
    state = state;
    kept = nodes_kept old new veiled_stays;
    counts = record { size = w.size; grown = ap (λ (t : Tree). t.grown) w.rest };
  }

  -- one that isn't bare
  pub unveiled : v ≡ false → IsSame old new
  unveiled e = veiled (marked_open (node_at old) (node_at new) key n n.live v there here others old.root (slab_len old.nodes) (key_of old) s.placed (inl e) (λ l. s.placed.passable key n there l))

  -- one that is: it is dead, and its children are bare
  pub buried : n.live ≡ false → ((left : Bool) → all_bare (node_at old) (child n left) ≡ true) → IsSame old new
  buried dead sides = veiled (λ j m g l. opened j m l (was j m g))
    where
      opened : (j : ℕ) (m : Node) → m.live ≡ true → Was j m → IsOpenTo (node_at new) old.root m.spot m.depth
      opened j m l x = moved (node_at new) old.root x.old.spot m.spot x.old.depth m.depth x.amends.spot x.amends.depth open_was
        where
          open_was : IsOpenTo (node_at new) old.root x.old.spot x.old.depth
          open_was k y h e = subst (λ i. is_bare (node_at new i) ≡ false) same (by_key (same_key z.0 key))
            where
              z : (i : ℕ) × (way (node_at old) x.old.spot k old.root ≡ Some i)
              z = prefix (node_at old) x.old.spot k x.old.depth old.root j h (s.placed.placed j x.old x.stood)

              same : z.0 ≡ y
              same = some_is z.0 y (sym (way_kept (node_at old) (node_at new) veiled_stays x.old.spot k old.root z.0 z.1) ∙ e)

              by_key : (z.0 ≡ key) ⊎ (z.0 ≡ key → ⊥) → is_bare (node_at new z.0) ≡ false
              by_key (inl q) = absurd (nobody_under (node_at old) old.root (slab_len old.nodes) (key_of old) s.placed key n there dead sides j x.old x.stood (was_live j m x l) k h (z.1 ∙ ap Some q))
              by_key (inr d) = ap is_bare (others z.0 d) ∙ s.placed.passable j x.old x.stood (was_live j m x l) k z.0 h z.1

-- the nodes before this one on the spot's way aren't bare
pub record IsClearing (old new : Tree) (spot : Spot) (at : ℕ) : Type 0 where
  pub same : IsSame old new
  pub there : is_some (node_at new at) ≡ true
  pub on_way : way (node_at new) spot (depth_or_zero (node_at new at)) new.root ≡ Some at
  pub above : (k j : ℕ) → k < depth_or_zero (node_at new at) → way (node_at new) spot k new.root ≡ Some j → is_bare (node_at new j) ≡ false

depth_there : (o : Option Node) (d : ℕ) → node_depth o ≡ Some d → is_some o ≡ true
depth_there None d e = absurd (some_none d e)
depth_there (Some n) d e = refl

depth_is : (o : Option Node) (d : ℕ) → node_depth o ≡ Some d → depth_or_zero o ≡ d
depth_is None d e = absurd (some_none d e)
depth_is (Some n) d e = some_is n.depth d e

pub clearing_begun : (tree : Tree) (spot : Spot) (root : ℕ) → IsSound tree → tree.root ≡ Some root → IsClearing tree tree spot root
clearing_begun tree spot root s e =
    let d : node_depth (node_at tree root) ≡ Some 0 = s.placed.rooted root e in
    let z : depth_or_zero (node_at tree root) ≡ 0 = depth_is (node_at tree root) 0 d in
    record { same = same_itself tree s; there = depth_there (node_at tree root) 0 d; on_way = ap (λ k. way (node_at tree) spot k tree.root) z ∙ e; above = λ k j h f. absurd (omega (arith, z)) }

-- the node here isn't bare any more
pub clearing_noted : (old mid new : Tree) (spot : Spot) (at : ℕ) (n : Node) → IsClearing old mid spot at → node_at mid at ≡ Some n → IsVeiled mid new at false → IsClearing old new spot at × (is_bare (node_at new at) ≡ false)
clearing_noted old mid new spot at n c g w = (
  record {
    same = same_then old mid new c.same (unveiled mid new at n false c.same.sound g w refl);
    there = ap is_some here_now;
    on_way = ap (λ d. way (node_at new) spot d new.root) depth_same ∙ ap (way (node_at new) spot (depth_or_zero (node_at mid at))) root ∙ way_kept (node_at mid) (node_at new) (veiled_stays mid new at n false c.same.sound g w) spot (depth_or_zero (node_at mid at)) mid.root at c.on_way;
    above = λ k j h e. still k j (subst (λ d. k < d) depth_same h) e (same_key j at);
  },
  ap is_bare here_now,
)
  where
    here_now : node_at new at ≡ Some (record n { bare = false })
    here_now = (w.nodes n g).changed

    root : new.root ≡ mid.root
    root = veiled_root mid new at n false c.same.sound g w

    depth_same : depth_or_zero (node_at new at) ≡ depth_or_zero (node_at mid at)
    depth_same = ap depth_or_zero here_now ∙ sym (ap depth_or_zero g)

    still : (k j : ℕ) → k < depth_or_zero (node_at mid at) → way (node_at new) spot k new.root ≡ Some j → (j ≡ at) ⊎ (j ≡ at → ⊥) → is_bare (node_at new j) ≡ false
    still k j h e (inl q) = ap is_bare (ap (node_at new) q ∙ here_now)
    still k j h e (inr d) =
        ap is_bare ((w.nodes n g).others j d)
        ∙ c.above k j h (way_kept (node_at new) (node_at mid) (veiled_back mid new at n false c.same.sound g w) spot k mid.root j (ap (way (node_at new) spot k) (sym root) ∙ e))

module _ (old new : Tree) (spot : Spot) (at : ℕ) (n : Node) (side : Bool) (c : IsClearing old new spot at) (clear : is_bare (node_at new at) ≡ false) (g : node_at new at ≡ Some n) (own : side ≡ is_left n spot) where
  child_here : (o : Option ℕ) → child n side ≡ o → way (node_at new) spot (suc (depth_or_zero (node_at new at))) new.root ≡ o
  child_here o e = way_further (node_at new) spot (depth_or_zero (node_at new at)) new.root at c.on_way ∙ ap (λ m. child_of m spot) g ∙ ap (child n) (sym own) ∙ e

  not_here : (k j : ℕ) → k ≡ depth_or_zero (node_at new at) → way (node_at new) spot k new.root ≡ Some j → is_bare (node_at new j) ≡ false
  not_here k j q e = subst (λ i. is_bare (node_at new i) ≡ false) (some_is at j (sym c.on_way ∙ ap (λ d. way (node_at new) spot d new.root) (sym q) ∙ e)) clear

  as_far : (k j : ℕ) → (k ≡ depth_or_zero (node_at new at)) ⊎ (suc k ≤ depth_or_zero (node_at new at)) → way (node_at new) spot k new.root ≡ Some j → is_bare (node_at new j) ≡ false
  as_far k j (inl q) e = not_here k j q e
  as_far k j (inr q) e = c.above k j (omega arith) e

  pub clearing_further : (next : ℕ) → child n side ≡ Some next → IsClearing old new spot next
  clearing_further next e = record {
    same = c.same;
    there = depth_there (node_at new next) (suc n.depth) nested;
    on_way = ap (λ d. way (node_at new) spot d new.root) deeper ∙ child_here (Some next) e;
    above = λ k j h f. as_far k j (less_or k (depth_or_zero (node_at new at)) (omega (arith, deeper))) f;
  }
    where
      nested : node_depth (node_at new next) ≡ Some (suc n.depth)
      nested = c.same.sound.placed.nested at next n side g e

      deeper : depth_or_zero (node_at new next) ≡ suc (depth_or_zero (node_at new at))
      deeper = depth_is (node_at new next) (suc n.depth) nested ∙ ap suc (sym (ap depth_or_zero g))

  pub clearing_done : child n side ≡ None → IsClear new spot
  clearing_done e k j f = by_length (within k (depth_or_zero (node_at new at)))
    where
      within : (k d : ℕ) → (k ≤ d) ⊎ (suc d ≤ k)
      within zero d = inl (omega arith)
      within (suc k) zero = inr (omega arith)
      within (suc k) (suc d) = further (within k d)
        where
          further : (k ≤ d) ⊎ (suc d ≤ k) → (suc k ≤ suc d) ⊎ (suc (suc d) ≤ suc k)
          further (inl h) = inl (omega arith)
          further (inr h) = inr (omega arith)

      by_length : (k ≤ depth_or_zero (node_at new at)) ⊎ (suc (depth_or_zero (node_at new at)) ≤ k) → is_bare (node_at new j) ≡ false
      by_length (inl h) = as_far k j (less_or k (depth_or_zero (node_at new at)) h) f
      by_length (inr h) = absurd (way_over (node_at new) spot (suc (depth_or_zero (node_at new at))) k new.root j (child_here None e) h f)

-- the same, from what the code computes
pub buried_from : (old new : Tree) (key : ℕ) (n : Node) (held : Option Node) (left right : Bool) → IsSound old → held ≡ node_at old key → held ≡ Some n → n.live ≡ false → left ≡ all_bare (node_at old) n.left → right ≡ all_bare (node_at old) n.right
    → left ≡ true → right ≡ true → IsVeiled old new key true → IsSame old new
buried_from old new key n held left right s f g dead a b p q w = buried old new key n true s (sym f ∙ g) w dead sides
  where
    sides : (side : Bool) → all_bare (node_at old) (child n side) ≡ true
    sides true = sym a ∙ p
    sides false = sym b ∙ q

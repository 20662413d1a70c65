-- What marks and new nodes make of a tree and of its state.
use Rattle.std.specs.Prelude.{◌≡◌, ℕ, ℤ, ◌+◌, ◌-◌, ◌≤◌, Bool, true, false, cond, Option, Some, None, List, is_some, refl, ◌⊎◌}
use Rattle.std.proofs.Common.{sym, ◌∙◌, ap, subst, inl, inr}
use Rattle.std.specs.Ordering.{int_eq}
use Rattle.gx_base.specs.declared.calls.Spot.{Spot}
use Rattle.gx_base.specs.States.{with_row}
use Rattle.slab.specs.Slab.{slab_len, Updates}
use Rattle.point_trees.specs.declared.nodes.Node.{Node}
use Rattle.point_trees.specs.declared.tree.Tree.{Tree}
use Rattle.point_trees.specs.Trees.{way, IsTree, IsOwner}
use Rattle.point_trees.specs.TreeStates.{node_at, key_of, place, row_of_node, tree_state, count_of, IsSound, NoPoint, IsClear, KeepsNodes}
use Rattle.point_trees.proofs.states.Basics.{same_key, same_int, int_eq-of, int_eq-itself, int_eq-comm, false_of, not_both, some_none, some_is}
use Rattle.point_trees.proofs.states.StateRows.{with_rows, row_found, Settles, rows_of-with, row_of_live, row_of_dead, row_of_another, owner_row, get-rows_of}
use Rattle.point_trees.proofs.states.Counts.{count-more, count-less, count-some}
use Rattle.point_trees.proofs.trees.Ways.{Amends, AllStay, there_still}
use Rattle.point_trees.proofs.trees.Holders.{Holds, holds-at, holds-where}
use Rattle.point_trees.proofs.trees.Marks.{marked_stays, WasThere, was_there, marked_tree, marked_open}

-- the tree has another row for one id, and each node has stayed
pub record Changed (old new : Tree) (id : ℤ) (row : Option (List ℤ)) : Type 0 where
  pub sound : IsSound new
  pub state : tree_state new ≡ with_row (tree_state old) (0, id) row
  pub kept : KeepsNodes old new

pub nodes_kept : (old new : Tree) → AllStay (node_at old) (node_at new) → KeepsNodes old new
nodes_kept old new h r held =
    let at : Holds old.nodes.slots r = holds-where old.nodes.slots r held in
    let m : (m : Node) × (node_at new at.key ≡ Some m) × Amends at.node m = there_still (node_at old) (node_at new) h at.key at.node at.there in
    holds-at new.nodes.slots at.key m.0 r m.1 (m.2.spot ∙ at.same)

pub settled_state : (old new : Tree) (id : ℤ) (row : Option (List ℤ)) → Settles (node_at old) (node_at new) (key_of old) (key_of new) id row → tree_state new ≡ with_row (tree_state old) (0, id) row
settled_state old new id row s = ap with_rows (rows_of-with (node_at old) (node_at new) old.numbers.entries new.numbers.entries id row s)

-- a point that is taken out
module _ (old new : Tree) (id : ℤ) (key : ℕ) (s : IsSound old) (o : IsOwner (node_at old) (key_of old) id key)
    (u : Updates old.nodes new.nodes key (Some (record o.node { live = false }))) (numbers : (x : ℤ) → key_of new x ≡ key_of old x) (root : new.root ≡ old.root) (size : slab_len new.nodes ≡ slab_len old.nodes)
    (live : new.live ≡ old.live - 1) where
  abbrev dead : Node
  dead = record o.node { live = false }

  still_owned : (j : ℕ) (m : Node) → node_at new j ≡ Some m → m.live ≡ true → key_of new m.spot.id ≡ Some j
  still_owned j m g l = by_mark w.live
    where
      w : WasThere (node_at old) (node_at new) key o.node false o.node.bare o.there u.changed u.others j m
      w = was_there (node_at old) (node_at new) key o.node false o.node.bare o.there u.changed u.others j m g

      by_mark : ((j ≡ key) × (m.live ≡ false)) ⊎ ((j ≡ key → ⊥) × (m.live ≡ w.old.live)) → key_of new m.spot.id ≡ Some j
      by_mark (inl p) = absurd (not_both m.live l p.1)
      by_mark (inr p) = numbers m.spot.id ∙ ap (λ (r : Spot). key_of old r.id) w.amends.spot ∙ s.placed.owned j w.old w.stood (sym p.1 ∙ l)

  taken_rows : Settles (node_at old) (node_at new) (key_of old) (key_of new) id None
  taken_rows = record {
    here = ap (row_found (node_at new) id) (numbers id ∙ o.numbered) ∙ ap (row_of_node id) u.changed ∙ row_of_dead id dead refl;
    numbers_stay = λ q n. numbers q;
    nodes_stay = λ q k n. by_key q k n (same_key k key);
  }
    where
      by_key : (q : ℤ) (k : ℕ) → int_eq q id ≡ false → (k ≡ key) ⊎ (k ≡ key → ⊥) → row_of_node q (node_at new k) ≡ row_of_node q (node_at old k)
      by_key q k n (inl e) =
          let apart : int_eq o.node.spot.id q ≡ false = ap (λ y. int_eq y q) o.named ∙ int_eq-comm id q ∙ n in
          ap (row_of_node q) (ap (node_at new) e ∙ u.changed) ∙ row_of_dead q dead refl ∙ sym (ap (row_of_node q) (ap (node_at old) e ∙ o.there) ∙ row_of_another q o.node apart)
      by_key q k n (inr d) = ap (row_of_node q) (u.others k d)

  pub taken : Changed old new id None
  taken = record {
    sound = record {
      placed = subst (λ r. IsTree (node_at new) r (slab_len new.nodes) (key_of new)) (sym root) (subst (λ z. IsTree (node_at new) old.root z (key_of new)) (sym size)
          (marked_tree (node_at old) (node_at new) key o.node false o.node.bare o.there u.changed u.others old.root (slab_len old.nodes) (key_of old) (key_of new) s.placed (λ x e. ap is_some (numbers x) ∙ e) still_owned
          (marked_open (node_at old) (node_at new) key o.node false o.node.bare o.there u.changed u.others old.root (slab_len old.nodes) (key_of old) s.placed (inr refl) (λ e. absurd (let f : false ≡ true = e in cc)))));
      counted = live ∙ ap (λ n. n - 1) s.counted ∙ sym (ap count_of (settled_state old new id None taken_rows) ∙ count-less (tree_state old) (0, id) (place o.node.spot) (owner_row (node_at old) old.numbers.entries id key o));
    };
    state = settled_state old new id None taken_rows;
    kept = nodes_kept old new (marked_stays (node_at old) (node_at new) key o.node false o.node.bare o.there u.changed u.others);
  }

-- there was one
pub one_there : (old : Tree) (id : ℤ) (key : ℕ) → IsSound old → IsOwner (node_at old) (key_of old) id key → 1 ≤ old.live
one_there old id key s o = subst (λ n. 1 ≤ n) (sym s.counted) (count-some (tree_state old) (0, id) (place o.node.spot) (owner_row (node_at old) old.numbers.entries id key o))

-- where there is no point of an id, each live node has another
pub others_live : (old : Tree) (id : ℤ) → IsSound old → NoPoint old id → (j : ℕ) (n : Node) → node_at old j ≡ Some n → n.live ≡ true → int_eq n.spot.id id ≡ false
others_live old id s free j n g l = false_of (int_eq n.spot.id id) (λ t.
    let e : n.spot.id ≡ id = same_int n.spot.id id t in
    let found : key_of old id ≡ Some j = ap (key_of old) (sym e) ∙ s.placed.owned j n g l in
    some_none (place n.spot) (sym free ∙ get-rows_of (node_at old) old.numbers.entries id ∙ ap (row_found (node_at old) id) found ∙ ap (row_of_node id) g ∙ row_of_live id n l e))

pub cond_true : {A : Type 0} (b : Bool) (x y : A) → b ≡ true → cond b x y ≡ x
cond_true {A = A} b x y e = ap (λ c. cond c x y) e

pub cond_false : {A : Type 0} (b : Bool) (x y : A) → b ≡ false → cond b x y ≡ y
cond_false {A = A} b x y e = ap (λ c. cond c x y) e

pub some_kept : (b : Bool) (key : ℕ) (o : Option ℕ) → is_some o ≡ true → is_some (cond b (Some key) o) ≡ true
some_kept true key o e = refl
some_kept false key o e = e

-- a node that is made live again
module _ (old new : Tree) (spot : Spot) (key : ℕ) (n : Node) (s : IsSound old) (free : NoPoint old spot.id) (there : node_at old key ≡ Some n) (same : n.spot ≡ spot)
    (u : Updates old.nodes new.nodes key (Some (record n { live = true }))) (numbers : (x : ℤ) → key_of new x ≡ cond (int_eq spot.id x) (Some key) (key_of old x))
    (root : new.root ≡ old.root) (size : slab_len new.nodes ≡ slab_len old.nodes) (clear : IsClear old spot) where
  now_owned : (j : ℕ) (m : Node) → node_at new j ≡ Some m → m.live ≡ true → key_of new m.spot.id ≡ Some j
  now_owned j m g l = by_mark w.live
    where
      w : WasThere (node_at old) (node_at new) key n true n.bare there u.changed u.others j m
      w = was_there (node_at old) (node_at new) key n true n.bare there u.changed u.others j m g

      by_mark : ((j ≡ key) × (m.live ≡ true)) ⊎ ((j ≡ key → ⊥) × (m.live ≡ w.old.live)) → key_of new m.spot.id ≡ Some j
      by_mark (inl p) =
          let old_is : w.old ≡ n = some_is w.old n (sym w.stood ∙ ap (node_at old) p.0 ∙ there) in
          let id : spot.id ≡ m.spot.id = ap (λ (r : Spot). r.id) (sym same) ∙ ap (λ (x : Node). x.spot.id) (sym old_is) ∙ ap (λ (r : Spot). r.id) (sym w.amends.spot) in
          numbers m.spot.id ∙ cond_true (int_eq spot.id m.spot.id) (Some key) (key_of old m.spot.id) (int_eq-of spot.id m.spot.id id) ∙ ap Some (sym p.0)
      by_mark (inr p) =
          let apart : int_eq spot.id m.spot.id ≡ false =
          int_eq-comm spot.id m.spot.id ∙ ap (λ (r : Spot). int_eq r.id spot.id) w.amends.spot ∙ others_live old spot.id s free j w.old w.stood (sym p.1 ∙ l) in
          numbers m.spot.id ∙ cond_false (int_eq spot.id m.spot.id) (Some key) (key_of old m.spot.id) apart
          ∙ ap (λ (r : Spot). key_of old r.id) w.amends.spot ∙ s.placed.owned j w.old w.stood (sym p.1 ∙ l)

  woken_rows : Settles (node_at old) (node_at new) (key_of old) (key_of new) spot.id (Some (place spot))
  woken_rows = record {
    here = ap (row_found (node_at new) spot.id) (numbers spot.id ∙ cond_true (int_eq spot.id spot.id) (Some key) (key_of old spot.id) (int_eq-itself spot.id))
        ∙ ap (row_of_node spot.id) u.changed ∙ row_of_live spot.id (record n { live = true }) refl (ap (λ (r : Spot). r.id) same) ∙ ap (λ (r : Spot). Some (place r)) same;
    numbers_stay = λ q d. numbers q ∙ cond_false (int_eq spot.id q) (Some key) (key_of old q) (int_eq-comm spot.id q ∙ d);
    nodes_stay = λ q k d. by_key q k d (same_key k key);
  }
    where
      by_key : (q : ℤ) (k : ℕ) → int_eq q spot.id ≡ false → (k ≡ key) ⊎ (k ≡ key → ⊥) → row_of_node q (node_at new k) ≡ row_of_node q (node_at old k)
      by_key q k d (inl e) =
          let apart : int_eq n.spot.id q ≡ false = ap (λ (r : Spot). int_eq r.id q) same ∙ int_eq-comm spot.id q ∙ d in
          ap (row_of_node q) (ap (node_at new) e ∙ u.changed) ∙ row_of_another q (record n { live = true }) apart ∙ sym (ap (row_of_node q) (ap (node_at old) e ∙ there) ∙ row_of_another q n apart)
      by_key q k d (inr f) = ap (row_of_node q) (u.others k f)

  pub one_woken : count_of (tree_state new) ≡ old.live + 1
  one_woken = ap count_of (settled_state old new spot.id (Some (place spot)) woken_rows) ∙ count-more (tree_state old) (0, spot.id) (place spot) free ∙ ap (λ c. c + 1) (sym s.counted)

  pub woken : new.live ≡ old.live + 1 → Changed old new spot.id (Some (place spot))
  woken live = record {
    sound = record {
      placed = subst (λ r. IsTree (node_at new) r (slab_len new.nodes) (key_of new)) (sym root) (subst (λ z. IsTree (node_at new) old.root z (key_of new)) (sym size)
          (marked_tree (node_at old) (node_at new) key n true n.bare there u.changed u.others old.root (slab_len old.nodes) (key_of old) (key_of new) s.placed
          (λ x e. ap is_some (numbers x) ∙ some_kept (int_eq spot.id x) key (key_of old x) e) now_owned
          (marked_open (node_at old) (node_at new) key n true n.bare there u.changed u.others old.root (slab_len old.nodes) (key_of old) s.placed (inr refl)
          (λ e k j h w. clear k j (ap (λ r. way (node_at old) r k old.root) (sym same) ∙ w)))));
      counted = live ∙ sym one_woken;
    };
    state = settled_state old new spot.id (Some (place spot)) woken_rows;
    kept = nodes_kept old new (marked_stays (node_at old) (node_at new) key n true n.bare there u.changed u.others);
  }

-- the same, from what the code computes
pub taken_from : (old mid : Tree) (id given : ℤ) (key : ℕ) → IsSound old → given ≡ id → IsOwner (node_at old) (key_of old) given key
    → ((n : Node) → node_at old key ≡ Some n → Updates old.nodes mid.nodes key (Some (record n { live = false }))) → slab_len mid.nodes ≡ slab_len old.nodes → mid ≡ record old { nodes = mid.nodes }
    → Changed old (record mid { live = mid.live - 1 }) id None
taken_from old mid id given key s e o u size rest =
    let p : IsOwner (node_at old) (key_of old) id key = subst (λ y. IsOwner (node_at old) (key_of old) y key) e o in
    taken old (record mid { live = mid.live - 1 }) id key s p (u p.node p.there) (λ x. ap (λ (t : Tree). key_of t x) rest) (ap (λ (t : Tree). t.root) rest) size (ap (λ (t : Tree). t.live - 1) rest)

pub woken_from : (old mid new : Tree) (spot : Spot) (key : ℕ) (given : ℤ) → IsSound old → NoPoint old spot.id → ((n : Node) × (node_at old key ≡ Some n) × (n.spot ≡ spot)) → given ≡ spot.id
    → ((n : Node) → node_at old key ≡ Some n → Updates old.nodes mid.nodes key (Some (record n { live = true }))) → slab_len mid.nodes ≡ slab_len old.nodes → mid ≡ record old { nodes = mid.nodes }
    → ((x : ℤ) → key_of new x ≡ cond (int_eq given x) (Some key) (key_of mid x)) → new ≡ record mid { numbers = new.numbers } → IsClear old spot
    → (count_of (tree_state new) ≡ new.live + 1) × Changed old (record new { live = new.live + 1 }) spot.id (Some (place spot))
woken_from old mid new spot key given s free there e u size rest keys more clear =
    let numbers : (x : ℤ) → key_of new x ≡ cond (int_eq spot.id x) (Some key) (key_of old x) =
    λ x. keys x ∙ ap (λ y. cond (int_eq y x) (Some key) (key_of mid x)) e ∙ ap (λ (t : Tree). cond (int_eq spot.id x) (Some key) (key_of t x)) rest in
    let nodes : new.nodes ≡ mid.nodes = ap (λ (t : Tree). t.nodes) more in
    let live : new.live ≡ old.live = ap (λ (t : Tree). t.live) more ∙ ap (λ (t : Tree). t.live) rest in
    let root : new.root ≡ old.root = ap (λ (t : Tree). t.root) more ∙ ap (λ (t : Tree). t.root) rest in
    let updates : Updates old.nodes new.nodes key (Some (record there.0 { live = true })) = subst (λ ns. Updates old.nodes ns key (Some (record there.0 { live = true }))) (sym nodes) (u there.0 there.1) in
    let len : slab_len new.nodes ≡ slab_len old.nodes = ap slab_len nodes ∙ size in (
      one_woken old new spot key there.0 s free there.1 there.2 updates numbers root len clear ∙ ap (λ c. c + 1) (sym live),
      woken old (record new { live = new.live + 1 }) spot key there.0 s free there.1 there.2 updates numbers root len clear (ap (λ c. c + 1) live),
    )

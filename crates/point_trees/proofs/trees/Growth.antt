-- What a new node makes of a tree.
use Rattle.std.specs.Prelude.{◌≡◌, ℕ, ℤ, zero, suc, ◌≤◌, ◌+◌, ◌<◌, Bool, true, false, cond, Option, Some, None, is_some, refl, ◌⊎◌}
use Rattle.std.proofs.Common.{sym, ◌∙◌, ap, subst, inl, inr, arith}
use Rattle.std.specs.Ordering.{int_eq}
use Rattle.gx_base.specs.declared.calls.Spot.{Spot}
use Rattle.point_trees.specs.declared.nodes.Node.{Node}
use Rattle.point_trees.specs.declared.nodes.Seat.TheVariants.{Free}
use Rattle.point_trees.specs.Trees.{Nodes, is_left, child, child_of, way, node_depth, linked, is_bare, FitsSpot, IsTree, IsSeat, IsOpenTo}
use Rattle.point_trees.specs.TreeStates.{place, row_of_node}
use Rattle.point_trees.proofs.states.Basics.{same_key, not_both, int_eq-itself, int_eq-comm, some_none, some_is}
use Rattle.point_trees.proofs.states.StateRows.{row_found, Settles, row_of_live, row_of_another, row_of_alike}
use Rattle.point_trees.proofs.trees.Ways.{Amends, amends_itself, Stays, stays_itself, AllStay, ended, way_further, way_kept, depth_stays}
use Rattle.point_trees.proofs.trees.Openings.{BareStays, open_kept, moved, less_or}
use Rattle.point_trees.proofs.trees.Changes.{cond_true, cond_false, some_kept}

-- the node with one child more
linked_amends : (n : Node) (left : Bool) (c : ℕ) → child n left ≡ None → Amends n (linked n left c)
linked_amends n true c free = record { spot = refl; axis = refl; depth = refl; children = kept }
  where
    kept : (side : Bool) (d : ℕ) → child n side ≡ Some d → child (linked n true c) side ≡ Some d
    kept true d e = absurd (some_none d (sym free ∙ e))
    kept false d e = e
linked_amends n false c free = record { spot = refl; axis = refl; depth = refl; children = kept }
  where
    kept : (side : Bool) (d : ℕ) → child n side ≡ Some d → child (linked n false c) side ≡ Some d
    kept true d e = e
    kept false d e = absurd (some_none d (sym free ∙ e))

linked_side : (n : Node) (left : Bool) (c : ℕ) → child (linked n left c) left ≡ Some c
linked_side n true c = refl
linked_side n false c = refl

linked_other : (n : Node) (left : Bool) (c : ℕ) (side : Bool) → (side ≡ left → ⊥) → child (linked n left c) side ≡ child n side
linked_other n true c true d = absurd (d refl)
linked_other n true c false d = refl
linked_other n false c true d = refl
linked_other n false c false d = absurd (d refl)

linked_left : (n : Node) (left : Bool) (c : ℕ) (r : Spot) → is_left (linked n left c) r ≡ is_left n r
linked_left n true c r = refl
linked_left n false c r = refl

linked_live : (n : Node) (left : Bool) (c : ℕ) → (linked n left c).live ≡ n.live
linked_live n true c = refl
linked_live n false c = refl

pub linked_bare : (n : Node) (left : Bool) (c : ℕ) → (linked n left c).bare ≡ n.bare
linked_bare n true c = refl
linked_bare n false c = refl

linked_child : (n : Node) (left : Bool) (c : ℕ) (side : Bool) (d : ℕ) → child (linked n left c) side ≡ Some d → (child n side ≡ Some d) ⊎ (c ≡ d)
linked_child n true c true d e = inr (some_is c d e)
linked_child n true c false d e = inl e
linked_child n false c true d e = inl e
linked_child n false c false d e = inr (some_is c d e)

module _ (look next : Nodes) (key at : ℕ) (n leaf : Node) (left : Bool) (vacant : look key ≡ None) (stood : look at ≡ Some n) (free : child n left ≡ None)
    (here : next key ≡ Some leaf) (there : next at ≡ Some (linked n left key)) (others : (j : ℕ) → (j ≡ key → ⊥) → (j ≡ at → ⊥) → next j ≡ look j) where
  pub grown_stays : AllStay look next
  grown_stays j = by_key (same_key j key) (same_key j at)
    where
      by_key : (j ≡ key) ⊎ (j ≡ key → ⊥) → (j ≡ at) ⊎ (j ≡ at → ⊥) → Stays (look j) (next j)
      by_key (inl e) q = subst (λ o. Stays o (next j)) (sym (ap look e ∙ vacant)) tt
      by_key (inr d) (inl e) = subst (λ o. Stays o (next j)) (sym (ap look e ∙ stood)) (subst (Stays (Some n)) (sym (ap next e ∙ there)) (linked_amends n left key free))
      by_key (inr d) (inr f) = subst (Stays (look j)) (sym (others j d f)) (stays_itself (look j))

  grown_bare : BareStays look next
  grown_bare j f = by_key (same_key j key) (same_key j at)
    where
      by_key : (j ≡ key) ⊎ (j ≡ key → ⊥) → (j ≡ at) ⊎ (j ≡ at → ⊥) → is_bare (next j) ≡ false
      by_key (inl e) q = absurd (not_both (is_bare (look j)) (ap is_bare (ap look e ∙ vacant)) f)
      by_key (inr d) (inl e) = ap is_bare (ap next e ∙ there) ∙ linked_bare n left key ∙ sym (ap is_bare (ap look e ∙ stood)) ∙ f
      by_key (inr d) (inr g) = ap is_bare (others j d g) ∙ f

  -- what belonged at the seat has its way to the new node
  pub way_to_new : (r : Spot) (root : Option ℕ) → way look r n.depth root ≡ Some at → is_left n r ≡ left → way next r (suc n.depth) root ≡ Some key
  way_to_new r root w side =
      way_further next r n.depth root at (way_kept look next grown_stays r n.depth root at w)
      ∙ ap (λ o. child_of o r) there ∙ ap (child (linked n left key)) (linked_left n left key r ∙ side) ∙ linked_side n left key

  -- and what belonged on another free side still does
  pub seat_stays : (r : Spot) (root : Option ℕ) (j : ℕ) (side : Bool) → IsSeat look root r (Free j side) → (Free j side ≡ Free at left → ⊥) → IsSeat next root r (Free j side)
  seat_stays r root j side s apart = by_key (same_key j key) (same_key j at)
    where
      by_key : (j ≡ key) ⊎ (j ≡ key → ⊥) → (j ≡ at) ⊎ (j ≡ at → ⊥) → IsSeat next root r (Free j side)
      by_key (inl e) q = absurd (some_none s.0 (sym (ap look e ∙ vacant) ∙ s.1))
      by_key (inr d) (inl e) =
          let same : s.0 ≡ n = some_is s.0 n (sym s.1 ∙ ap look e ∙ stood) in
          let other : side ≡ left → ⊥ = λ f. apart (λ i. Free (e i) (f i)) in
          let on_way : way look r n.depth root ≡ Some j = ap (λ (x : Node). way look r x.depth root) (sym same) ∙ s.4 in (
            linked n left key,
            ap next e ∙ there,
            linked_other n left key side other ∙ ap (λ (x : Node). child x side) (sym same) ∙ s.2,
            linked_left n left key r ∙ ap (λ (x : Node). is_left x r) (sym same) ∙ s.3,
            ap (λ d. way next r d root) (linked_amends n left key free).depth ∙ way_kept look next grown_stays r n.depth root j on_way,
          )
      by_key (inr d) (inr f) = (s.0, others j d f ∙ s.1, s.2, s.3, way_kept look next grown_stays r s.0.depth root j s.4)

  -- each node but the new one was there
  record Stood (j : ℕ) (m : Node) : Type 0 where
    old : Node
    stood_there : look j ≡ Some old
    amends : Amends old m
    live : m.live ≡ old.live
    children : (side : Bool) (c : ℕ) → child m side ≡ Some c → (child old side ≡ Some c) ⊎ ((key ≡ c) × (old ≡ n))

  stood_or_new : (j : ℕ) (m : Node) → next j ≡ Some m → ((j ≡ key) × (leaf ≡ m)) ⊎ Stood j m
  stood_or_new j m g = by_key (same_key j key) (same_key j at)
    where
      linked_by : (side : Bool) (c : ℕ) → (child n side ≡ Some c) ⊎ (key ≡ c) → (child n side ≡ Some c) ⊎ ((key ≡ c) × (n ≡ n))
      linked_by side c (inl e) = inl e
      linked_by side c (inr e) = inr (e, refl)

      by_key : (j ≡ key) ⊎ (j ≡ key → ⊥) → (j ≡ at) ⊎ (j ≡ at → ⊥) → ((j ≡ key) × (leaf ≡ m)) ⊎ Stood j m
      by_key (inl e) q = inl (e, some_is leaf m (sym here ∙ ap next (sym e) ∙ g))
      by_key (inr d) (inl e) =
          let same : linked n left key ≡ m = some_is (linked n left key) m (sym there ∙ ap next (sym e) ∙ g) in
          inr (subst (Stood j) same (record { old = n; stood_there = ap look e ∙ stood; amends = linked_amends n left key free; live = linked_live n left key; children = λ side c k. linked_by side c (linked_child n left key side c k) }))
      by_key (inr d) (inr f) = inr (record { old = m; stood_there = sym (others j d f) ∙ g; amends = amends_itself m; live = refl; children = λ side c k. inl k })

  module _ (root : Option ℕ) (size : ℕ) (numbers after : ℤ → Option ℕ) (t : IsTree look root size numbers) (on_way : way look leaf.spot n.depth root ≡ Some at) (side : is_left n leaf.spot ≡ left)
      (bare : (s : Bool) → child leaf s ≡ None) (deep : leaf.depth ≡ suc n.depth) (fits : FitsSpot leaf.spot) (keys : (x : ℤ) → after x ≡ cond (int_eq leaf.spot.id x) (Some key) (numbers x))
      (unused : (j : ℕ) (x : Node) → look j ≡ Some x → x.live ≡ true → int_eq x.spot.id leaf.spot.id ≡ false)
      (clear : (k j : ℕ) → way look leaf.spot k root ≡ Some j → is_bare (look j) ≡ false) (fresh : leaf.bare ≡ false) where
    leaf_placed : way next leaf.spot leaf.depth root ≡ Some key
    leaf_placed = ap (λ d. way next leaf.spot d root) deep ∙ way_to_new leaf.spot root on_way side

    new_key : after leaf.spot.id ≡ Some key
    new_key = keys leaf.spot.id ∙ cond_true (int_eq leaf.spot.id leaf.spot.id) (Some key) (numbers leaf.spot.id) (int_eq-itself leaf.spot.id)

    placed : (j : ℕ) (m : Node) → ((j ≡ key) × (leaf ≡ m)) ⊎ Stood j m → way next m.spot m.depth root ≡ Some j
    placed j m (inl p) = subst (λ (x : Node). way next x.spot x.depth root ≡ Some j) p.1 (leaf_placed ∙ ap Some (sym p.0))
    placed j m (inr w) =
        ap (λ s. way next s m.depth root) w.amends.spot ∙ ap (λ d. way next w.old.spot d root) w.amends.depth ∙ way_kept look next grown_stays w.old.spot w.old.depth root j (t.placed j w.old w.stood_there)

    nested : (j c : ℕ) (m : Node) (s : Bool) → child m s ≡ Some c → ((j ≡ key) × (leaf ≡ m)) ⊎ Stood j m → node_depth (next c) ≡ Some (suc m.depth)
    nested j c m s e (inl p) = absurd (some_none c (sym (bare s) ∙ ap (λ (x : Node). child x s) p.1 ∙ e))
    nested j c m s e (inr w) = by_child (w.children s c e)
      where
        by_child : (child w.old s ≡ Some c) ⊎ ((key ≡ c) × (w.old ≡ n)) → node_depth (next c) ≡ Some (suc m.depth)
        by_child (inl k) = depth_stays look next grown_stays c (suc w.old.depth) (t.nested j c w.old s w.stood_there k) ∙ ap (λ d. Some (suc d)) (sym w.amends.depth)
        by_child (inr k) = ap (λ x. node_depth (next x)) (sym k.0) ∙ ap node_depth here ∙ ap Some deep ∙ ap (λ (x : Node). Some (suc x.depth)) (sym k.1) ∙ ap (λ d. Some (suc d)) (sym w.amends.depth)

    shallow : (j : ℕ) (m : Node) → ((j ≡ key) × (leaf ≡ m)) ⊎ Stood j m → m.depth < size + 1
    shallow j m (inl p) = let b : n.depth < size = t.shallow at n stood in let e : m.depth ≡ leaf.depth = ap (λ (x : Node). x.depth) (sym p.1) in omega (arith, deep)
    shallow j m (inr w) = let b : w.old.depth < size = t.shallow j w.old w.stood_there in let e : m.depth ≡ w.old.depth = w.amends.depth in omega arith

    numbered : (j : ℕ) (m : Node) → ((j ≡ key) × (leaf ≡ m)) ⊎ Stood j m → is_some (after m.spot.id) ≡ true
    numbered j m (inl p) = subst (λ (x : Node). is_some (after x.spot.id) ≡ true) p.1 (ap is_some new_key)
    numbered j m (inr w) = ap is_some (keys m.spot.id) ∙ some_kept (int_eq leaf.spot.id m.spot.id) key (numbers m.spot.id) (ap (λ (r : Spot). is_some (numbers r.id)) w.amends.spot ∙ t.numbered j w.old w.stood_there)

    owned : (j : ℕ) (m : Node) → m.live ≡ true → ((j ≡ key) × (leaf ≡ m)) ⊎ Stood j m → after m.spot.id ≡ Some j
    owned j m l (inl p) = subst (λ (x : Node). after x.spot.id ≡ Some j) p.1 (new_key ∙ ap Some (sym p.0))
    owned j m l (inr w) =
        let apart : int_eq leaf.spot.id m.spot.id ≡ false = int_eq-comm leaf.spot.id m.spot.id ∙ ap (λ (r : Spot). int_eq r.id leaf.spot.id) w.amends.spot ∙ unused j w.old w.stood_there (sym w.live ∙ l) in
        keys m.spot.id ∙ cond_false (int_eq leaf.spot.id m.spot.id) (Some key) (numbers m.spot.id) apart ∙ ap (λ (r : Spot). numbers r.id) w.amends.spot ∙ t.owned j w.old w.stood_there (sym w.live ∙ l)

    all_fit : (j : ℕ) (m : Node) → ((j ≡ key) × (leaf ≡ m)) ⊎ Stood j m → FitsSpot m.spot
    all_fit j m (inl p) = subst (λ (x : Node). FitsSpot x.spot) p.1 fits
    all_fit j m (inr w) = subst FitsSpot (sym w.amends.spot) (t.fits j w.old w.stood_there)

    leaf_open : IsOpenTo next root leaf.spot leaf.depth
    leaf_open k x h e = by_depth (less_or k (suc n.depth) (subst (λ d. k ≤ d) deep h))
      where
        by_depth : (k ≡ suc n.depth) ⊎ (suc k ≤ suc n.depth) → is_bare (next x) ≡ false
        by_depth (inl q) =
            let same : key ≡ x = some_is key x (sym (way_to_new leaf.spot root on_way side) ∙ ap (λ d. way next leaf.spot d root) (sym q) ∙ e) in
            ap is_bare (ap next (sym same) ∙ here) ∙ fresh
        by_depth (inr q) = open_kept look next grown_stays grown_bare root leaf.spot n.depth at on_way (λ k j h. clear k j) k x (omega arith) e

    way_passable : (j : ℕ) (m : Node) → m.live ≡ true → ((j ≡ key) × (leaf ≡ m)) ⊎ Stood j m → IsOpenTo next root m.spot m.depth
    way_passable j m l (inl p) = subst (λ (x : Node). IsOpenTo next root x.spot x.depth) p.1 leaf_open
    way_passable j m l (inr w) = moved next root w.old.spot m.spot w.old.depth m.depth w.amends.spot w.amends.depth
        (open_kept look next grown_stays grown_bare root w.old.spot w.old.depth j (t.placed j w.old w.stood_there) (t.passable j w.old w.stood_there (sym w.live ∙ l)))

    pub grown_tree : IsTree next root (size + 1) after
    grown_tree = record {
      rooted = λ r e. depth_stays look next grown_stays r 0 (t.rooted r e);
      placed = λ j m g. placed j m (stood_or_new j m g);
      nested = λ j c m s g e. nested j c m s e (stood_or_new j m g);
      shallow = λ j m g. shallow j m (stood_or_new j m g);
      numbered = λ j m g. numbered j m (stood_or_new j m g);
      owned = λ j m g l. owned j m l (stood_or_new j m g);
      fits = λ j m g. all_fit j m (stood_or_new j m g);
      passable = λ j m g l. way_passable j m l (stood_or_new j m g);
    }

    pub grown_rows : leaf.live ≡ true → Settles look next numbers after leaf.spot.id (Some (place leaf.spot))
    grown_rows l = record {
      here = ap (row_found next leaf.spot.id) new_key ∙ ap (row_of_node leaf.spot.id) here ∙ row_of_live leaf.spot.id leaf l refl;
      numbers_stay = λ q d. keys q ∙ cond_false (int_eq leaf.spot.id q) (Some key) (numbers q) (int_eq-comm leaf.spot.id q ∙ d);
      nodes_stay = λ q k d. by_key q k d (same_key k key) (same_key k at);
    }
      where
        by_key : (q : ℤ) (k : ℕ) → int_eq q leaf.spot.id ≡ false → (k ≡ key) ⊎ (k ≡ key → ⊥) → (k ≡ at) ⊎ (k ≡ at → ⊥) → row_of_node q (next k) ≡ row_of_node q (look k)
        by_key q k d (inl e) p = ap (row_of_node q) (ap next e ∙ here) ∙ row_of_another q leaf (int_eq-comm leaf.spot.id q ∙ d) ∙ sym (ap (row_of_node q) (ap look e ∙ vacant))
        by_key q k d (inr f) (inl e) =
            ap (row_of_node q) (ap next e ∙ there) ∙ row_of_alike q n (linked n left key) (linked_live n left key) (linked_amends n left key free).spot ∙ sym (ap (row_of_node q) (ap look e ∙ stood))
        by_key q k d (inr f) (inr g) = ap (row_of_node q) (others k f g)

-- the first node of a tree
module _ (look next : Nodes) (key : ℕ) (leaf : Node) (vacant : look key ≡ None) (here : next key ≡ Some leaf) (others : (j : ℕ) → (j ≡ key → ⊥) → next j ≡ look j)
    (size : ℕ) (numbers after : ℤ → Option ℕ) (t : IsTree look None size numbers) (bare : (s : Bool) → child leaf s ≡ None) (deep : leaf.depth ≡ 0) (fits : FitsSpot leaf.spot)
    (keys : (x : ℤ) → after x ≡ cond (int_eq leaf.spot.id x) (Some key) (numbers x)) (fresh : leaf.bare ≡ false) where
  -- a tree without a root has no nodes
  no_nodes : (j : ℕ) (m : Node) → look j ≡ Some m → ⊥
  no_nodes j m g = ended look m.spot m.depth j (t.placed j m g)

  alone : (j : ℕ) (m : Node) → next j ≡ Some m → (j ≡ key) × (leaf ≡ m)
  alone j m g = by_key (same_key j key)
    where
      by_key : (j ≡ key) ⊎ (j ≡ key → ⊥) → (j ≡ key) × (leaf ≡ m)
      by_key (inl e) = (e, some_is leaf m (sym here ∙ ap next (sym e) ∙ g))
      by_key (inr d) = absurd (no_nodes j m (sym (others j d) ∙ g))

  pub first_stays : AllStay look next
  first_stays j = by_node (look j) refl
    where
      by_node : (o : Option Node) → look j ≡ o → Stays o (next j)
      by_node None e = tt
      by_node (Some m) e = absurd (no_nodes j m e)

  first_key : after leaf.spot.id ≡ Some key
  first_key = keys leaf.spot.id ∙ cond_true (int_eq leaf.spot.id leaf.spot.id) (Some key) (numbers leaf.spot.id) (int_eq-itself leaf.spot.id)

  first_open : IsOpenTo next (Some key) leaf.spot leaf.depth
  first_open zero x h e = ap is_bare (ap next (sym (some_is key x e)) ∙ here) ∙ fresh
  first_open (suc k) x h e = absurd (omega (arith, deep))

  pub first_tree : IsTree next (Some key) (size + 1) after
  first_tree = record {
    rooted = λ r e. ap (λ k. node_depth (next k)) (sym (some_is key r e)) ∙ ap node_depth here ∙ ap Some deep;
    placed = λ j m g. let p = alone j m g in subst (λ (x : Node). way next x.spot x.depth (Some key) ≡ Some j) p.1 (ap (λ d. way next leaf.spot d (Some key)) deep ∙ ap Some (sym p.0));
    nested = λ j c m s g e. absurd (some_none c (sym (bare s) ∙ ap (λ (x : Node). child x s) (alone j m g).1 ∙ e));
    shallow = λ j m g. let e : m.depth ≡ leaf.depth = ap (λ (x : Node). x.depth) (sym (alone j m g).1) in omega (arith, deep);
    numbered = λ j m g. subst (λ (x : Node). is_some (after x.spot.id) ≡ true) (alone j m g).1 (ap is_some first_key);
    owned = λ j m g l. let p = alone j m g in subst (λ (x : Node). after x.spot.id ≡ Some j) p.1 (first_key ∙ ap Some (sym p.0));
    fits = λ j m g. subst (λ (x : Node). FitsSpot x.spot) (alone j m g).1 fits;
    passable = λ j m g l. subst (λ (x : Node). IsOpenTo next (Some key) x.spot x.depth) (alone j m g).1 first_open;
  }

  pub first_rows : leaf.live ≡ true → Settles look next numbers after leaf.spot.id (Some (place leaf.spot))
  first_rows l = record {
    here = ap (row_found next leaf.spot.id) first_key ∙ ap (row_of_node leaf.spot.id) here ∙ row_of_live leaf.spot.id leaf l refl;
    numbers_stay = λ q d. keys q ∙ cond_false (int_eq leaf.spot.id q) (Some key) (numbers q) (int_eq-comm leaf.spot.id q ∙ d);
    nodes_stay = λ q k d. by_key q k d (same_key k key);
  }
    where
      by_key : (q : ℤ) (k : ℕ) → int_eq q leaf.spot.id ≡ false → (k ≡ key) ⊎ (k ≡ key → ⊥) → row_of_node q (next k) ≡ row_of_node q (look k)
      by_key q k d (inl e) = ap (row_of_node q) (ap next e ∙ here) ∙ row_of_another q leaf (int_eq-comm leaf.spot.id q ∙ d) ∙ sym (ap (row_of_node q) (ap look e ∙ vacant))
      by_key q k d (inr f) = ap (row_of_node q) (others k f)

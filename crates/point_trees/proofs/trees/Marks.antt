-- What a mark of one node leaves of a tree.
use Rattle.std.specs.Prelude.{◌≡◌, ℕ, ℤ, suc, ◌<◌, Bool, true, false, Option, Some, is_some, refl, ◌⊎◌}
use Rattle.std.proofs.Common.{sym, ◌∙◌, ap, subst, inl, inr}
use Rattle.gx_base.specs.declared.calls.Spot.{Spot}
use Rattle.point_trees.specs.declared.nodes.Node.{Node}
use Rattle.point_trees.specs.Trees.{Nodes, child, way, is_bare, FitsSpot, IsTree, IsOpenTo}
use Rattle.point_trees.proofs.states.Basics.{same_key, some_is}
use Rattle.point_trees.proofs.trees.Ways.{Amends, amends_itself, Stays, stays_itself, AllStay, way_kept, depth_stays}
use Rattle.point_trees.proofs.trees.Openings.{BareStays, open_kept, moved}

module _ (look next : Nodes) (i : ℕ) (n : Node) (b v : Bool) (there : look i ≡ Some n) (here : next i ≡ Some (record n { live = b; bare = v })) (others : (j : ℕ) → (j ≡ i → ⊥) → next j ≡ look j) where
  pub marked_stays : AllStay look next
  marked_stays j = by_key (same_key j i)
    where
      by_key : (j ≡ i) ⊎ (j ≡ i → ⊥) → Stays (look j) (next j)
      by_key (inl e) =
          subst (λ k. Stays (look k) (next k)) (sym e) (subst (λ o. Stays o (next i)) (sym there) (subst (Stays (Some n)) (sym here)
          (record { spot = refl; axis = refl; depth = refl; children = λ left c e. e })))
      by_key (inr d) = subst (Stays (look j)) (sym (others j d)) (stays_itself (look j))

  -- each node was there before, with the same children
  pub record WasThere (j : ℕ) (m : Node) : Type 0 where
    pub old : Node
    pub stood : look j ≡ Some old
    pub amends : Amends old m
    pub children : (left : Bool) → child m left ≡ child old left
    pub live : ((j ≡ i) × (m.live ≡ b)) ⊎ ((j ≡ i → ⊥) × (m.live ≡ old.live))

  pub was_there : (j : ℕ) (m : Node) → next j ≡ Some m → WasThere j m
  was_there j m g = by_key (same_key j i)
    where
      by_key : (j ≡ i) ⊎ (j ≡ i → ⊥) → WasThere j m
      by_key (inl e) =
          let same : record n { live = b; bare = v } ≡ m = some_is (record n { live = b; bare = v }) m (sym here ∙ ap next (sym e) ∙ g) in
          subst (WasThere j) same (record { old = n; stood = ap look e ∙ there; amends = record { spot = refl; axis = refl; depth = refl; children = λ left c e. e }; children = λ left. refl; live = inl (e, refl) })
      by_key (inr d) = record { old = m; stood = sym (others j d) ∙ g; amends = amends_itself m; children = λ left. refl; live = inr (d, refl) }

  -- the tree is kept, where the numbers still lead to live nodes
  pub marked_tree : (root : Option ℕ) (size : ℕ) (numbers after : ℤ → Option ℕ) → IsTree look root size numbers
      → ((x : ℤ) → is_some (numbers x) ≡ true → is_some (after x) ≡ true)
      → ((j : ℕ) (m : Node) → next j ≡ Some m → m.live ≡ true → after m.spot.id ≡ Some j)
      → ((j : ℕ) (m : Node) → next j ≡ Some m → m.live ≡ true → IsOpenTo next root m.spot m.depth)
      → IsTree next root size after
  marked_tree root size numbers after t keep own ways = record {
    rooted = λ r e. depth_stays look next marked_stays r 0 (t.rooted r e);
    placed = λ j m g.
        let w : WasThere j m = was_there j m g in
        ap (λ s. way next s m.depth root) w.amends.spot ∙ ap (λ d. way next w.old.spot d root) w.amends.depth ∙ way_kept look next marked_stays w.old.spot w.old.depth root j (t.placed j w.old w.stood);
    nested = λ j c m left g e.
        let w : WasThere j m = was_there j m g in
        depth_stays look next marked_stays c (suc w.old.depth) (t.nested j c w.old left w.stood (sym (w.children left) ∙ e)) ∙ ap (λ d. Some (suc d)) (sym w.amends.depth);
    shallow = λ j m g. let w : WasThere j m = was_there j m g in subst (λ d. d < size) (sym w.amends.depth) (t.shallow j w.old w.stood);
    numbered = λ j m g. let w : WasThere j m = was_there j m g in keep m.spot.id (ap (λ (s : Spot). is_some (numbers s.id)) w.amends.spot ∙ t.numbered j w.old w.stood);
    owned = own;
    fits = λ j m g. let w : WasThere j m = was_there j m g in subst FitsSpot (sym w.amends.spot) (t.fits j w.old w.stood);
    passable = ways;
  }

  -- a mark that makes no node bare leaves ways open, and that of a node that it makes live must have been
  pub marked_bare : (v ≡ false) ⊎ (v ≡ n.bare) → BareStays look next
  marked_bare c j f = by_key (same_key j i)
    where
      by_mark : n.bare ≡ false → (v ≡ false) ⊎ (v ≡ n.bare) → v ≡ false
      by_mark e (inl p) = p
      by_mark e (inr p) = p ∙ e

      by_key : (j ≡ i) ⊎ (j ≡ i → ⊥) → is_bare (next j) ≡ false
      by_key (inl e) = ap is_bare (ap next e ∙ here) ∙ by_mark (sym (ap is_bare (ap look e ∙ there)) ∙ f) c
      by_key (inr d) = ap is_bare (others j d) ∙ f

  pub marked_open : (root : Option ℕ) (size : ℕ) (numbers : ℤ → Option ℕ) → IsTree look root size numbers → (v ≡ false) ⊎ (v ≡ n.bare) → (b ≡ true → IsOpenTo look root n.spot n.depth)
      → (j : ℕ) (m : Node) → next j ≡ Some m → m.live ≡ true → IsOpenTo next root m.spot m.depth
  marked_open root size numbers t c clear j m g l =
      let w : WasThere j m = was_there j m g in
      moved next root w.old.spot m.spot w.old.depth m.depth w.amends.spot w.amends.depth
      (open_kept look next marked_stays (marked_bare c) root w.old.spot w.old.depth j (t.placed j w.old w.stood) (by_mark w w.live))
    where
      by_mark : (w : WasThere j m) → ((j ≡ i) × (m.live ≡ b)) ⊎ ((j ≡ i → ⊥) × (m.live ≡ w.old.live)) → IsOpenTo look root w.old.spot w.old.depth
      by_mark w (inl p) =
          let same : n ≡ w.old = some_is n w.old (sym there ∙ ap look (sym p.0) ∙ w.stood) in
          subst (λ (x : Node). IsOpenTo look root x.spot x.depth) same (clear (sym p.1 ∙ l))
      by_mark w (inr p) = t.passable j w.old w.stood (sym p.1 ∙ l)

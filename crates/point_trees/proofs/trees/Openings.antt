-- Ways on which no node is bare.
use Rattle.std.specs.Prelude.{◌≡◌, ℕ, zero, suc, ◌≤◌, ℤ, Bool, true, false, Option, Some, None, is_some, refl, ◌⊎◌}
use Rattle.std.proofs.Common.{sym, ◌∙◌, ap, subst, arith, inl, inr}
use Rattle.gx_base.specs.declared.calls.Spot.{Spot}
use Rattle.point_trees.specs.declared.nodes.Node.{Node}
use Rattle.point_trees.specs.Trees.{Nodes, is_left, child, child_of, way, node_depth, is_bare, all_bare, IsTree, IsOpenTo}
use Rattle.point_trees.proofs.states.Basics.{some_none, some_is, not_both}
use Rattle.point_trees.proofs.trees.Ways.{AllStay, ended, way_further, way_kept}

-- a way that comes somewhere came somewhere before
pub prefix : (look : Nodes) (r : Spot) (k d : ℕ) (from : Option ℕ) (j : ℕ) → k ≤ d → way look r d from ≡ Some j → (x : ℕ) × (way look r k from ≡ Some x)
prefix look r zero d None j h w = absurd (ended look r d j w)
prefix look r zero d (Some i) j h w = (i, refl)
prefix look r (suc k) zero from j h w = absurd (omega arith)
prefix look r (suc k) (suc d) None j h w = absurd (some_none j w)
prefix look r (suc k) (suc d) (Some i) j h w = prefix look r k d (child_of (look i) r) j (omega arith) w

-- what isn't bare stays so
abbrev pub BareStays : Nodes → Nodes → Type 0
BareStays look next = (j : ℕ) → is_bare (look j) ≡ false → is_bare (next j) ≡ false

pub open_kept : (look next : Nodes) → AllStay look next → BareStays look next → (root : Option ℕ) (r : Spot) (d i : ℕ) → way look r d root ≡ Some i → IsOpenTo look root r d → IsOpenTo next root r d
open_kept look next h b root r d i w o k j m e =
    let x = prefix look r k d root i m w in
    let same : x.0 ≡ j = some_is x.0 j (sym (way_kept look next h r k root x.0 x.1) ∙ e) in
    subst (λ y. is_bare (next y) ≡ false) same (b x.0 (o k x.0 m x.1))

pub moved : (look : Nodes) (root : Option ℕ) (r s : Spot) (d e : ℕ) → s ≡ r → e ≡ d → IsOpenTo look root r d → IsOpenTo look root s e
moved look root r s d e p q o k j h w = o k j (subst (λ x. k ≤ x) q h) (ap (λ x. way look x k root) (sym p) ∙ w)

pub less_or : (k d : ℕ) → k ≤ d → (k ≡ d) ⊎ (suc k ≤ d)
less_or zero zero h = inl refl
less_or zero (suc d) h = inr (omega arith)
less_or (suc k) zero h = absurd (omega arith)
less_or (suc k) (suc d) h = further (less_or k d (omega arith))
  where
    further : (k ≡ d) ⊎ (suc k ≤ d) → (suc k ≡ suc d) ⊎ (suc (suc k) ≤ suc d)
    further (inl e) = inl (ap suc e)
    further (inr e) = inr (omega arith)

there_of : (o : Option Node) (d : ℕ) → node_depth o ≡ Some d → is_some o ≡ true
there_of None d e = absurd (some_none d e)
there_of (Some n) d e = refl

module _ (look : Nodes) (root : Option ℕ) (size : ℕ) (numbers : ℤ → Option ℕ) (t : IsTree look root size numbers) where
  -- a way in the tree comes to a node
  pub way_there : (r : Spot) (k : ℕ) (from : Option ℕ) (j : ℕ) → ((i : ℕ) → from ≡ Some i → is_some (look i) ≡ true) → way look r k from ≡ Some j → is_some (look j) ≡ true
  way_there r zero from j h e = h j e
  way_there r (suc k) None j h e = absurd (some_none j e)
  way_there r (suc k) (Some i) j h e = way_there r k (child_of (look i) r) j (λ c f. by_node (look i) refl c f) e
    where
      by_node : (o : Option Node) → look i ≡ o → (c : ℕ) → child_of o r ≡ Some c → is_some (look c) ≡ true
      by_node None g c f = absurd (some_none c f)
      by_node (Some n) g c f = there_of (look c) (suc n.depth) (t.nested i c n (is_left n r) g f)

  pub on_way_there : (r : Spot) (k j : ℕ) → way look r k root ≡ Some j → is_some (look j) ≡ true
  on_way_there r k j e = way_there r k root j (λ i f. there_of (look i) 0 (t.rooted i f)) e

  -- no live node's way comes to a dead one whose children are bare
  pub nobody_under : (i : ℕ) (n : Node) → look i ≡ Some n → n.live ≡ false → ((left : Bool) → all_bare look (child n left) ≡ true) → (j : ℕ) (m : Node) → look j ≡ Some m → m.live ≡ true
      → (k : ℕ) → k ≤ m.depth → way look m.spot k root ≡ Some i → ⊥
  nobody_under i n g dead sides j m h live k le e = by_less (less_or k m.depth le)
    where
      at_end : k ≡ m.depth → ⊥
      at_end q =
          let same : i ≡ j = some_is i j (sym e ∙ ap (λ d. way look m.spot d root) q ∙ t.placed j m h) in
          not_both n.live (ap (λ (x : Node). x.live) (some_is n m (sym g ∙ ap look same ∙ h)) ∙ live) dead

      before : suc k ≤ m.depth → ⊥
      before q =
          let x = prefix look m.spot (suc k) m.depth root j q (t.placed j m h) in
          let side : child n (is_left n m.spot) ≡ Some x.0 = sym (way_further look m.spot k root i e ∙ ap (λ o. child_of o m.spot) g) ∙ x.1 in
          not_both (is_bare (look x.0)) (sym (ap (all_bare look) side) ∙ sides (is_left n m.spot)) (t.passable j m h live (suc k) x.0 q x.1)

      by_less : (k ≡ m.depth) ⊎ (suc k ≤ m.depth) → ⊥
      by_less (inl q) = at_end q
      by_less (inr q) = before q

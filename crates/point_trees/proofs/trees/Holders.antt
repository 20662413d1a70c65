-- Which spots have nodes.
use Rattle.std.specs.Prelude.{◌≡◌, ℕ, zero, suc, Bool, true, false, ◌&&◌, ◌||◌, Option, Some, None, List, [], ◌∷◌, slice_index_or, refl, ◌⊎◌}
use Rattle.std.proofs.Common.{◌∙◌, ap, inl, inr}
use Rattle.std.specs.Ordering.{int_eq}
use Rattle.gx_base.specs.declared.calls.Spot.{Spot}
use Rattle.point_trees.specs.declared.nodes.Node.{Node}
use Rattle.point_trees.specs.TreeStates.{same_spot, holds_spot}
use Rattle.point_trees.proofs.states.Basics.{same_int, int_eq-itself, and_parts, or_parts, some_none, some_is}

same_spot-itself : (r : Spot) → same_spot r r ≡ true
same_spot-itself r = λ i. int_eq-itself r.id i && int_eq-itself r.x i && int_eq-itself r.y i && int_eq-itself r.z i

same_spot-is : (p q : Spot) → same_spot p q ≡ true → p ≡ q
same_spot-is p q e =
    let a : ((int_eq p.id q.id && int_eq p.x q.x && int_eq p.y q.y) ≡ true) × (int_eq p.z q.z ≡ true) = and_parts _ _ e in
    let b : ((int_eq p.id q.id && int_eq p.x q.x) ≡ true) × (int_eq p.y q.y ≡ true) = and_parts _ _ a.0 in
    let d : (int_eq p.id q.id ≡ true) × (int_eq p.x q.x ≡ true) = and_parts _ _ b.0 in
    λ i. record { id = same_int p.id q.id d.0 i; x = same_int p.x q.x d.1 i; y = same_int p.y q.y b.1 i; z = same_int p.z q.z a.1 i }

-- where a spot has a node, the slots hold it
pub holds-at : (slots : List (Option Node)) (i : ℕ) (n : Node) (r : Spot) → slice_index_or slots i None ≡ Some n → n.spot ≡ r → holds_spot slots r ≡ true
holds-at [] i n r g e = absurd (some_none n g)
holds-at (None ∷ slots) zero n r g e = absurd (some_none n g)
holds-at (None ∷ slots) (suc i) n r g e = holds-at slots i n r g e
holds-at (Some m ∷ slots) zero n r g e = ap (λ b. b || holds_spot slots r) (ap (λ s. same_spot s r) (ap (λ (x : Node). x.spot) (some_is m n g) ∙ e) ∙ same_spot-itself r)
holds-at (Some m ∷ slots) (suc i) n r g e = or_true (same_spot m.spot r) (holds_spot slots r) (holds-at slots i n r g e)
  where
    or_true : (b c : Bool) → c ≡ true → (b || c) ≡ true
    or_true true c e = refl
    or_true false c e = e

-- and where they hold it, there is one
pub record Holds (slots : List (Option Node)) (r : Spot) : Type 0 where
  pub key : ℕ
  pub node : Node
  pub there : slice_index_or slots key None ≡ Some node
  pub same : node.spot ≡ r

by_place : (n : Node) (slots : List (Option Node)) (r : Spot) → (holds_spot slots r ≡ true → Holds slots r) → (same_spot n.spot r ≡ true) ⊎ (holds_spot slots r ≡ true) → Holds (Some n ∷ slots) r
by_place n slots r f (inl t) = record { key = zero; node = n; there = refl; same = same_spot-is n.spot r t }
by_place n slots r f (inr t) = let h : Holds slots r = f t in record { key = suc h.key; node = h.node; there = h.there; same = h.same }

pub holds-where : (slots : List (Option Node)) (r : Spot) → holds_spot slots r ≡ true → Holds slots r
holds-where [] r e = absurd (cc)
holds-where (None ∷ slots) r e = let h : Holds slots r = holds-where slots r e in record { key = suc h.key; node = h.node; there = h.there; same = h.same }
holds-where (Some n ∷ slots) r e = by_place n slots r (holds-where slots r) (or_parts (same_spot n.spot r) (holds_spot slots r) e)

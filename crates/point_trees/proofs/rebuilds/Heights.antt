-- How deep a tree is that is made by halves.
use Rattle.std.specs.Prelude.{◌≡◌, ℕ, suc, ◌+◌, ◌*◌, ◌/◌, ◌^◌, ◌≤◌, Option, Some, None, List, ◌∷◌, ◌++◌, length, is_some, true, false, count_by, slice_index_or, Result, Ok, Err, OnOk, ◌⊎◌}
use Rattle.std.proofs.Common.{sym, ◌∙◌, ap, arith, inl, inr, length-append}
use Rattle.std.proofs.Math.Nat.{pow-suc}
use Rattle.std.specs.List.Sorted.{IsPermutation}
use Rattle.std.proofs.lemmas.List.Sorted.{length_permutation}
use Rattle.slab.specs.Slab.{slab_len}
use Rattle.gx_base.specs.declared.calls.Spot.{Spot}
use Rattle.point_trees.specs.declared.nodes.Axis.{Axis}
use Rattle.point_trees.specs.declared.nodes.Node.{Node}
use Rattle.point_trees.specs.declared.nodes.Seat.{Seat}
use Rattle.point_trees.specs.declared.nodes.Seat.TheVariants.{Free}
use Rattle.point_trees.specs.declared.tree.Tree.{Tree}
use Rattle.point_trees.specs.Trees.{node_depth, depth_below, seat_depth}
use Rattle.point_trees.specs.TreeStates.{node_at, HangsBelow, IsBlank}
use Rattle.point_trees.specs.Rebuilding.{IsLow, IsBalancedTree}
use Rattle.point_trees.proofs.states.Basics.{some_none, some_is}

below_of : (o : Option Node) (d : ℕ) → node_depth o ≡ Some d → depth_below o ≡ suc d
below_of None d e = absurd (some_none d e)
below_of (Some n) d e = ap suc (some_is n.depth d e)

twice : (e count half : ℕ) → 2 ^ e ≤ half → half + half ≤ count → 2 ^ suc e ≤ count
twice e count half h k = let p : 2 ^ suc e ≡ 2 ^ e * 2 = pow-suc 2 e in omega arith

pub halves_length : (spots front back : List Spot) (middle : Spot) → IsPermutation spots (front ++ middle ∷ back) → length spots ≡ length front + suc (length back)
halves_length spots front back middle p = sym (length_permutation spots (front ++ middle ∷ back) p) ∙ length-append front (middle ∷ back)

pub front_half : (count front : ℕ) → front ≡ count / 2 → front + front ≤ count
front_half count front e = omega arith

pub back_half : (count front back : ℕ) → front ≡ count / 2 → count ≡ front + suc back → back + back ≤ count
back_half count front back e f = omega arith

one_at_least : (count front back : ℕ) → count ≡ front + suc back → 2 ^ 0 ≤ count
one_at_least count front back e = omega arith

-- a node, and two halves below it
module _ (a b c d : Tree) (seat : Seat) (spot : Spot) (axis : Axis) (key front back count : ℕ) (n : HangsBelow a b seat spot axis key) (f : IsLow b c (seat_depth (node_at b) (Free key true)) front)
    (g : IsLow c d (seat_depth (node_at c) (Free key false)) back) (all : count ≡ front + suc back) (low : front + front ≤ count) (high : back + back ≤ count) where
  abbrev depth : ℕ
  depth = seat_depth (node_at a) seat

  front_depth : depth_below (node_at b key) ≡ suc depth
  front_depth = below_of (node_at b key) depth n.deep

  back_depth : depth_below (node_at c key) ≡ suc depth
  back_depth = below_of (node_at c key) depth (f.stay key depth n.deep)

  abbrev IsHere : ℕ → ℕ → Type 0
  IsHere j e = (node_depth (node_at a j) ≡ Some e) ⊎ ((h : ℕ) × (e ≡ depth + h) × (2 ^ h ≤ count))

  in_half : (j e under half : ℕ) → under ≡ suc depth → half + half ≤ count → ((h : ℕ) × (e ≡ under + h) × (2 ^ h ≤ half)) → IsHere j e
  in_half j e under half u small x = inr (suc x.0, (let p : e ≡ under + x.0 = x.1 in omega arith), twice x.0 count half x.2 small)

  in_b : (j e : ℕ) → node_depth (node_at b j) ≡ Some e → IsHere j e
  in_b j e k = by_key (n.other_depths j e k)
    where
      by_key : (j ≡ key) ⊎ (node_depth (node_at a j) ≡ Some e) → IsHere j e
      by_key (inl s) = inr (0, (let same : e ≡ depth = some_is e depth (sym k ∙ ap (λ i. node_depth (node_at b i)) s ∙ n.deep) in omega arith), one_at_least count front back all)
      by_key (inr h) = inl h

  in_c : (j e : ℕ) → node_depth (node_at c j) ≡ Some e → IsHere j e
  in_c j e k = by_fresh (f.fresh j e k)
    where
      by_fresh : (node_depth (node_at b j) ≡ Some e) ⊎ ((h : ℕ) × (e ≡ depth_below (node_at b key) + h) × (2 ^ h ≤ front)) → IsHere j e
      by_fresh (inl h) = in_b j e h
      by_fresh (inr x) = in_half j e (depth_below (node_at b key)) front front_depth low x

  in_d : (j e : ℕ) → node_depth (node_at d j) ≡ Some e → IsHere j e
  in_d j e k = by_fresh (g.fresh j e k)
    where
      by_fresh : (node_depth (node_at c j) ≡ Some e) ⊎ ((h : ℕ) × (e ≡ depth_below (node_at c key) + h) × (2 ^ h ≤ back)) → IsHere j e
      by_fresh (inl h) = in_c j e h
      by_fresh (inr x) = in_half j e (depth_below (node_at c key)) back back_depth high x

  pub low_parts : IsLow a d (seat_depth (node_at a) seat) count
  low_parts = record {
    fresh = in_d;
    stay = λ j e k. g.stay j e (f.stay j e (n.depths_stay j e k));
    size = let x = n.size in let y = f.size in let z = g.size in omega arith;
  }

pub low_parts_ok : {T E : Type 0} (result : Result T E) (a b c d : Tree) (seat : Seat) (spot : Spot) (axis : Axis) (key front back count : ℕ) → HangsBelow a b seat spot axis key → IsLow b c (seat_depth (node_at b) (Free key true)) front
    → OnOk result (IsLow c d (seat_depth (node_at c) (Free key false)) back) → count ≡ front + suc back → front + front ≤ count → back + back ≤ count → OnOk result (IsLow a d (seat_depth (node_at a) seat) count)
low_parts_ok (Ok x) a b c d seat spot axis key front back count n f g all low high = low_parts a b c d seat spot axis key front back count n f g all low high
low_parts_ok (Err x) a b c d seat spot axis key front back count n f g all low high = tt

-- a tree that is made by halves, out of nothing
pub blank_balanced : (blank new : Tree) (count : ℕ) → IsBlank blank → IsLow blank new 0 count → IsBalancedTree new
blank_balanced blank new count b l j d e = by_fresh (l.fresh j d e)
  where
    empty : slab_len blank.nodes ≡ 0
    empty = ap (count_by (is_some {T = Node})) b.slots

    by_fresh : (node_depth (node_at blank j) ≡ Some d) ⊎ ((h : ℕ) × (d ≡ 0 + h) × (2 ^ h ≤ count)) → 2 ^ d ≤ slab_len new.nodes
    by_fresh (inl h) = absurd (some_none d (sym (ap (λ slots. node_depth (slice_index_or slots j None)) b.slots) ∙ h))
    by_fresh (inr x) = let same : d ≡ x.0 = (let p : d ≡ 0 + x.0 = x.1 in omega arith) in let p : 2 ^ d ≡ 2 ^ x.0 = ap (λ k. 2 ^ k) same in let q : 2 ^ x.0 ≤ count = x.2 in let s : slab_len new.nodes ≡ slab_len blank.nodes + count = l.size in omega (arith, empty)

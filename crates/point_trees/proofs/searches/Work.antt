-- How much a search has still to do: each step leaves less.
use Rattle.std.specs.Prelude.{◌≡◌, ℕ, zero, suc, ◌<◌, ◌≤◌, ◌+◌, ◌-◌, ℤ, Bool, true, false, not, if◌then◌else◌, Option, Some, None, List, [], ◌∷◌, ◌++◌, refl}
use Rattle.std.proofs.Common.{sym, ◌∙◌, ap, subst, arith}
use Rattle.gx_base.specs.declared.calls.Spot.{Spot}
use Rattle.point_trees.specs.declared.nodes.Node.{Node}
use Rattle.point_trees.specs.declared.search.Pending.{Pending}
use Rattle.point_trees.specs.Trees.{Nodes, is_left, child, node_depth, IsTree}
use Rattle.point_trees.specs.Searches.{to_plane, pending_at, is_past, far_side, sides_of}
use Rattle.point_trees.proofs.states.Basics.{some_none, some_is}
use Rattle.point_trees.proofs.trees.Seats.{depth_or_zero}

-- as many nodes as a tree of this height can have
abbrev pub weight : ℕ → ℕ
weight zero = 1
weight (suc d) = weight d + weight d + 1

abbrev pub work : Nodes → ℕ → List Pending → ℕ
work look size [] = 0
work look size (next ∷ waiting) = weight (size - depth_or_zero (look next.from)) + work look size waiting

work-append : (look : Nodes) (size : ℕ) (front back : List Pending) → work look size (front ++ back) ≡ work look size front + work look size back
work-append look size [] back = omega arith
work-append look size (next ∷ front) back = let h : work look size (front ++ back) ≡ work look size front + work look size back = work-append look size front back in omega arith

weight-some : (d : ℕ) → 1 ≤ weight d
weight-some zero = omega arith
weight-some (suc d) = let h : 1 ≤ weight d = weight-some d in omega arith

-- one part less
pub less_left : (look : Nodes) (size : ℕ) (rest : List Pending) (next : Pending) → work look size rest < work look size (rest ++ next ∷ [])
less_left look size rest next =
    let a : work look size (rest ++ next ∷ []) ≡ work look size rest + work look size (next ∷ []) = work-append look size rest (next ∷ []) in
    let b : 1 ≤ weight (size - depth_or_zero (look next.from)) = weight-some (size - depth_or_zero (look next.from)) in
    omega arith

depth_is : (o : Option Node) (d : ℕ) → node_depth o ≡ Some d → depth_or_zero o ≡ d
depth_is None d e = absurd (some_none d e)
depth_is (Some n) d e = some_is n.depth d e

side_work : (look : Nodes) (size d : ℕ) (side : Option ℕ) (reach : ℕ) → ((c : ℕ) → side ≡ Some c → node_depth (look c) ≡ Some d) → work look size (pending_at side reach) ≤ weight (size - d)
side_work look size d None reach h = omega arith
side_work look size d (Some c) reach h = let e : weight (size - depth_or_zero (look c)) ≡ weight (size - d) = ap (λ x. weight (size - x)) (depth_is (look c) d (h c refl)) in omega arith

height_by : (size d h : ℕ) → d < size → h ≡ size - suc d → size - d ≡ suc h
height_by size d h b e = omega arith

no_more : (look : Nodes) (size most : ℕ) (b : Bool) (xs : List Pending) → work look size xs ≤ most → work look size (if b then [] else xs) ≤ most
no_more look size most true xs h = omega arith
no_more look size most false xs h = h

-- the sides of a node are less than the node
pub sides_less : (look : Nodes) (root : Option ℕ) (size : ℕ) (numbers : ℤ → Option ℕ) (q : Spot) (best : Option Spot) (rest : List Pending) (next : Pending) (n : Node) → IsTree look root size numbers → look next.from ≡ Some n
    → work look size (rest ++ sides_of q best n next.reach) < work look size (rest ++ next ∷ [])
sides_less look root size numbers q best rest next n t g =
    let a : work look size (rest ++ next ∷ []) ≡ work look size rest + work look size (next ∷ []) = work-append look size rest (next ∷ []) in
    let b : work look size (rest ++ sides_of q best n next.reach) ≡ work look size rest + work look size (sides_of q best n next.reach) = work-append look size rest (sides_of q best n next.reach) in
    let s : work look size (sides_of q best n next.reach) ≡ work look size (far_side q best n) + work look size (pending_at (child n (is_left n q)) next.reach) =
    work-append look size (far_side q best n) (pending_at (child n (is_left n q)) next.reach) in
    let l : work look size (far_side q best n) ≤ weight (size - suc n.depth) =
    no_more look size (weight (size - suc n.depth)) (is_past q best (to_plane q n)) (pending_at (child n (not (is_left n q))) (to_plane q n))
    (side_work look size (suc n.depth) (child n (not (is_left n q))) (to_plane q n) (λ c e. t.nested next.from c n (not (is_left n q)) g e)) in
    let r : work look size (pending_at (child n (is_left n q)) next.reach) ≤ weight (size - suc n.depth) = side_work look size (suc n.depth) (child n (is_left n q)) next.reach (λ c e. t.nested next.from c n (is_left n q) g e) in
    let d : depth_or_zero (look next.from) ≡ n.depth = ap depth_or_zero g in
    let w : weight (size - depth_or_zero (look next.from)) ≡ weight (size - suc n.depth) + weight (size - suc n.depth) + 1 =
    ap (λ x. weight (size - x)) d ∙ ap weight (height_by size n.depth (size - suc n.depth) (t.shallow next.from n g) refl) in
    omega arith

-- the same, from what the code computes
pub less_from : (look : Nodes) (size : ℕ) (waiting rest : List Pending) (next : Pending) → waiting ≡ rest ++ next ∷ [] → work look size rest < work look size waiting
less_from look size waiting rest next e = subst (λ w. work look size rest < work look size w) (sym e) (less_left look size rest next)

pub sides_from : (look : Nodes) (root : Option ℕ) (size : ℕ) (numbers : ℤ → Option ℕ) (q : Spot) (best : Option Spot) (waiting rest after : List Pending) (next : Pending) (n : Node) → IsTree look root size numbers
    → waiting ≡ rest ++ next ∷ [] → look next.from ≡ Some n → after ≡ rest ++ sides_of q best n next.reach → work look size after < work look size waiting
sides_from look root size numbers q best waiting rest after next n t e g a =
    subst (λ w. work look size after < work look size w) (sym e) (subst (λ w. work look size w < work look size (rest ++ next ∷ [])) (sym a) (sides_less look root size numbers q best rest next n t g))

-- Ways in a tree, and what is left of them where nodes are amended.
use Rattle.std.specs.Prelude.{◌≡◌, ℕ, zero, suc, ◌≤◌, Bool, Option, Some, None, refl}
use Rattle.std.proofs.Common.{sym, ◌∙◌, ap, subst, arith}
use Rattle.gx_base.specs.declared.calls.Spot.{Spot}
use Rattle.point_trees.specs.declared.nodes.Node.{Node}
use Rattle.point_trees.specs.declared.nodes.Axis.{Axis}
use Rattle.point_trees.specs.Trees.{Nodes, is_left, child, child_of, way, node_depth}
use Rattle.point_trees.proofs.states.Basics.{some_none}

-- a way that has ended comes nowhere
pub ended : (look : Nodes) (r : Spot) (k j : ℕ) → way look r k None ≡ Some j → ⊥
ended look r zero j e = some_none j e
ended look r (suc k) j e = some_none j e

-- one more step
pub way_further : (look : Nodes) (r : Spot) (k : ℕ) (from : Option ℕ) (i : ℕ) → way look r k from ≡ Some i → way look r (suc k) from ≡ child_of (look i) r
way_further look r zero None i w = absurd (some_none i w)
way_further look r zero (Some h) i w = ap (λ o. way look r 1 o) w
way_further look r (suc k) None i w = absurd (some_none i w)
way_further look r (suc k) (Some h) i w = way_further look r k (child_of (look h) r) i w

-- a way that ended before comes nowhere
pub way_over : (look : Nodes) (r : Spot) (k d : ℕ) (from : Option ℕ) (j : ℕ) → way look r k from ≡ None → k ≤ d → way look r d from ≡ Some j → ⊥
way_over look r zero d from j e h w = ended look r d j (subst (λ o. way look r d o ≡ Some j) e w)
way_over look r (suc k) zero from j e h w = absurd (omega arith)
way_over look r (suc k) (suc d) None j e h w = some_none j w
way_over look r (suc k) (suc d) (Some i) j e h w = way_over look r k d (child_of (look i) r) j e (omega arith) w

-- a node that stands in the place of another: its spot is the same, and ways go on
pub record Amends (n m : Node) : Type 0 where
  pub spot : m.spot ≡ n.spot
  pub axis : m.axis ≡ n.axis
  pub depth : m.depth ≡ n.depth
  pub children : (left : Bool) (c : ℕ) → child n left ≡ Some c → child m left ≡ Some c

-- what stands at a key stays, or is amended; where nothing stood there may be something now
abbrev pub Stays : Option Node → Option Node → Type 0
Stays None p = Unit {0}
Stays (Some n) None = ⊥
Stays (Some n) (Some m) = Amends n m

pub amends_itself : (n : Node) → Amends n n
amends_itself n = record { spot = refl; axis = refl; depth = refl; children = λ left c e. e }

pub stays_itself : (o : Option Node) → Stays o o
stays_itself None = tt
stays_itself (Some n) = amends_itself n

abbrev pub AllStay : Nodes → Nodes → Type 0
AllStay look next = (key : ℕ) → Stays (look key) (next key)

pub side_same : (n m : Node) (r : Spot) → Amends n m → is_left m r ≡ is_left n r
side_same n m r a = λ i. side_by (a.axis i) (a.spot i)
  where
    side_by : Axis → Spot → Bool
    side_by axis spot = is_left (record n { axis = axis; spot = spot }) r

child_stays : (o p : Option Node) (r : Spot) (c : ℕ) → Stays o p → child_of o r ≡ Some c → child_of p r ≡ Some c
child_stays None p r c s e = absurd (some_none c e)
child_stays (Some n) None r c s e = absurd s
child_stays (Some n) (Some m) r c s e = ap (child m) (side_same n m r s) ∙ s.children (is_left n r) c e

way_kept_by : (look next : Nodes) (r : Spot) (k i j : ℕ) (c : Option ℕ) → AllStay look next → child_of (look i) r ≡ c
    → ((from : Option ℕ) → way look r k from ≡ Some j → way next r k from ≡ Some j)
    → way look r k c ≡ Some j → way next r k (child_of (next i) r) ≡ Some j
way_kept_by look next r k i j None h e f w = absurd (ended look r k j w)
way_kept_by look next r k i j (Some c) h e f w = subst (λ x. way next r k x ≡ Some j) (sym (child_stays (look i) (next i) r c (h i) e)) (f (Some c) w)

pub way_kept : (look next : Nodes) → AllStay look next → (r : Spot) (k : ℕ) (from : Option ℕ) (j : ℕ) → way look r k from ≡ Some j → way next r k from ≡ Some j
way_kept look next h r zero from j w = w
way_kept look next h r (suc k) None j w = absurd (some_none j w)
way_kept look next h r (suc k) (Some i) j w = way_kept_by look next r k i j (child_of (look i) r) h refl (λ from. way_kept look next h r k from j) w

-- a node that stays, and what stands there now
pub there_still : (look next : Nodes) → AllStay look next → (key : ℕ) (n : Node) → look key ≡ Some n → (m : Node) × (next key ≡ Some m) × Amends n m
there_still look next h key n g = still_by (next key) refl (subst (λ o. Stays o (next key)) g (h key))
  where
    still_by : (p : Option Node) → next key ≡ p → Stays (Some n) p → (m : Node) × (next key ≡ Some m) × Amends n m
    still_by None e s = absurd s
    still_by (Some m) e s = (m, e, s)

pub depth_stays : (look next : Nodes) → AllStay look next → (key d : ℕ) → node_depth (look key) ≡ Some d → node_depth (next key) ≡ Some d
depth_stays look next h key d e = depth_by (look key) refl e
  where
    depth_by : (o : Option Node) → look key ≡ o → node_depth o ≡ Some d → node_depth (next key) ≡ Some d
    depth_by None g e = absurd (some_none d e)
    depth_by (Some n) g e = let m : (m : Node) × (next key ≡ Some m) × Amends n m = there_still look next h key n g in ap node_depth m.1 ∙ ap Some m.2.depth ∙ e

-- A body takes out no point, or two that are each other's nearest.
use Rattle.std.proofs.Common.{◌≡◌, ℕ, zero, suc, ◌+◌, ℤ, pos, negsuc, Bool, true, false, if◌then◌else◌, Option, Some, None, List, [], ◌∷◌, refl, sym, ap, subst, ◌∙◌}
use Rattle.std.specs.Prelude.{◌+ℤ◌, int_le}
use Rattle.std.specs.Ordering.{int_eq}
use Rattle.gx_base.specs.declared.calls.Reply.{Reply}
use Rattle.gx_base.specs.declared.calls.Spot.{Spot}
use Rattle.gx_base.specs.declared.items.Item.{Item}
use Rattle.gx_base.specs.declared.kinds.Kind.TheVariants.{Points}
use Rattle.gx_base.specs.Kinds.{kind_number}
use Rattle.gx_base.specs.Meanings.{number_reply}
use Rattle.gx_base.specs.Plans.{Plan, Push, Done}
use Rattle.gx_base.specs.PointKind as points
use Rattle.gx_base.specs.PointKind.{spot_of, spot_at, nearest_reply}
use Rattle.gx_base.specs.Replays.{put}
use Rattle.gx_base.specs.SerialIterations.{body}
use Rattle.gx_base.specs.States.{State, with_row}
use Rattle.gx_base.specs.Steps.{next_state, reply_to}
use Rattle.gx_base.proofs.CallerLemmas.{same_int}
use Rattle.kind_tables.proofs.CallerLemmas.{int_eq-comm}
use Rattle.kd_points.specs.NearestPoints.{IsOther, IsNearest, nearest-is, spot_at-with}
use Rattle.clustering.specs.declared.stages.Merge.{Merge}
use Rattle.clustering.specs.PointCalls.{points_room, nearest, remove, at, read}
use Rattle.clustering.specs.Chain.{chase, with_nearest, going_to, merging_both, weighing, merging, add_merged, merge_of, with_place, chain_body, chain_plan, is_of_id}
use Rattle.cluster_laws.specs.MutualPairs.{AreMutual, AreNoneOrMutual, taken_out}
use Rattle.cluster_laws.proofs.Calls.{ArePoints, next_nearest, reply_nearest, next_at, reply_at, own_spot, remove_reply, remove_next}

abbrev Good : State → Plan → (ℕ → State) → Type 0
Good s plan states = AreNoneOrMutual s (taken_out (body plan states).outcome.steps)

-- ---- two points are taken out

-- the list that a remove begins
abbrev with_taken : Reply → Spot → List Spot → List Spot
with_taken reply u rest = if int_eq reply.p (pos 1) then u ∷ rest else rest

both_taken : (s : State) (first second : Reply) (u v : Spot) → first ≡ number_reply (pos 1) → second ≡ number_reply (pos 1) → AreMutual s u v
    → AreNoneOrMutual s (with_taken first u (with_taken second v []))
both_taken s first second u v e f pair = rw (e, f) pair

-- the row of another point is still there
pub still_there : (s : State) (u v : Spot) → int_eq v.id u.id ≡ false → spot_at s v.id ≡ Some v → spot_at (with_row s (0, u.id) None) v.id ≡ Some v
still_there s u v apart there = spot_at-with s u.id None v.id ∙ rw apart there

if_done : (s : State) (b : Bool) (plan : Plan) (states : ℕ → State) → Good s plan states → Good s (if b then Done else plan) states
unfolding body
if_done s true plan states good = tt
if_done s false plan states good = good

own_none : (b : Bool) (item : Item) (states : ℕ → State) → taken_out (body (if b then Done else Push item Done) states).outcome.steps ≡ []
unfolding body
own_none true item states = refl
own_none false item states = refl

rest_none : (m : Merge) (states : ℕ → State) → taken_out (body (add_merged m) states).outcome.steps ≡ []
unfolding body
rest_none m states = own_none _ _ _

merging-good : (s : State) (m : Merge) (states : ℕ → State) → ArePoints s → states 0 ≡ s → int_eq m.second.id m.first.id ≡ false → AreMutual s m.first m.second → Good s (merging m) states
unfolding body
merging-good s m states k e apart pair =
    let first : reply_to (states 0) (remove m.first) ≡ number_reply (pos 1) = ap (λ (t : State). reply_to t (remove m.first)) e ∙ remove_reply s m.first k pair.first in
    let after : next_state (states 0) (remove m.first) ≡ with_row s (0, m.first.id) None = ap (λ (t : State). next_state t (remove m.first)) e ∙ remove_next s m.first k pair.first in
    let second : reply_to (next_state (states 0) (remove m.first)) (remove m.second) ≡ number_reply (pos 1) =
    ap (λ (t : State). reply_to t (remove m.second)) after ∙ remove_reply (with_row s (0, m.first.id) None) m.second k (still_there s m.first m.second apart pair.second) in
    subst (λ (l : List Spot). AreNoneOrMutual s (with_taken (reply_to (states 0) (remove m.first)) m.first (with_taken (reply_to (next_state (states 0) (remove m.first)) (remove m.second)) m.second l))) (sym (rest_none m (put (put states 0 (next_state (states 0) (remove m.first))) 0 (next_state (next_state (states 0) (remove m.first)) (remove m.second)))))
    (both_taken s _ _ m.first m.second first second pair)

-- the two weights that are read, and what is left then
abbrev pub first_read : (ℕ → State) → Spot → ℤ
first_read states u = (reply_to (states 1) (read u.id)).p

abbrev pub second_read : (ℕ → State) → Spot → Spot → ℤ
second_read states u v = (reply_to (next_state (states 1) (read u.id)) (read v.id)).p

abbrev pub after_reads : (ℕ → State) → Spot → Spot → ℕ → State
after_reads states u v = put (put states 1 (next_state (states 1) (read u.id))) 1 (next_state (next_state (states 1) (read u.id)) (read v.id))

weighing-good : (s : State) (id : ℤ) (u v : Spot) (states : ℕ → State) → ArePoints s → states 0 ≡ s → int_eq v.id u.id ≡ false → AreMutual s u v → Good s (weighing id u v) states
unfolding body
weighing-good s id u v states k e apart pair =
    if_done s (int_le (first_read states u +ℤ second_read states u v) (pos 0)) (merging (merge_of id u (first_read states u) v (second_read states u v))) (after_reads states u v)
    (merging-good s (merge_of id u (first_read states u) v (second_read states u v)) (after_reads states u v) k e apart pair)

pub swapped : (s : State) (u v : Spot) → AreMutual s u v → AreMutual s v u
swapped s u v m = record { first = m.second; second = m.first; nearest_first = m.nearest_second; nearest_second = m.nearest_first }

pub apart_back : (x y : ℤ) → int_eq x y ≡ false → int_eq y x ≡ false
apart_back x y e = int_eq-comm y x ∙ e

both-good : (s : State) (id : ℤ) (p c : Spot) (states : ℕ → State) (b : Bool) → ArePoints s → states 0 ≡ s → int_eq c.id p.id ≡ false → AreMutual s p c → Good s (if b then weighing id c p else weighing id p c) states
both-good s id p c states true k e apart pair = weighing-good s id c p states k e (apart_back c.id p.id apart) (swapped s p c pair)
both-good s id p c states false k e apart pair = weighing-good s id p c states k e apart pair

-- ---- the chain

-- the current point is there, and it is the nearest to the previous one
abbrev pub Link : State → Option Spot → Spot → Type 0
Link s None c = spot_at s c.id ≡ Some c
Link s (Some p) c = (spot_at s c.id ≡ Some c) × (spot_at s p.id ≡ Some p) × (points.nearest s p ≡ Some c)

pub other_of : (s : State) (c q : Spot) → points.nearest s c ≡ Some q → IsOther s c q
other_of s c q e = let is : IsNearest s c (Some q) = subst (IsNearest s c) e (nearest-is s c) in is.0

-- how the rest of the chain takes points
abbrev GoodOnward : State → (Option Spot → Spot → Plan) → Type 0
GoodOnward s onward = (o : Option Spot) (c : Spot) (states : ℕ → State) → states 0 ≡ s → Link s o c → Good s (onward o c) states

going-good : (s : State) (id : ℤ) (onward : Option Spot → Spot → Plan) (o : Option Spot) (c q : Spot) (states : ℕ → State) → ArePoints s → GoodOnward s onward → states 0 ≡ s → Link s o c → points.nearest s c ≡ Some q
    → Good s (going_to id onward o c q) states
going-good s id onward None c q states k rest e link near = rest (Some c) q states e ((other_of s c q near).there, link, near)
going-good s id onward (Some p) c q states k rest e link near = by (int_eq q.id p.id) refl
  where
    by : (b : Bool) → int_eq q.id p.id ≡ b → Good s (if b then merging_both id p c else onward (Some c) q) states
    by true same =
        let back : Some q ≡ Some p = sym (other_of s c q near).there ∙ ap (spot_at s) (same_int q.id p.id same) ∙ link.1 in
        both-good s id p c states _ k e (other_of s p c link.2).other (record { first = link.1; second = link.0; nearest_first = link.2; nearest_second = near ∙ back })
    by false apart = rest (Some c) q states e ((other_of s c q near).there, link.0, near)

near-good : (s : State) (id : ℤ) (onward : Option Spot → Spot → Plan) (o found : Option Spot) (c : Spot) (states : ℕ → State) → ArePoints s → GoodOnward s onward → states 0 ≡ s → Link s o c → points.nearest s c ≡ found
    → Good s (with_nearest id onward o c (nearest_reply found)) states
unfolding body
near-good s id onward o None c states k rest e link near = tt
near-good s id onward o (Some q) c states k rest e link near = if_done s (int_eq q.id (negsuc 0)) (going_to id onward o c q) states (going-good s id onward o c q states k rest e link near)

chase-good : (s : State) (id : ℤ) (calls : ℕ) → ArePoints s → GoodOnward s (chase id calls)
unfolding body
chase-good s id zero k o c states e link = tt
chase-good s id (suc calls) k o c states e link =
    let replied : reply_to (states 0) (nearest c) ≡ nearest_reply (points.nearest s c) = ap (λ (t : State). reply_to t (nearest c)) e ∙ reply_nearest s c k in
    let left : next_state (states 0) (nearest c) ≡ s = ap (λ (t : State). next_state t (nearest c)) e ∙ next_nearest s c k in
    subst (λ (r : Reply). Good s (with_nearest id (chase id calls) o c r) (put states 0 (next_state (states 0) (nearest c)))) (sym replied)
    (near-good s id (chase id calls) o (points.nearest s c) c (put states 0 (next_state (states 0) (nearest c))) k (chase-good s id calls k) left link refl)

place-good : (s : State) (id : ℤ) (calls : ℕ) (found : Option Spot) (states : ℕ → State) → ArePoints s → states 0 ≡ s → spot_at s id ≡ found → Good s (with_place id calls (points.at_reply found)) states
unfolding body
place-good s id calls None states k e there = tt
place-good s id calls (Some c) states k e there = chase-good s id calls k None _ states e (there ∙ ap (λ (x : Spot). Some x) (own_spot s id c there))

none_good : (s : State) (states : ℕ → State) → Good s Done states
unfolding body
none_good s states = tt

body-good : (s : State) (id : ℤ) (calls : ℕ) (states : ℕ → State) → ArePoints s → states 0 ≡ s → Good s (chain_body id calls) states
unfolding body
body-good s id calls states k e =
    let replied : reply_to (states 0) (at id) ≡ points.at_reply (spot_at s id) = ap (λ (t : State). reply_to t (at id)) e ∙ reply_at s id k in
    let left : next_state (states 0) (at id) ≡ s = ap (λ (t : State). next_state t (at id)) e ∙ next_at s id k in
    subst (λ (r : Reply). Good s (with_place id calls r) (put states 0 (next_state (states 0) (at id)))) (sym replied)
    (place-good s id calls (spot_at s id) (put states 0 (next_state (states 0) (at id))) k left refl)

pub chain-good : (count : ℕ) (item : Item) (states : ℕ → State) → (states points_room).kind ≡ kind_number Points → AreNoneOrMutual (states points_room) (taken_out (body (chain_plan count item) states).outcome.steps)
chain-good count item states k = by (is_of_id item)
  where
    by : (b : Bool) → Good (states 0) (if b then chain_body item.k0 (count + 1) else Done) states
    by true = body-good (states 0) item.k0 (count + 1) states k refl
    by false = none_good (states 0) states

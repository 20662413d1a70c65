-- In each body the keys of the pairs along the chain fall.
use Rattle.std.proofs.Common.{◌≡◌, inl, inr, ℕ, zero, suc, ◌+◌, ℤ, pos, negsuc, Bool, true, false, if◌then◌else◌, Option, Some, None, List, [], ◌∷◌, refl, sym, ap, subst, ◌∙◌}
use Rattle.std.specs.Prelude.{not, int_le, int_lt, ◌+ℤ◌}
use Rattle.std.specs.Ordering.{int_eq}
use Rattle.gx_base.specs.declared.calls.Reply.{Reply}
use Rattle.gx_base.specs.declared.calls.Spot.{Spot}
use Rattle.gx_base.specs.declared.items.Item.{Item}
use Rattle.gx_base.specs.Outcomes.{Outcome, WholeCommit, order_of, outcomes_of}
use Rattle.gx_base.specs.Plans.{Plan, Push, Done}
use Rattle.gx_base.specs.PointKind as points
use Rattle.gx_base.specs.PointKind.{spot_at, nearest_reply}
use Rattle.gx_base.specs.Replays.{put}
use Rattle.gx_base.specs.SerialIterations.{body, ready_after, Ended, serial}
use Rattle.gx_base.specs.States.{State}
use Rattle.gx_base.specs.Steps.{next_state, reply_to}
use Rattle.gx_base.proofs.CallerLemmas.{same_int}
use Rattle.gx_base.proofs.serial.Prefixes.{FirstTurn, first_turn}
use Rattle.kd_points.specs.NearestPoints.{some_is}
use Rattle.clustering.specs.declared.stages.Merge.{Merge}
use Rattle.clustering.specs.PointCalls.{nearest, at}
use Rattle.clustering.specs.Chain.{chase, with_nearest, going_to, merging_both, weighing, merging, merge_of, with_place, chain_body, chain_plan, is_of_id}
use Rattle.cluster_laws.specs.ChainKeys.{Pair, pairs_of, KeysFall, KeysFallInEach}
use Rattle.cluster_laws.specs.ClusterRuns.{chain_operator}
use Rattle.cluster_laws.proofs.Calls.{ArePoints, next_nearest, reply_nearest, next_at, reply_at, own_spot}
use Rattle.cluster_laws.proofs.Keys.{falls}
use Rattle.cluster_laws.proofs.Runs.{body-kind}
use Rattle.cluster_laws.proofs.Takings.{Link, other_of, first_read, second_read, after_reads}

abbrev found_in : Plan → (ℕ → State) → List Pair
found_in plan states = pairs_of (body plan states).outcome.steps

-- ---- a merge asks for no nearest point

none_if : (b : Bool) (plan : Plan) (states : ℕ → State) → found_in plan states ≡ [] → found_in (if b then Done else plan) states ≡ []
unfolding body
none_if true plan states e = refl
none_if false plan states e = e

none_pushed : (b : Bool) (item : Item) (states : ℕ → State) → found_in (if b then Done else Push item Done) states ≡ []
unfolding body
none_pushed true item states = refl
none_pushed false item states = refl

none_merging : (m : Merge) (states : ℕ → State) → found_in (merging m) states ≡ []
unfolding body
none_merging m states = none_pushed _ _ _

none_weighing : (id : ℤ) (u v : Spot) (states : ℕ → State) → found_in (weighing id u v) states ≡ []
unfolding body
none_weighing id u v states =
    let m : Merge = merge_of id u (first_read states u) v (second_read states u v) in
    none_if (int_le (first_read states u +ℤ second_read states u v) (pos 0)) (merging m) (after_reads states u v) (none_merging m (after_reads states u v))

none_of_both : (id : ℤ) (p c : Spot) (states : ℕ → State) (b : Bool) → found_in (if b then weighing id c p else weighing id p c) states ≡ []
none_of_both id p c states true = none_weighing id c p states
none_of_both id p c states false = none_weighing id p c states

-- ---- the chain

-- with the pair before, of the previous and the current point
abbrev after_pair : Option Spot → Spot → List Pair → List Pair
after_pair None c pairs = pairs
after_pair (Some p) c pairs = (p, c) ∷ pairs

abbrev Falls : Option Spot → Spot → Plan → (ℕ → State) → Type 0
Falls o c plan states = KeysFall (after_pair o c (found_in plan states))

last_pair : (o : Option Spot) (c : Spot) → KeysFall (after_pair o c [])
last_pair None c = tt
last_pair (Some p) c = (tt, tt)

-- how the rest of the chain falls
abbrev FallsOnward : State → (Option Spot → Spot → Plan) → Type 0
FallsOnward s onward = (o : Option Spot) (c : Spot) (states : ℕ → State) → states 0 ≡ s → Link s o c → Falls o c (onward o c) states

goes-falls : (s : State) (id : ℤ) (onward : Option Spot → Spot → Plan) (o : Option Spot) (c q : Spot) (states : ℕ → State) → FallsOnward s onward → states 0 ≡ s → Link s o c → points.nearest s c ≡ Some q
    → KeysFall (after_pair o c ((c, q) ∷ found_in (going_to id onward o c q) states))
goes-falls s id onward None c q states rest e link near = rest (Some c) q states e ((other_of s c q near).there, link, near)
goes-falls s id onward (Some p) c q states rest e link near = by (int_eq q.id p.id) refl
  where
    by : (b : Bool) → int_eq q.id p.id ≡ b → KeysFall ((p, c) ∷ (c, q) ∷ found_in (if b then merging_both id p c else onward (Some c) q) states)
    by true same =
        let back : q ≡ p = some_is q p (sym (other_of s c q near).there ∙ ap (spot_at s) (same_int q.id p.id same) ∙ link.1) in
        subst (λ (pairs : List Pair). KeysFall ((p, c) ∷ (c, q) ∷ pairs)) (sym (none_of_both id p c states (int_lt c.id p.id))) ((refl, inr (back, refl)), (tt, tt))
    by false apart = ((refl, inl (falls s p c q link.1 link.2 near apart)), rest (Some c) q states e ((other_of s c q near).there, link.0, near))

-- by what a call of `nearest` has replied
near-falls : (s : State) (id : ℤ) (onward : Option Spot → Spot → Plan) (o found : Option Spot) (c : Spot) (states : ℕ → State) → FallsOnward s onward → states 0 ≡ s → Link s o c → points.nearest s c ≡ found
    → KeysFall (after_pair o c (pairs_of (record { room = 0; call = nearest c; reply = nearest_reply found } ∷ (body (with_nearest id onward o c (nearest_reply found)) states).outcome.steps)))
unfolding body
near-falls s id onward o None c states rest e link near = last_pair o c
near-falls s id onward o (Some q) c states rest e link near = by (int_eq q.id (negsuc 0))
  where
    by : (b : Bool) → KeysFall (after_pair o c (if not b then (c, q) ∷ found_in (if b then Done else going_to id onward o c q) states else found_in (if b then Done else going_to id onward o c q) states))
    by true = last_pair o c
    by false = goes-falls s id onward o c q states rest e link near

chase-falls : (s : State) (id : ℤ) (calls : ℕ) → ArePoints s → FallsOnward s (chase id calls)
unfolding body
chase-falls s id zero k o c states e link = last_pair o c
chase-falls s id (suc calls) k o c states e link =
    let replied : reply_to (states 0) (nearest c) ≡ nearest_reply (points.nearest s c) = ap (λ (t : State). reply_to t (nearest c)) e ∙ reply_nearest s c k in
    let left : next_state (states 0) (nearest c) ≡ s = ap (λ (t : State). next_state t (nearest c)) e ∙ next_nearest s c k in
    subst (λ (r : Reply). KeysFall (after_pair o c (pairs_of (record { room = 0; call = nearest c; reply = r } ∷ (body (with_nearest id (chase id calls) o c r) (put states 0 (next_state (states 0) (nearest c)))).outcome.steps)))) (sym replied)
    (near-falls s id (chase id calls) o (points.nearest s c) c (put states 0 (next_state (states 0) (nearest c))) (chase-falls s id calls k) left link refl)

-- ---- bodies

place-falls : (s : State) (id : ℤ) (calls : ℕ) (found : Option Spot) (states : ℕ → State) → ArePoints s → states 0 ≡ s → spot_at s id ≡ found → KeysFall (found_in (with_place id calls (points.at_reply found)) states)
unfolding body
place-falls s id calls None states k e there = tt
place-falls s id calls (Some c) states k e there = chase-falls s id calls k None _ states e (there ∙ ap (λ (x : Spot). Some x) (own_spot s id c there))

none_falls : (states : ℕ → State) → KeysFall (found_in Done states)
unfolding body
none_falls states = tt

body-falls : (s : State) (id : ℤ) (calls : ℕ) (states : ℕ → State) → ArePoints s → states 0 ≡ s → KeysFall (found_in (chain_body id calls) states)
unfolding body
body-falls s id calls states k e =
    let replied : reply_to (states 0) (at id) ≡ points.at_reply (spot_at s id) = ap (λ (t : State). reply_to t (at id)) e ∙ reply_at s id k in
    let left : next_state (states 0) (at id) ≡ s = ap (λ (t : State). next_state t (at id)) e ∙ next_at s id k in
    subst (λ (r : Reply). KeysFall (found_in (with_place id calls r) (put states 0 (next_state (states 0) (at id))))) (sym replied)
    (place-falls s id calls (spot_at s id) (put states 0 (next_state (states 0) (at id))) k left refl)

chain-falls : (count : ℕ) (item : Item) (states : ℕ → State) → ArePoints (states 0) → KeysFall (found_in (chain_plan count item) states)
chain-falls count item states k = by (is_of_id item)
  where
    by : (b : Bool) → KeysFall (found_in (if b then chain_body item.k0 (count + 1) else Done) states)
    by true = body-falls (states 0) item.k0 (count + 1) states k refl
    by false = none_falls states

-- ---- runs

pub all-fall : (count : ℕ) (commits : List WholeCommit) (states : ℕ → State) (ready : List Item) (ended : Ended) → ArePoints (states 0) → serial (chain_operator count) states ready (order_of commits) ≡ Some ended
    → outcomes_of commits ≡ ended.outcomes → KeysFallInEach commits
all-fall count [] states ready ended k e recorded = tt
all-fall count (c ∷ cs) states ready ended k e recorded =
    let turn : FirstTurn (chain_operator count) states ready c.item (order_of cs) ended = first_turn (chain_operator count) states ready c.item (order_of cs) ended e in
    let all : c.outcome ∷ outcomes_of cs ≡ (body (chain_plan count c.item) states).outcome ∷ turn.rest.outcomes = recorded ∙ ap (λ (x : Ended). x.outcomes) turn.end in
    let here : c.outcome ≡ (body (chain_plan count c.item) states).outcome = cc in
    let later : outcomes_of cs ≡ turn.rest.outcomes = cc in (
      subst (λ (o : Outcome). KeysFall (pairs_of o.steps)) (sym here) (chain-falls count c.item states k),
      all-fall count cs (body (chain_plan count c.item) states).states (ready_after ready c.item (body (chain_plan count c.item) states).outcome) turn.rest (body-kind (chain_plan count c.item) states 0 ∙ k) turn.goes_on later,
    )

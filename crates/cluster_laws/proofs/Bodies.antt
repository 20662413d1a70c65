-- Each body of a run on points keeps what holds of them, and its bound isn't what ends it.
use Rattle.std.proofs.Common.{◌≡◌, ◌⊎◌, inl, inr, ℕ, suc, ◌+◌, ◌≤◌, ℤ, pos, Bool, true, false, if◌then◌else◌, Option, Some, None, List, [], refl, sym, ap, subst, ◌∙◌, arith}
use Rattle.std.specs.Prelude.{◌&&◌}
use Rattle.std.specs.Ordering.{int_eq}
use Rattle.std.proofs.Math.Numerals.{add-one}
use Rattle.gx_base.specs.declared.calls.Reply.{Reply}
use Rattle.gx_base.specs.declared.calls.Spot.{Spot}
use Rattle.gx_base.specs.declared.items.Item.{Item}
use Rattle.gx_base.specs.Plans.{Plan, Done}
use Rattle.gx_base.specs.PointKind.{spot_at, at_reply}
use Rattle.gx_base.specs.Replays.{put}
use Rattle.gx_base.specs.SerialIterations.{body, ready_after}
use Rattle.gx_base.specs.States.{State}
use Rattle.gx_base.specs.Steps.{next_state, reply_to}
use Rattle.gx_base.specs.Worklists.{with_items, without_item, without_items}
use Rattle.gx_base.proofs.CallerLemmas.{same_int}
use Rattle.kind_tables.proofs.CallerLemmas.{both}
use Rattle.kd_points.specs.NearestPoints.{some_none}
use Rattle.clustering.specs.PointCalls.{at}
use Rattle.clustering.specs.Chain.{id_item, is_of_id, chase, with_place, chain_body, chain_plan, weighing, merging}
use Rattle.cluster_laws.specs.ClusterRuns.{IsUnbounded}
use Rattle.cluster_laws.proofs.Calls.{next_at, reply_at, own_spot, own_id}
use Rattle.cluster_laws.proofs.Chains.{AreNumbered, Meets, meets_as, Alone, begins, begins-same}
use Rattle.cluster_laws.proofs.Clouds as clouds
use Rattle.cluster_laws.proofs.Clouds.{IsCloud, IsSingle, Waits, first_weighs, second_weighs, weights_positive, cloud_after, waits_after}
use Rattle.cluster_laws.proofs.Counts.{no_bool}
use Rattle.cluster_laws.proofs.Items.{stays, id_of, of_id}
use Rattle.cluster_laws.proofs.Merges.{weighs, merging_points, merging_cells, merging_pushes}
use Rattle.cluster_laws.proofs.Runs.{Same, same_then, looked, call_same, body-withdraws_nothing}

-- what holds between two bodies
abbrev pub HoldsBetween : ℕ → (ℕ → State) → List Item → Type 0
HoldsBetween n states ready = IsCloud n states × Waits (states 0) ready

-- what a body leaves
abbrev Left : ℕ → Plan → Item → (ℕ → State) → List Item → Type 0
Left n plan item states ready = HoldsBetween n (body plan states).states (ready_after ready item (body plan states).outcome)

ready_is : (plan : Plan) (item : Item) (states : ℕ → State) (ready pushes : List Item) → (body plan states).outcome.pushes ≡ pushes → ready_after ready item (body plan states).outcome ≡ with_items (without_item ready item) pushes
unfolding without_items
ready_is plan item states ready pushes e = λ i. with_items (without_items (without_item ready item) (body-withdraws_nothing plan states i)) (e i)

done_states : (plan : Plan) (states : ℕ → State) → Same plan Done states → (body plan states).states ≡ states
unfolding body
done_states plan states same = same.0

done_ready : (plan : Plan) (item : Item) (states : ℕ → State) (ready : List Item) → Same plan Done states → ready_after ready item (body plan states).outcome ≡ without_item ready item
unfolding body with_items
done_ready plan item states ready same = ready_is plan item states ready [] same.1

-- a body that does nothing
idle : (n : ℕ) (plan : Plan) (item : Item) (states : ℕ → State) (ready : List Item) → Same plan Done states → IsCloud n states → Waits (states 0) (without_item ready item) → Left n plan item states ready
idle n plan item states ready same cloud wait =
    let stay : (body plan states).states ≡ states = done_states plan states same in
    let left : ready_after ready item (body plan states).outcome ≡ without_item ready item = done_ready plan item states ready same in
    (subst (IsCloud n) (sym stay) cloud, subst (λ (f : ℕ → State). Waits (f 0) (ready_after ready item (body plan states).outcome)) (sym stay) (subst (Waits (states 0)) (sym left) wait))

-- an item of no point leaves
waits_without : (s : State) (ready : List Item) (item : Item) → ((x : ℤ) (r : Spot) → spot_at s x ≡ Some r → item ≡ id_item x → ⊥) → Waits s ready → Waits s (without_item ready item)
waits_without s ready item none (inl wait) = inl (λ x r there. stays ready item (id_item x) (wait x r there) (none x r there))
waits_without s ready item none (inr single) = inr single

-- of a point that is alone there is no second one
single_of : (s : State) (n : ℕ) (are : AreNumbered s n) (c : Spot) → Alone s n are c → IsSingle s
single_of s n are c alone x y r t there also = is x r there ∙ sym (is y t also)
  where
    is : (x : ℤ) (r : Spot) → spot_at s x ≡ Some r → x ≡ c.id
    is x r there = by (int_eq r.id c.id) refl
      where
        own : r.id ≡ x
        own = own_id s x r there

        by : (b : Bool) → int_eq r.id c.id ≡ b → x ≡ c.id
        by true e = sym own ∙ same_int r.id c.id e
        by false e = absurd (alone r (record { there = ap (spot_at s) own ∙ there; other = e }))

-- a body that merges
merged : (n : ℕ) → n ≤ 20000 → (id : ℤ) (plan : Plan) (states : ℕ → State) (ready : List Item) (cloud : IsCloud n states) → Meets (states 0) n cloud.are id plan states → Waits (states 0) ready
    → Left n plan (id_item id) states ready
merged n most id plan states ready cloud found wait =
    let to : Same (weighing id found.u found.v) (merging (clouds.m n most states cloud id found.u found.v found.apart found.pair)) states =
    weighs id found.u found.v states (pos (clouds.a n most states cloud id found.u found.v found.apart found.pair)) (pos (clouds.b n most states cloud id found.u found.v found.apart found.pair)) cloud.cells
    (first_weighs n most states cloud id found.u found.v found.apart found.pair) (second_weighs n most states cloud id found.u found.v found.apart found.pair)
    (weights_positive n most states cloud id found.u found.v found.apart found.pair) in
    let all : Same plan (merging (clouds.m n most states cloud id found.u found.v found.apart found.pair)) states = same_then plan (weighing id found.u found.v) _ states found.same to in
    let points = ap (λ (f : ℕ → State). f 0) all.0 ∙ merging_points (clouds.m n most states cloud id found.u found.v found.apart found.pair) states in
    let cells = ap (λ (f : ℕ → State). f 1) all.0 ∙ merging_cells (clouds.m n most states cloud id found.u found.v found.apart found.pair) states in
    let pushes = all.1 ∙ merging_pushes (clouds.m n most states cloud id found.u found.v found.apart found.pair) states in (
      cloud_after n most states cloud id found.u found.v found.apart found.pair (body plan states).states points cells,
      subst (Waits ((body plan states).states 0)) (sym (ready_is plan (id_item id) states ready _ pushes))
          (waits_after n most states cloud id found.u found.v found.apart found.pair (body plan states).states points cells ready wait),
    )

item_is : (item : Item) → is_of_id item ≡ true → id_item item.k0 ≡ item
item_is item e =
    let last : ((int_eq item.k1 (pos 0) && int_eq item.k2 (pos 0)) ≡ true) × (int_eq item.k3 (pos 0) ≡ true) = both _ _ e in
    let first : (int_eq item.k1 (pos 0) ≡ true) × (int_eq item.k2 (pos 0) ≡ true) = both _ _ last.0 in
    λ i. record { k0 = item.k0; k1 = sym (same_int item.k1 (pos 0) first.0) i; k2 = sym (same_int item.k2 (pos 0) first.1) i; k3 = sym (same_int item.k3 (pos 0) last.1) i }

-- with_place goes on from a point
placed : (s : State) (id : ℤ) (calls : ℕ) (c : Spot) → spot_at s id ≡ Some c → with_place id (calls + 1) (at_reply (Some c)) ≡ chase id (suc calls) None c
placed s id calls c there =
    let back : record { id = id; x = c.x; y = c.y; z = c.z } ≡ c = sym (own_spot s id c there) in
    λ i. chase id (add-one calls i) None (back i)

module _ (n : ℕ) (most : n ≤ 20000) where
  begun : (id : ℤ) (states : ℕ → State) (found : Option Spot) → IsCloud n states → spot_at (states 0) id ≡ found → Same (chain_body id (n + 1)) (with_place id (n + 1) (at_reply found)) states
  begun id states found cloud there =
      looked 0 (at id) (λ reply. with_place id (n + 1) reply) states (at_reply found) (next_at (states 0) id cloud.are.are_points) (reply_at (states 0) id cloud.are.are_points ∙ ap at_reply there)

  -- its point isn't there or is alone, and nothing is done
  abbrev pub IsIdle : ℤ → (ℕ → State) → Type 0
  IsIdle id states = ((spot_at (states 0) id ≡ None) ⊎ IsSingle (states 0)) × Same (chain_body id (n + 1)) Done states

  -- a body does nothing, or comes to two points that are each other's nearest
  pub goes_by_id : (id : ℤ) (states : ℕ → State) (cloud : IsCloud n states) → IsIdle id states ⊎ Meets (states 0) n cloud.are id (chain_body id (n + 1)) states
  goes_by_id id states cloud = by (spot_at (states 0) id) refl
    where
      by : (found : Option Spot) → spot_at (states 0) id ≡ found → IsIdle id states ⊎ Meets (states 0) n cloud.are id (chain_body id (n + 1)) states
      by None there = inl (inl there, begun id states None cloud there)
      by (Some c) there = from (begins (states 0) n cloud.are id c states refl (ap (spot_at (states 0)) (own_id (states 0) id c there) ∙ there))
        where
          on : Same (chain_body id (n + 1)) (chase id (suc n) None c) states
          on = subst (λ (plan : Plan). Same (chain_body id (n + 1)) plan states) (placed (states 0) id n c there) (begun id states (Some c) cloud there)

          from : ((Alone (states 0) n cloud.are c × Same (chase id (suc n) None c) Done states) ⊎ Meets (states 0) n cloud.are id (chase id (suc n) None c) states)
              → IsIdle id states ⊎ Meets (states 0) n cloud.are id (chain_body id (n + 1)) states
          from (inl alone) = inl (inr (single_of (states 0) n cloud.are c alone.0), same_then (chain_body id (n + 1)) (chase id (suc n) None c) Done states on alone.1)
          from (inr found) = inr (meets_as (states 0) n cloud.are id _ _ states on found)

  kept_by_id : (id : ℤ) (states : ℕ → State) (ready : List Item) → HoldsBetween n states ready → Left n (chain_body id (n + 1)) (id_item id) states ready
  kept_by_id id states ready h = from (goes_by_id id states h.0)
    where
      from : IsIdle id states ⊎ Meets (states 0) n h.0.are id (chain_body id (n + 1)) states → Left n (chain_body id (n + 1)) (id_item id) states ready
      from (inl (inl none, same)) =
          idle n (chain_body id (n + 1)) (id_item id) states ready same h.0 (waits_without (states 0) ready (id_item id) (λ x r here e. some_none r (sym none ∙ ap (spot_at (states 0)) (id_of id x e) ∙ here)) h.1)
      from (inl (inr single, same)) = idle n (chain_body id (n + 1)) (id_item id) states ready same h.0 (inr single)
      from (inr found) = merged n most id (chain_body id (n + 1)) states ready h.0 found h.1

  pub kept_by_bodies : (item : Item) (states : ℕ → State) (ready : List Item) → HoldsBetween n states ready → Left n (chain_plan n item) item states ready
  kept_by_bodies item states ready h = by (is_of_id item) refl
    where
      by : (b : Bool) → is_of_id item ≡ b → Left n (if b then chain_body item.k0 (n + 1) else Done) item states ready
      by true e = subst (λ (x : Item). Left n (chain_body item.k0 (n + 1)) x states ready) (item_is item e) (kept_by_id item.k0 states ready h)
      by false e =
          idle n Done item states ready (refl, refl) h.0
          (waits_without (states 0) ready item (λ x r there is. no_bool (is_of_id item) (ap is_of_id is ∙ of_id x) e) h.1)

  -- ---- the bound

  unbounded_by_id : (id : ℤ) (states : ℕ → State) → IsCloud n states → (more : ℕ) → body (chain_body id ((n + more) + 1)) states ≡ body (chain_body id (n + 1)) states
  unbounded_by_id id states cloud more =
      call_same 0 (at id) (λ reply. with_place id ((n + more) + 1) reply) (λ reply. with_place id (n + 1) reply) states (by (spot_at (states 0) id) refl)
    where
      after : ℕ → State
      after = put states 0 (next_state (states 0) (at id))

      left : after 0 ≡ states 0
      left = next_at (states 0) id cloud.are.are_points

      replied : (found : Option Spot) → spot_at (states 0) id ≡ found → reply_to (states 0) (at id) ≡ at_reply found
      replied found there = reply_at (states 0) id cloud.are.are_points ∙ ap at_reply there

      by : (found : Option Spot) → spot_at (states 0) id ≡ found → body (with_place id ((n + more) + 1) (reply_to (states 0) (at id))) after ≡ body (with_place id (n + 1) (reply_to (states 0) (at id))) after
      by None there =
          ap (λ (r : Reply). body (with_place id ((n + more) + 1) r) after) (replied None there)
          ∙ sym (ap (λ (r : Reply). body (with_place id (n + 1) r) after) (replied None there))
      by (Some c) there =
          ap (λ (r : Reply). body (with_place id ((n + more) + 1) r) after) (replied (Some c) there)
          ∙ ap (λ (plan : Plan). body plan after) (placed (states 0) id (n + more) c there)
          ∙ begins-same (states 0) n cloud.are id (n + more) c after left (ap (spot_at (states 0)) (own_id (states 0) id c there) ∙ there) (omega arith)
          ∙ sym (ap (λ (plan : Plan). body plan after) (placed (states 0) id n c there))
          ∙ sym (ap (λ (r : Reply). body (with_place id (n + 1) r) after) (replied (Some c) there))

  pub unbounded : (item : Item) (states : ℕ → State) → IsCloud n states → IsUnbounded n item states
  unbounded item states cloud more = by (is_of_id item)
    where
      by : (b : Bool) → body (if b then chain_body item.k0 ((n + more) + 1) else Done) states ≡ body (if b then chain_body item.k0 (n + 1) else Done) states
      by true = unbounded_by_id item.k0 states cloud more
      by false = refl

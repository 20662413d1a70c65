-- A chain ends at two points that are each other's nearest, within as many calls of `nearest` as there are points.
use Rattle.std.proofs.Common.{◌≡◌, ◌⊎◌, inl, inr, ℕ, zero, suc, ◌<◌, ◌≤◌, ℤ, pos, negsuc, Bool, true, false, if◌then◌else◌, Option, Some, None, refl, sym, ap, subst, ◌∙◌, arith}
use Rattle.std.specs.Ordering.{int_eq, is_lt}
use Rattle.std.specs.Cmp.{tied_itself}
use Rattle.std.specs.declared.cmp.Ordering.TheVariants.{Less}
use Rattle.gx_base.specs.declared.calls.Reply.{Reply}
use Rattle.gx_base.specs.declared.calls.Spot.{Spot}
use Rattle.gx_base.specs.Plans.{Plan, Done}
use Rattle.gx_base.specs.PointKind as points
use Rattle.gx_base.specs.PointKind.{spot_at, nearest_reply}
use Rattle.gx_base.specs.Replays.{put}
use Rattle.gx_base.specs.SerialIterations.{body}
use Rattle.gx_base.specs.Spots.{Key, pk, key_cmp, spot_of_reply}
use Rattle.gx_base.specs.States.{State}
use Rattle.gx_base.specs.Steps.{next_state, reply_to}
use Rattle.gx_base.proofs.CallerLemmas.{same_int}
use Rattle.kd_points.specs.NearestPoints.{IsOther, IsNearest, nearest-is, key_cmp_total}
use Rattle.clustering.specs.PointCalls.{nearest}
use Rattle.clustering.specs.Chain.{chase, with_nearest, going_to, merging_both, weighing}
use Rattle.cluster_laws.specs.MutualPairs.{AreMutual}
use Rattle.cluster_laws.proofs.Calls.{ArePoints, next_nearest, reply_nearest, int_same}
use Rattle.cluster_laws.proofs.Counts.{count, count_less, count_below}
use Rattle.cluster_laws.proofs.Keys.{falls, less_then}
use Rattle.cluster_laws.proofs.Runs.{Same, same_then, looked, call_same}
use Rattle.cluster_laws.proofs.Takings.{Link, other_of, swapped, apart_back}

-- ---- how many points are closer to their nearest than a key is

lower_by : Key → Spot → Option Spot → Bool
lower_by key c None = false
lower_by key c (Some q) = is_lt (key_cmp (pk c q) key)

pub lower_at : State → Key → Option Spot → Bool
lower_at s key None = false
lower_at s key (Some c) = lower_by key c (points.nearest s c)

abbrev pub rank : State → Key → ℕ → ℕ
rank s key n = count (λ k. lower_at s key (spot_at s (pos k))) n

lower_up_by : (a b : Key) → key_cmp a b ≡ Less → (c : Spot) (o : Option Spot) → lower_by a c o ≡ true → lower_by b c o ≡ true
unfolding lower_by
lower_up_by a b l c None e = absurd (cc)
lower_up_by a b l c (Some q) e = less_then (pk c q) a b e l

lower_up : (s : State) (a b : Key) → key_cmp a b ≡ Less → (o : Option Spot) → lower_at s a o ≡ true → lower_at s b o ≡ true
unfolding lower_at
lower_up s a b l None e = absurd (cc)
lower_up s a b l (Some c) e = lower_up_by a b l c (points.nearest s c) e

-- the point of a number, and the one nearest to it
lower_here : (s : State) (key : Key) (id : ℤ) (c q : Spot) → spot_at s id ≡ Some c → points.nearest s c ≡ Some q → lower_at s key (spot_at s id) ≡ is_lt (key_cmp (pk c q) key)
unfolding lower_at lower_by
lower_here s key id c q there near = ap (lower_at s key) there ∙ ap (lower_by key c) near

-- the points have numbers below n
pub record AreNumbered (s : State) (n : ℕ) : Type 0 where
  pub are_points : ArePoints s
  pub number : (id : ℤ) (r : Spot) → spot_at s id ≡ Some r → (k : ℕ) × (k < n) × (id ≡ pos k)

module _ (s : State) (n : ℕ) (are : AreNumbered s n) where
  -- along the chain the rank falls
  rank_falls : (p c q : Spot) → spot_at s c.id ≡ Some c → points.nearest s c ≡ Some q → key_cmp (pk c q) (pk p c) ≡ Less → rank s (pk c q) n < rank s (pk p c) n
  rank_falls p c q there near less =
      let k : (k : ℕ) × (k < n) × (c.id ≡ pos k) = are.number c.id c there in
      let here : spot_at s (pos k.0) ≡ Some c = ap (spot_at s) (sym k.2) ∙ there in
      count_less (λ (i : ℕ). lower_at s (pk c q) (spot_at s (pos i))) (λ (i : ℕ). lower_at s (pk p c) (spot_at s (pos i))) (λ i. lower_up s (pk c q) (pk p c) less (spot_at s (pos i))) k.0
      (lower_here s (pk c q) (pos k.0) c q here near ∙ ap is_lt (tied_itself key_cmp_total (pk c q)))
      (lower_here s (pk p c) (pos k.0) c q here near ∙ ap is_lt less) n k.1

  rank_below : (c q : Spot) → spot_at s c.id ≡ Some c → points.nearest s c ≡ Some q → rank s (pk c q) n < n
  rank_below c q there near =
      let k : (k : ℕ) × (k < n) × (c.id ≡ pos k) = are.number c.id c there in
      let here : spot_at s (pos k.0) ≡ Some c = ap (spot_at s) (sym k.2) ∙ there in
      count_below (λ (i : ℕ). lower_at s (pk c q) (spot_at s (pos i))) k.0 (lower_here s (pk c q) (pos k.0) c q here near ∙ ap is_lt (tied_itself key_cmp_total (pk c q))) n k.1

  -- no point has the number that tells that there is none
  pub no_minus_one : (q : Spot) → spot_at s q.id ≡ Some q → int_eq q.id (negsuc 0) ≡ false
  no_minus_one q there =
      let k : (k : ℕ) × (k < n) × (q.id ≡ pos k) = are.number q.id q there in
      ap (λ (x : ℤ). int_eq x (negsuc 0)) k.2

  -- ---- how one call of `nearest` goes on

  asked : (id : ℤ) (calls : ℕ) (o : Option Spot) (c : Spot) (found : Option Spot) (states : ℕ → State) → states 0 ≡ s → points.nearest s c ≡ found
      → Same (chase id (suc calls) o c) (with_nearest id (chase id calls) o c (nearest_reply found)) states
  asked id calls o c found states e near =
      looked 0 (nearest c) (λ reply. with_nearest id (chase id calls) o c reply) states (nearest_reply found)
      (ap (λ (t : State). next_state t (nearest c)) e ∙ next_nearest s c are.are_points ∙ sym e)
      (ap (λ (t : State). reply_to t (nearest c)) e ∙ reply_nearest s c are.are_points ∙ ap nearest_reply near)

  found_one : (id : ℤ) (calls : ℕ) (o : Option Spot) (c q : Spot) → spot_at s q.id ≡ Some q → with_nearest id (chase id calls) o c (nearest_reply (Some q)) ≡ going_to id (chase id calls) o c q
  found_one id calls o c q there = ap (λ (b : Bool). if b then Done else going_to id (chase id calls) o c q) (no_minus_one q there)

  -- the nearest point to one that another is nearest to
  next_of : (p c : Spot) → Link s (Some p) c → (found : Option Spot) → points.nearest s c ≡ found → (q : Spot) × (points.nearest s c ≡ Some q)
  next_of p c link None near =
      let is : IsNearest s c None = subst (IsNearest s c) near (nearest-is s c) in
      absurd (is p (record { there = link.1; other = apart_back c.id p.id (other_of s p c link.2).other }))
  next_of p c link (Some q) near = (q, near)

  -- ---- where a chain ends

  -- the plan is as that of two points that are each other's nearest
  pub record Meets (id : ℤ) (plan : Plan) (states : ℕ → State) : Type 0 where
    pub u : Spot
    pub v : Spot
    pub apart : int_eq v.id u.id ≡ false
    pub pair : AreMutual s u v
    pub same : Same plan (weighing id u v) states

  pub meets_as : (id : ℤ) (plan other : Plan) (states : ℕ → State) → Same plan other states → Meets id other states → Meets id plan states
  meets_as id plan other states same m = record { u = m.u; v = m.v; apart = m.apart; pair = m.pair; same = same_then plan other (weighing id m.u m.v) states same m.same }

  both_meet : (id : ℤ) (p c : Spot) (states : ℕ → State) (b : Bool) → int_eq c.id p.id ≡ false → AreMutual s p c → Meets id (if b then weighing id c p else weighing id p c) states
  both_meet id p c states true apart pair = record { u = c; v = p; apart = apart_back c.id p.id apart; pair = swapped s p c pair; same = (refl, refl) }
  both_meet id p c states false apart pair = record { u = p; v = c; apart = apart; pair = pair; same = (refl, refl) }

  -- two points whose nearest ones they are
  pair_of : (p c q : Spot) → Link s (Some p) c → points.nearest s c ≡ Some q → int_eq q.id p.id ≡ true → AreMutual s p c
  pair_of p c q link near same =
      let back : Some q ≡ Some p = sym (other_of s c q near).there ∙ ap (spot_at s) (same_int q.id p.id same) ∙ link.1 in
      record { first = link.1; second = link.0; nearest_first = link.2; nearest_second = near ∙ back }

  -- the chain goes on from c
  abbrev MeetsLater : ℤ → ℕ → Spot → (ℕ → State) → Type 0
  MeetsLater id calls c states = (q : Spot) → points.nearest s c ≡ Some q → spot_at s q.id ≡ Some q → rank s (pk c q) n < calls → Meets id (chase id calls (Some c) q) states

  chase-meets : (id : ℤ) (calls : ℕ) (p c : Spot) (states : ℕ → State) → states 0 ≡ s → Link s (Some p) c → rank s (pk p c) n < calls → Meets id (chase id calls (Some p) c) states
  chase-meets id zero p c states e link l = absurd (omega arith)
  chase-meets id (suc calls) p c states e link l = from (next_of p c link (points.nearest s c) refl) (λ q near there less. chase-meets id calls c q states e (there, link.0, near) less)
    where
      from : ((q : Spot) × (points.nearest s c ≡ Some q)) → MeetsLater id calls c states → Meets id (chase id (suc calls) (Some p) c) states
      from next later =
          let q : Spot = next.0 in
          let near : points.nearest s c ≡ Some q = next.1 in
          let there : spot_at s q.id ≡ Some q = (other_of s c q near).there in
          meets_as id _ _ states (asked id calls (Some p) c (Some q) states e near)
          (subst (λ (plan : Plan). Meets id plan states) (sym (found_one id calls (Some p) c q there)) (by q near there later (int_eq q.id p.id) refl))
        where
          by : (q : Spot) → points.nearest s c ≡ Some q → spot_at s q.id ≡ Some q → MeetsLater id calls c states → (b : Bool) → int_eq q.id p.id ≡ b → Meets id (if b then merging_both id p c else chase id calls (Some c) q) states
          by q near there later true same = both_meet id p c states _ (other_of s p c link.2).other (pair_of p c q link near same)
          by q near there later false apart =
              let less : rank s (pk c q) n < rank s (pk p c) n = rank_falls p c q link.0 near (falls s p c q link.1 link.2 near apart) in
              later q near there (omega arith)

  -- ---- from the point of an item

  -- there is no other point
  abbrev pub Alone : Spot → Type 0
  Alone c = (r : Spot) → IsOther s c r → ⊥

  none_found : (id : ℤ) (calls : ℕ) (o : Option Spot) (c : Spot) → with_nearest id (chase id calls) o c (nearest_reply None) ≡ Done
  none_found id calls o c = ap (λ (b : Bool). if b then Done else going_to id (chase id calls) o c (spot_of_reply (nearest_reply None))) (int_same (negsuc 0))

  pub begins : (id : ℤ) (c : Spot) (states : ℕ → State) → states 0 ≡ s → spot_at s c.id ≡ Some c
      → (Alone c × Same (chase id (suc n) None c) Done states) ⊎ Meets id (chase id (suc n) None c) states
  begins id c states e there = by (points.nearest s c) refl
    where
      by : (found : Option Spot) → points.nearest s c ≡ found → (Alone c × Same (chase id (suc n) None c) Done states) ⊎ Meets id (chase id (suc n) None c) states
      by None near =
          let is : IsNearest s c None = subst (IsNearest s c) near (nearest-is s c) in
          inl (is, subst (λ (plan : Plan). Same (chase id (suc n) None c) plan states) (none_found id n None c) (asked id n None c None states e near))
      by (Some q) near =
          let found : spot_at s q.id ≡ Some q = (other_of s c q near).there in
          inr (meets_as id _ _ states (asked id n None c (Some q) states e near)
          (subst (λ (plan : Plan). Meets id plan states) (sym (found_one id n None c q found))
          (chase-meets id n c q states e (found, there, near) (rank_below c q there near))))

  -- ---- a greater bound changes nothing

  -- what is left of a chain after a call of `nearest`
  goes_same : (id : ℤ) (a b : ℕ) (o : Option Spot) (c q : Spot) (states : ℕ → State) (r : Reply) → spot_at s q.id ≡ Some q → r ≡ nearest_reply (Some q)
      → body (going_to id (chase id b) o c q) states ≡ body (going_to id (chase id a) o c q) states
      → body (with_nearest id (chase id b) o c r) states ≡ body (with_nearest id (chase id a) o c r) states
  goes_same id a b o c q states r there e going =
      ap (λ (x : Reply). body (with_nearest id (chase id b) o c x) states) e
      ∙ ap (λ (plan : Plan). body plan states) (found_one id b o c q there)
      ∙ going
      ∙ sym (ap (λ (plan : Plan). body plan states) (found_one id a o c q there))
      ∙ sym (ap (λ (x : Reply). body (with_nearest id (chase id a) o c x) states) e)

  -- the chain goes on from c
  abbrev SameLater : ℤ → (a b : ℕ) → Spot → Type 0
  SameLater id a b c = (q : Spot) → points.nearest s c ≡ Some q → spot_at s q.id ≡ Some q → (after : ℕ → State) → after 0 ≡ s → rank s (pk c q) n < a
      → body (chase id b (Some c) q) after ≡ body (chase id a (Some c) q) after

  chase-same : (id : ℤ) (a b : ℕ) (p c : Spot) (states : ℕ → State) → states 0 ≡ s → Link s (Some p) c → rank s (pk p c) n < a → a ≤ b
      → body (chase id b (Some p) c) states ≡ body (chase id a (Some p) c) states
  chase-same id zero b p c states e link l m = absurd (omega arith)
  chase-same id (suc a) zero p c states e link l m = absurd (omega arith)
  chase-same id (suc a) (suc b) p c states e link l m =
      from (next_of p c link (points.nearest s c) refl) (λ q near there after f less. chase-same id a b c q after f (there, link.0, near) less (omega arith))
    where
      from : ((q : Spot) × (points.nearest s c ≡ Some q)) → SameLater id a b c → body (chase id (suc b) (Some p) c) states ≡ body (chase id (suc a) (Some p) c) states
      from next later =
          let q : Spot = next.0 in
          let near : points.nearest s c ≡ Some q = next.1 in
          let there : spot_at s q.id ≡ Some q = (other_of s c q near).there in
          let replied : reply_to (states 0) (nearest c) ≡ nearest_reply (Some q) = ap (λ (t : State). reply_to t (nearest c)) e ∙ reply_nearest s c are.are_points ∙ ap nearest_reply near in
          let left : next_state (states 0) (nearest c) ≡ s = ap (λ (t : State). next_state t (nearest c)) e ∙ next_nearest s c are.are_points in
          call_same 0 (nearest c) (λ reply. with_nearest id (chase id b) (Some p) c reply) (λ reply. with_nearest id (chase id a) (Some p) c reply) states
          (goes_same id a b (Some p) c q (put states 0 (next_state (states 0) (nearest c))) (reply_to (states 0) (nearest c)) there replied
          (by q near there later (put states 0 (next_state (states 0) (nearest c))) left (int_eq q.id p.id) refl))
        where
          by : (q : Spot) → points.nearest s c ≡ Some q → spot_at s q.id ≡ Some q → SameLater id a b c → (after : ℕ → State) → after 0 ≡ s → (t : Bool) → int_eq q.id p.id ≡ t
              → body (if t then merging_both id p c else chase id b (Some c) q) after ≡ body (if t then merging_both id p c else chase id a (Some c) q) after
          by q near there later after f true same = refl
          by q near there later after f false apart =
              let less : rank s (pk c q) n < rank s (pk p c) n = rank_falls p c q link.0 near (falls s p c q link.1 link.2 near apart) in
              later q near there after f (omega arith)

  pub begins-same : (id : ℤ) (b : ℕ) (c : Spot) (states : ℕ → State) → states 0 ≡ s → spot_at s c.id ≡ Some c → n ≤ b
      → body (chase id (suc b) None c) states ≡ body (chase id (suc n) None c) states
  begins-same id b c states e there m = by (points.nearest s c) refl
    where
      after : ℕ → State
      after = put states 0 (next_state (states 0) (nearest c))

      left : after 0 ≡ s
      left = ap (λ (t : State). next_state t (nearest c)) e ∙ next_nearest s c are.are_points

      replied : (found : Option Spot) → points.nearest s c ≡ found → reply_to (states 0) (nearest c) ≡ nearest_reply found
      replied found near = ap (λ (t : State). reply_to t (nearest c)) e ∙ reply_nearest s c are.are_points ∙ ap nearest_reply near

      by : (found : Option Spot) → points.nearest s c ≡ found → body (chase id (suc b) None c) states ≡ body (chase id (suc n) None c) states
      by None near =
          call_same 0 (nearest c) (λ reply. with_nearest id (chase id b) None c reply) (λ reply. with_nearest id (chase id n) None c reply) states
          (ap (λ (x : Reply). body (with_nearest id (chase id b) None c x) after) (replied None near)
          ∙ ap (λ (plan : Plan). body plan after) (none_found id b None c ∙ sym (none_found id n None c))
          ∙ sym (ap (λ (x : Reply). body (with_nearest id (chase id n) None c x) after) (replied None near)))
      by (Some q) near =
          let found : spot_at s q.id ≡ Some q = (other_of s c q near).there in
          call_same 0 (nearest c) (λ reply. with_nearest id (chase id b) None c reply) (λ reply. with_nearest id (chase id n) None c reply) states
          (goes_same id n b None c q after (reply_to (states 0) (nearest c)) found (replied (Some q) near)
          (chase-same id n b c q after left (found, there, near) (rank_below c q there near) m))

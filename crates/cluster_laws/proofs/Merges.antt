-- What two points that are each other's nearest become.
use Rattle.std.proofs.Common.{◌≡◌, ℕ, ℤ, pos, Bool, true, false, if◌then◌else◌, Option, Some, None, List, [], ◌∷◌, refl, sym, ap, subst, ◌∙◌}
use Rattle.std.specs.Prelude.{◌+ℤ◌, ◌||◌, int_le, int_lt, cond}
use Rattle.std.specs.Ordering.{int_eq}
use Rattle.gx_base.specs.declared.calls.Spot.{Spot}
use Rattle.gx_base.specs.declared.items.Item.{Item}
use Rattle.gx_base.specs.Meanings.{number_reply}
use Rattle.gx_base.specs.Plans.{Plan, Push, Done}
use Rattle.gx_base.specs.PointKind.{spot_of, spot_at}
use Rattle.gx_base.specs.SerialIterations.{body}
use Rattle.gx_base.specs.States.{State, row_at, with_row, number_at, with_number}
use Rattle.gx_base.specs.Steps.{next_state}
use Rattle.gx_base.proofs.CallerLemmas.{row_at-with, row_at-same, number_at-same, number_at-other, same_row-sort}
use Rattle.kd_points.specs.NearestPoints.{spot_at-with}
use Rattle.clustering.specs.declared.stages.Merge.{Merge}
use Rattle.clustering.specs.PointCalls.{add, remove, read, set}
use Rattle.clustering.specs.Chain.{id_item, weighing, with_first_weight, with_weights, merging, merge_of, into_key, weight_key}
use Rattle.cluster_laws.specs.MutualPairs.{AreMutual}
use Rattle.cluster_laws.proofs.Calls.{ArePoints, AreCells, place, int_same, remove_next, add_next, next_read, reply_read, set_next}
use Rattle.cluster_laws.proofs.Runs.{Same, same_then, looked}
use Rattle.cluster_laws.proofs.Takings.{still_there}

-- ---- up to the merge

pub weighs : (id : ℤ) (u v : Spot) (states : ℕ → State) (a b : ℤ) → AreCells (states 1) → number_at (states 1) (0, u.id) ≡ a → number_at (states 1) (0, v.id) ≡ b → int_le (a +ℤ b) (pos 0) ≡ false
    → Same (weighing id u v) (merging (merge_of id u a v b)) states
weighs id u v states a b k e f positive =
    let first : Same (weighing id u v) (with_first_weight id u v a) states =
    looked 1 (read u.id) (λ reply. with_first_weight id u v reply.p) states (number_reply a) (next_read (states 1) u.id k) (reply_read (states 1) u.id k ∙ ap number_reply e) in
    let second : Same (with_first_weight id u v a) (with_weights id u a v b) states =
    looked 1 (read v.id) (λ reply. with_weights id u a v reply.p) states (number_reply b) (next_read (states 1) v.id k) (reply_read (states 1) v.id k ∙ ap number_reply f) in
    let last : with_weights id u a v b ≡ merging (merge_of id u a v b) = ap (λ (t : Bool). if t then Done else merging (merge_of id u a v b)) positive in
    same_then (weighing id u v) (with_first_weight id u v a) (merging (merge_of id u a v b)) states first
    (subst (λ (plan : Plan). Same (with_first_weight id u v a) plan states) last second)

-- ---- the merge

own_states : (b : Bool) (item : Item) (states : ℕ → State) → (body (if b then Done else Push item Done) states).states ≡ states
unfolding body
own_states true item states = refl
own_states false item states = refl

own_pushes : (b : Bool) (item : Item) (states : ℕ → State) → (body (if b then Done else Push item Done) states).outcome.pushes ≡ (if b then [] else item ∷ [])
unfolding body
own_pushes true item states = refl
own_pushes false item states = refl

abbrev pub points_after : State → Merge → State
points_after s m = next_state (next_state (next_state s (remove m.first)) (remove m.second)) (add m.merged)

abbrev pub cells_after : State → Merge → State
cells_after w m = next_state (next_state (next_state w (set m.first.id m.weight)) (set (into_key m.second.id) m.first.id)) (set (weight_key m.second.id) m.weight)

abbrev pub is_own : Merge → Bool
is_own m = int_eq m.id m.first.id || int_eq m.id m.second.id

pub merging_points : (m : Merge) (states : ℕ → State) → (body (merging m) states).states 0 ≡ points_after (states 0) m
unfolding body
merging_points m states = ap (λ (after : ℕ → State). after 0) (own_states (is_own m) (id_item m.id) _)

pub merging_cells : (m : Merge) (states : ℕ → State) → (body (merging m) states).states 1 ≡ cells_after (states 1) m
unfolding body
merging_cells m states = ap (λ (after : ℕ → State). after 1) (own_states (is_own m) (id_item m.id) _)

pub merging_pushes : (m : Merge) (states : ℕ → State) → (body (merging m) states).outcome.pushes ≡ id_item m.first.id ∷ (if is_own m then [] else id_item m.id ∷ [])
unfolding body
merging_pushes m states = ap (λ (pushes : List Item). id_item m.first.id ∷ pushes) (own_pushes (is_own m) (id_item m.id) _)

-- ---- the points after it

none_by : (b : Bool) (o : Option (List ℤ)) → o ≡ None → cond b None o ≡ None
none_by true o e = refl
none_by false o e = e

module _ (s : State) (m : Merge) (k : ArePoints s) (pair : AreMutual s m.first m.second) (apart : int_eq m.second.id m.first.id ≡ false) where
  abbrev without_first : State
  without_first = with_row s (0, m.first.id) None

  abbrev without_both : State
  without_both = with_row without_first (0, m.second.id) None

  abbrev with_merged : State
  with_merged = with_row without_both (0, m.first.id) (Some (place m.merged))

  free : row_at without_both (0, m.first.id) ≡ None
  free = row_at-with without_first (0, m.second.id) None (0, m.first.id) ∙ none_by _ _ (row_at-same s (0, m.first.id) None)

  pub points-are : m.merged.id ≡ m.first.id → int_lt m.first.id (pos 0) ≡ false → int_eq m.merged.z (pos 0) ≡ true → points_after s m ≡ with_merged
  points-are own low flat =
      let first : next_state s (remove m.first) ≡ without_first = remove_next s m.first k pair.first in
      let second : next_state without_first (remove m.second) ≡ without_both = remove_next without_first m.second k (still_there s m.first m.second apart pair.second) in
      let third : next_state without_both (add m.merged) ≡ with_row without_both (0, m.merged.id) (Some (place m.merged)) =
      add_next without_both m.merged k (ap (λ (id : ℤ). row_at without_both (0, id)) own ∙ free) (ap (λ (id : ℤ). int_lt id (pos 0)) own ∙ low) flat in
      ap (λ (t : State). next_state (next_state t (remove m.second)) (add m.merged)) first
      ∙ ap (λ (t : State). next_state t (add m.merged)) second
      ∙ third
      ∙ ap (λ (id : ℤ). with_row without_both (0, id) (Some (place m.merged))) own

  pub merged_there : m.merged.id ≡ m.first.id → spot_at with_merged m.first.id ≡ Some m.merged
  merged_there own =
      spot_at-with without_both m.first.id (Some (place m.merged)) m.first.id
      ∙ ap (λ (b : Bool). cond b (spot_of m.first.id (Some (place m.merged))) (spot_at without_both m.first.id)) (int_same m.first.id)
      ∙ ap (λ (id : ℤ). spot_of id (Some (place m.merged))) (sym own)

  pub second_gone : spot_at with_merged m.second.id ≡ None
  second_gone =
      spot_at-with without_both m.first.id (Some (place m.merged)) m.second.id
      ∙ ap (λ (b : Bool). cond b (spot_of m.second.id (Some (place m.merged))) (spot_at without_both m.second.id)) apart
      ∙ spot_at-with without_first m.second.id None m.second.id
      ∙ ap (λ (b : Bool). cond b (spot_of m.second.id None) (spot_at without_first m.second.id)) (int_same m.second.id)

  pub others_stay : (y : ℤ) → int_eq y m.first.id ≡ false → int_eq y m.second.id ≡ false → spot_at with_merged y ≡ spot_at s y
  others_stay y e f =
      spot_at-with without_both m.first.id (Some (place m.merged)) y
      ∙ ap (λ (b : Bool). cond b (spot_of y (Some (place m.merged))) (spot_at without_both y)) e
      ∙ spot_at-with without_first m.second.id None y
      ∙ ap (λ (b : Bool). cond b (spot_of y None) (spot_at without_first y)) f
      ∙ spot_at-with s m.first.id None y
      ∙ ap (λ (b : Bool). cond b (spot_of y None) (spot_at s y)) e

-- ---- the cells after it

module _ (w : State) (m : Merge) (k : AreCells w) where
  abbrev with_weight : State
  with_weight = with_number w (0, m.first.id) m.weight

  abbrev with_into : State
  with_into = with_number with_weight (0, into_key m.second.id) m.first.id

  abbrev with_all : State
  with_all = with_number with_into (0, weight_key m.second.id) m.weight

  pub cells-are : cells_after w m ≡ with_all
  cells-are =
      ap (λ (t : State). next_state (next_state t (set (into_key m.second.id) m.first.id)) (set (weight_key m.second.id) m.weight)) (set_next w m.first.id m.weight k)
      ∙ ap (λ (t : State). next_state t (set (weight_key m.second.id) m.weight)) (set_next with_weight (into_key m.second.id) m.first.id k)
      ∙ set_next with_into (weight_key m.second.id) m.weight k

  past_keys : (y : ℤ) → int_eq y (into_key m.second.id) ≡ false → int_eq y (weight_key m.second.id) ≡ false → number_at with_all (0, y) ≡ number_at with_weight (0, y)
  past_keys y e f =
      number_at-other with_into (0, weight_key m.second.id) (0, y) m.weight (same_row-sort 0 y (weight_key m.second.id) ∙ f)
      ∙ number_at-other with_weight (0, into_key m.second.id) (0, y) m.first.id (same_row-sort 0 y (into_key m.second.id) ∙ e)

  pub first_weight : int_eq m.first.id (into_key m.second.id) ≡ false → int_eq m.first.id (weight_key m.second.id) ≡ false → number_at with_all (0, m.first.id) ≡ m.weight
  first_weight e f = past_keys m.first.id e f ∙ number_at-same w (0, m.first.id) m.weight

  pub other_weight : (y : ℤ) → int_eq y m.first.id ≡ false → int_eq y (into_key m.second.id) ≡ false → int_eq y (weight_key m.second.id) ≡ false → number_at with_all (0, y) ≡ number_at w (0, y)
  other_weight y d e f = past_keys y e f ∙ number_at-other w (0, m.first.id) (0, y) m.weight (same_row-sort 0 y m.first.id ∙ d)

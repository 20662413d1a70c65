-- The spots of a list that become points, and the tree that they make.
use Rattle.std.specs.Prelude.{◌≡◌, ℕ, zero, suc, ℤ, Bool, true, false, not, cond, ◌&&◌, Option, Some, None, List, [], ◌∷◌, ◌++◌, is_some, if◌then◌else◌, refl, ◌⊎◌}
use Rattle.std.proofs.Common.{sym, ◌∙◌, ap, subst, arith, inl, inr}
use Rattle.std.specs.FinMap as map
use Rattle.std.specs.HashSet.{contains}
use Rattle.std.specs.List.{Contains, list_any}
use Rattle.std.specs.Ordering.{int_eq}
use Rattle.std.proofs.lemmas.List.Elements.{Contains-append_left, Contains-append_right, Contains-append_cases}
use Rattle.gx_base.specs.declared.calls.Spot.{Spot}
use Rattle.gx_base.specs.declared.kinds.Kind.TheVariants.{Points}
use Rattle.gx_base.specs.Kinds.{kind_number}
use Rattle.gx_base.specs.PointKind.{spot_at, may_add}
use Rattle.gx_base.specs.RowActions.{same_content, turns}
use Rattle.gx_base.specs.States.{State, row_cmp, row_at, with_row}
use Rattle.gx_base.specs.Steps.{next_state}
use Rattle.gx_base.proofs.CallerLemmas.{row_cmp_total, row_cmp-IsAntisymmetric, same_row, same_row-is, same_row-sort, row_at-with}
use Rattle.kd_points.specs.declared.choosing.Chosen.{Chosen}
use Rattle.point_trees.specs.declared.tree.Tree.{Tree}
use Rattle.point_trees.specs.TreeStates.{place, tree_state}
use Rattle.point_trees.specs.Rebuilding.{HaveOwnIds, IsMadeOf}
use Rattle.kd_points.specs.PointsState.{no_points, add_call, with_added}
use Rattle.kd_points.specs.PointLists.{ArePoints, IsChosen}
use Rattle.point_trees.proofs.CallerLemmas.{same_int, int_eq-of, int_eq-comm, false_of, not_both, with_rows, other_rows, place_row, row-spot, spot_id, contains_one, one_of, own_none, own_more}

-- no points
pub none_chosen : (points : List Spot) → points ≡ [] → ArePoints no_points points
none_chosen points e = record {
  kind = refl;
  own = subst HaveOwnIds (sym e) own_none;
  only = λ r h. absurd (let h' : Contains [] r = subst (λ xs. Contains xs r) e h in let b = h'.1 in omega arith);
  every = λ key t. absurd (not_both (is_some (map.get map.empty key)) t (ap is_some (map.get-empty row_cmp key)));
}

-- what an add does to points
added_rows : (rows : map.FinMap row_cmp (List ℤ)) (r : Spot) → with_added (with_rows rows) r ≡ (if turns (may_add (add_call r)) None (with_rows rows) r.id then with_row (with_rows rows) (0, r.id) (Some (place r)) else with_rows rows)
unfolding next_state
added_rows rows r = refl

abbrev after_add : State → Spot → State
after_add s r = if turns (may_add (add_call r)) None s r.id then with_row s (0, r.id) (Some (place r)) else s

added_by : (kind : ℕ) (rows : map.FinMap row_cmp (List ℤ)) (r : Spot) → kind ≡ kind_number Points → with_added (record { kind = kind; rows = rows }) r ≡ after_add (record { kind = kind; rows = rows }) r
added_by kind rows r e = subst (λ k. with_added (record { kind = k; rows = rows }) r ≡ after_add (record { kind = k; rows = rows }) r) (sym e) (added_rows rows r)

added_is : (s : State) (r : Spot) (b : Bool) → s.kind ≡ kind_number Points → turns (may_add (add_call r)) None s r.id ≡ b → with_added s r ≡ (if b then with_row s (0, r.id) (Some (place r)) else s)
added_is s r b e t = added_by s.kind s.rows r e ∙ ap (λ c. if c then with_row s (0, r.id) (Some (place r)) else s) t

same_none : (row : Option (List ℤ)) → same_content row None ≡ not (is_some row)
same_none None = refl
same_none (Some xs) = refl

-- a point more
module _ (s : State) (points : List Spot) (r : Spot) (a : ArePoints s points) (free : is_some (row_at s (0, r.id)) ≡ false) where
  abbrev after : State
  after = with_row s (0, r.id) (Some (place r))

  row_after : (key : ℕ × ℤ) → row_at after key ≡ cond (same_row key (0, r.id)) (Some (place r)) (row_at s key)
  row_after key = row_at-with s (0, r.id) (Some (place r)) key

  other_id : (q : Spot) → Contains points q → int_eq r.id q.id ≡ false
  other_id q h = false_of (int_eq r.id q.id) (λ t. not_both (is_some (row_at s (0, r.id))) (ap (λ x. is_some (row_at s (0, x))) (same_int r.id q.id t) ∙ ap is_some (a.only q h)) free)

  only_after : (q : Spot) → Contains points q ⊎ Contains (r ∷ []) q → row_at after (0, q.id) ≡ Some (place q)
  only_after q (inl h) = row_after (0, q.id) ∙ ap (λ b. cond b (Some (place r)) (row_at s (0, q.id))) (same_row-sort 0 q.id r.id ∙ int_eq-comm q.id r.id ∙ other_id q h) ∙ a.only q h
  only_after q (inr h) =
      let e : r ≡ q = contains_one r q h in
      row_after (0, q.id) ∙ ap (λ b. cond b (Some (place r)) (row_at s (0, q.id))) (same_row-sort 0 q.id r.id ∙ int_eq-of q.id r.id (ap (λ (x : Spot). x.id) (sym e))) ∙ ap (λ (x : Spot). Some (place x)) e

  every_after : (key : ℕ × ℤ) (b : Bool) → same_row key (0, r.id) ≡ b → is_some (cond b (Some (place r)) (row_at s key)) ≡ true → (q : Spot) × Contains (points ++ r ∷ []) q × (key ≡ (0, q.id))
  every_after key true e t = (r, Contains-append_right points (r ∷ []) r (one_of r), same_row-is key (0, r.id) e)
  every_after key false e t = let x = a.every key t in (x.0, Contains-append_left points (r ∷ []) x.0 x.1, x.2)

  pub one_more_point : (more : List Spot) → more ≡ points ++ r ∷ [] → ArePoints after more
  one_more_point more e = subst (ArePoints after) (sym e) (record {
    kind = a.kind;
    own = own_more points r a.own other_id;
    only = λ q h. only_after q (Contains-append_cases points (r ∷ []) q h);
    every = λ key t. every_after key (same_row key (0, r.id)) refl (sym (ap is_some (row_after key)) ∙ t);
  })

  pub noted_after : (id : ℤ) (b : Bool) → int_eq r.id id ≡ b → cond b true (is_some (row_at s (0, id))) ≡ is_some (row_at after (0, id))
  noted_after id true e = sym (ap is_some (row_after (0, id) ∙ ap (λ b. cond b (Some (place r)) (row_at s (0, id))) (same_row-sort 0 id r.id ∙ int_eq-comm id r.id ∙ e)))
  noted_after id false e = sym (ap is_some (row_after (0, id) ∙ ap (λ b. cond b (Some (place r)) (row_at s (0, id))) (same_row-sort 0 id r.id ∙ int_eq-comm id r.id ∙ e)))

-- the tree of these points is in this state
module _ (s : State) (points : List Spot) (tree : Tree) (a : ArePoints s points) (m : IsMadeOf points tree) where
  tree_row : (id : ℤ) (found : Option Spot) (row : Option (List ℤ)) → spot_at (tree_state tree) id ≡ found → row_at s (0, id) ≡ row → place_row found ≡ row
  tree_row id (Some r) row e f =
      let named : r.id ≡ id = spot_id tree id r e in
      sym (ap (λ x. row_at s (0, x)) (sym named) ∙ a.only r (m.none_else r (ap (spot_at (tree_state tree)) named ∙ e))) ∙ f
  tree_row id None None e f = refl
  tree_row id None (Some xs) e f = absurd (missed (a.every (0, id) (ap is_some f)))
    where
      missed : ((r : Spot) × Contains points r × (◌≡◌ {A = ℕ × ℤ} (0, id) (0, r.id))) → ⊥
      missed x = not_both (is_some (spot_at (tree_state tree) id)) (ap (λ (k : ℕ × ℤ). is_some (spot_at (tree_state tree) k.1)) x.2 ∙ m.all x.0 x.1) (ap is_some e)

  other_row : (i : ℕ) (k : ℤ) (row : Option (List ℤ)) → (i ≡ 0 → ⊥) → row_at s (i, k) ≡ row → row ≡ None
  other_row i k None n e = refl
  other_row i k (Some xs) n e = absurd (n (ap (λ (key : ℕ × ℤ). key.0) (a.every (i, k) (ap is_some e)).2))

  rows_same : (i : ℕ) (k : ℤ) → row_at (tree_state tree) (i, k) ≡ row_at s (i, k)
  rows_same zero k = row-spot tree k ∙ tree_row k (spot_at (tree_state tree) k) (row_at s (0, k)) refl refl
  rows_same (suc i) k = other_rows tree (suc i) k (λ e. absurd (cc)) ∙ sym (other_row (suc i) k (row_at s (suc i, k)) (λ e. absurd (cc)) refl)

  pub made_state : tree_state tree ≡ s
  made_state = λ i. record { kind = sym a.kind i; rows = map.same_map row_cmp_total row_cmp-IsAntisymmetric (tree_state tree).rows s.rows (λ q. rows_same q.0 q.1) i }

-- nothing is chosen yet
pub none_yet : (chosen : Chosen) → chosen.spots.items ≡ [] → chosen.numbers.keys ≡ [] → IsChosen no_points chosen
none_yet chosen e f = record { points = none_chosen chosen.spots.items e; noted = λ id. ap (list_any (int_eq id)) f ∙ sym (ap is_some (map.get-empty row_cmp (0, id))) }

both_false : (b c : Bool) → c ≡ false → (b && c) ≡ false
both_false true c e = e
both_false false c e = refl

pub not_off : (b : Bool) → not b ≡ false → b ≡ true
not_off true e = refl
not_off false e = absurd (cc)

module _ (s : State) (old new : Chosen) (r : Spot) (number : ℤ) (same_id : number ≡ r.id) (h : IsChosen s old) where
  -- one spot more
  pub chosen_more : may_add (add_call r) ≡ true → contains int_eq old.numbers number ≡ false → new.spots.items ≡ old.spots.items ++ r ∷ [] → ((id : ℤ) → contains int_eq new.numbers id ≡ cond (int_eq number id) true (contains int_eq old.numbers id))
      → IsChosen (with_added s r) new
  chosen_more may free more ids = subst (λ t. IsChosen t new) (sym (added_is s r true h.points.kind turned)) (record {
    points = one_more_point s old.spots.items r h.points none new.spots.items more;
    noted = λ id. ids id ∙ ap (λ x. cond (int_eq x id) true (contains int_eq old.numbers id)) same_id ∙ ap (cond (int_eq r.id id) true) (h.noted id) ∙ noted_after s old.spots.items r h.points none id (int_eq r.id id) refl;
  })
    where
      none : is_some (row_at s (0, r.id)) ≡ false
      none = sym (h.noted r.id) ∙ ap (contains int_eq old.numbers) (sym same_id) ∙ free

      turned : turns (may_add (add_call r)) None s r.id ≡ true
      turned = ap (λ b. b && same_content (row_at s (0, r.id)) None) may ∙ same_none (row_at s (0, r.id)) ∙ ap not none

  still : turns (may_add (add_call r)) None s r.id ≡ false → new.spots.items ≡ old.spots.items → ((id : ℤ) → contains int_eq new.numbers id ≡ contains int_eq old.numbers id) → IsChosen (with_added s r) new
  still t same ids = subst (λ t. IsChosen t new) (sym (added_is s r false h.points.kind t)) (record { points = subst (ArePoints s) (sym same) h.points; noted = λ id. ids id ∙ h.noted id })

  -- one that may be no point
  pub chosen_without : may_add (add_call r) ≡ false → new ≡ old → IsChosen (with_added s r) new
  chosen_without may e = still (ap (λ b. b && same_content (row_at s (0, r.id)) None) may) (ap (λ (c : Chosen). c.spots.items) e) (λ id. ap (λ (c : Chosen). contains int_eq c.numbers id) e)

  -- one whose id is another's
  pub chosen_before : contains int_eq old.numbers number ≡ true → new.spots.items ≡ old.spots.items → ((id : ℤ) → contains int_eq new.numbers id ≡ cond (int_eq number id) true (contains int_eq old.numbers id)) → IsChosen (with_added s r) new
  chosen_before held same ids = still (both_false (may_add (add_call r)) (same_content (row_at s (0, r.id)) None) (same_none (row_at s (0, r.id)) ∙ ap not (sym (h.noted r.id) ∙ ap (contains int_eq old.numbers) (sym same_id) ∙ held))) same (λ id. ids id ∙ by_id id (int_eq number id) refl)
    where
      by_id : (id : ℤ) (b : Bool) → int_eq number id ≡ b → cond b true (contains int_eq old.numbers id) ≡ contains int_eq old.numbers id
      by_id id true t = sym (ap (contains int_eq old.numbers) (sym (same_int number id t)) ∙ held)
      by_id id false t = refl

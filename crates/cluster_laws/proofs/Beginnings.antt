-- What holds of points and of their weights at the start of a run.
use Rattle.std.proofs.Common.{◌≡◌, ◌⊎◌, inl, inr, ℕ, suc, ◌+◌, ◌<◌, ◌≤◌, ℤ, pos, Bool, true, false, nat_lt, Some, None, List, [], ◌∷◌, length, refl, sym, ap, subst, ◌∙◌, arith}
use Rattle.std.specs.Prelude.{unsigned_abs, cond}
use Rattle.std.specs.FinMap as finite
use Rattle.std.specs.List.{fold}
use Rattle.std.specs.Ordering.{int_eq}
use Rattle.std.proofs.lemmas.Bool.{ltb-true, ltb-false, cases_lt}
use Rattle.gx_base.specs.declared.calls.Spot.{Spot}
use Rattle.gx_base.specs.PointKind.{spot_of, spot_at}
use Rattle.gx_base.specs.States.{State, row_cmp, row_at, with_row, number_at, with_number}
use Rattle.gx_base.specs.Worklists.{has_item, with_items}
use Rattle.gx_base.proofs.CallerLemmas.{row_at-with, same_row-sort, number_at-same, number_at-other, same_int, kind-next_state}
use Rattle.kd_points.specs.NearestPoints.{spot_at-with, some_is, some_none}
use Rattle.clustering.specs.PointCalls.{add}
use Rattle.clustering.specs.PointRows.{Coordinates}
use Rattle.clustering.specs.PointFiles.{spot_in, numbered_spots}
use Rattle.clustering.specs.Chain.{id_item}
use Rattle.clustering.specs.Starts.{no_points, no_cells, added, weighing_one, start_points, start_weights, start_states, start_ready}
use Rattle.cluster_laws.proofs.Bodies.{HoldsBetween}
use Rattle.cluster_laws.proofs.Calls.{ArePoints, AreCells, place, int_same, add_next, set_next}
use Rattle.cluster_laws.proofs.Clouds.{IsCloud, int_apart, not_negative}
use Rattle.cluster_laws.proofs.Counts.{no_bool, bit, total_units}
use Rattle.cluster_laws.proofs.Items.{entered, first_of, later_of}

-- ---- the points

-- the points with the numbers below m are there, in the plane, and no others
record AreBelow (m : ℕ) (s : State) : Type 0 where
  are_points : ArePoints s
  there : (k : ℕ) → k < m → (r : Spot) × (spot_at s (pos k) ≡ Some r)
  number : (id : ℤ) (r : Spot) → spot_at s id ≡ Some r → (k : ℕ) × (k < m) × (id ≡ pos k)
  flat : (id : ℤ) (r : Spot) → spot_at s id ≡ Some r → r.z ≡ pos 0
  free : (k : ℕ) → m ≤ k → row_at s (0, pos k) ≡ None

none_below : AreBelow 0 no_points
none_below = record {
  are_points = refl;
  there = λ k l. absurd (omega arith);
  number = λ id r e. absurd (some_none r (sym (ap (spot_of id) (finite.get-empty row_cmp (0, id))) ∙ e));
  flat = λ id r e. absurd (some_none r (sym (ap (spot_of id) (finite.get-empty row_cmp (0, id))) ∙ e));
  free = λ k l. finite.get-empty row_cmp (0, pos k);
}

module _ (m : ℕ) (s : State) (below : AreBelow m s) (p : Coordinates) where
  abbrev with_one : State
  with_one = with_row s (0, pos m) (Some (place (spot_in m p)))

  is_with_one : added s (spot_in m p) ≡ with_one
  is_with_one = add_next s (spot_in m p) below.are_points (below.free m (omega arith)) (not_negative m) refl

  at_it : (id : ℤ) → int_eq id (pos m) ≡ true → spot_at with_one id ≡ Some (record { id = id; x = p.0; y = p.1; z = pos 0 })
  at_it id e = spot_at-with s (pos m) (Some (place (spot_in m p))) id ∙ ap (λ (b : Bool). cond b (spot_of id (Some (place (spot_in m p)))) (spot_at s id)) e

  at_other : (id : ℤ) → int_eq id (pos m) ≡ false → spot_at with_one id ≡ spot_at s id
  at_other id e = spot_at-with s (pos m) (Some (place (spot_in m p))) id ∙ ap (λ (b : Bool). cond b (spot_of id (Some (place (spot_in m p)))) (spot_at s id)) e

  below_more : AreBelow (suc m) with_one
  below_more = record { are_points = below.are_points; there = there; number = number; flat = flat; free = free }
    where
      there : (k : ℕ) → k < suc m → (r : Spot) × (spot_at with_one (pos k) ≡ Some r)
      there k l = by (int_eq (pos k) (pos m)) refl
        where
          by : (b : Bool) → int_eq (pos k) (pos m) ≡ b → (r : Spot) × (spot_at with_one (pos k) ≡ Some r)
          by true e = (record { id = pos k; x = p.0; y = p.1; z = pos 0 }, at_it (pos k) e)
          by false e = from (cases_lt k m)
            where
              from : (k < m) ⊎ (m ≤ k) → (r : Spot) × (spot_at with_one (pos k) ≡ Some r)
              from (inl less) = let old : (r : Spot) × (spot_at s (pos k) ≡ Some r) = below.there k less in (old.0, at_other (pos k) e ∙ old.1)
              from (inr more) =
                  let is : k ≡ m = omega arith in
                  absurd (no_bool (int_eq (pos k) (pos m)) (ap (λ (x : ℕ). int_eq (pos x) (pos m)) is ∙ int_same (pos m)) e)

      number : (id : ℤ) (r : Spot) → spot_at with_one id ≡ Some r → (k : ℕ) × (k < suc m) × (id ≡ pos k)
      number id r there = by (int_eq id (pos m)) refl
        where
          by : (b : Bool) → int_eq id (pos m) ≡ b → (k : ℕ) × (k < suc m) × (id ≡ pos k)
          by true e = let l : m < suc m = omega arith in (m, l, same_int id (pos m) e)
          by false e =
              let old : (k : ℕ) × (k < m) × (id ≡ pos k) = below.number id r (sym (at_other id e) ∙ there) in
              let less : old.0 < m = old.1 in
              let l : old.0 < suc m = omega arith in
              (old.0, l, old.2)

      flat : (id : ℤ) (r : Spot) → spot_at with_one id ≡ Some r → r.z ≡ pos 0
      flat id r there = by (int_eq id (pos m)) refl
        where
          by : (b : Bool) → int_eq id (pos m) ≡ b → r.z ≡ pos 0
          by true e = ap (λ (t : Spot). t.z) (some_is r (record { id = id; x = p.0; y = p.1; z = pos 0 }) (sym there ∙ at_it id e))
          by false e = below.flat id r (sym (at_other id e) ∙ there)

      free : (k : ℕ) → suc m ≤ k → row_at with_one (0, pos k) ≡ None
      free k l =
          row_at-with s (0, pos m) (Some (place (spot_in m p))) (0, pos k)
          ∙ ap (λ (b : Bool). cond b (Some (place (spot_in m p))) (row_at s (0, pos k))) (same_row-sort 0 (pos k) (pos m) ∙ int_apart k m (λ e. omega arith))
          ∙ below.free k (omega arith)

all_below : (places : List Coordinates) (m : ℕ) (s : State) → AreBelow m s → AreBelow (m + length places) (fold added s (numbered_spots m places))
all_below [] m s below = let e : m ≡ m + 0 = omega arith in subst (λ (n : ℕ). AreBelow n s) e below
all_below (p ∷ places) m s below =
    let e : suc m + length places ≡ m + suc (length places) = omega arith in
    subst (λ (n : ℕ). AreBelow n (fold added (added s (spot_in m p)) (numbered_spots (suc m) places))) e
    (all_below places (suc m) (added s (spot_in m p)) (subst (AreBelow (suc m)) (sym (is_with_one m s below p)) (below_more m s below p)))

-- ---- their weights

-- the weights of the numbers below m are 1
abbrev AreUnits : ℕ → State → Type 0
AreUnits m w = AreCells w × ((k : ℕ) → k < m → number_at w (0, pos k) ≡ pos 1)

units_more : (m : ℕ) (w : State) (p : Coordinates) → AreUnits m w → AreUnits (suc m) (weighing_one w (spot_in m p))
units_more m w p h = subst (AreUnits (suc m)) (sym (set_next w (pos m) (pos 1) h.0)) (h.0, λ k l. by k l (int_eq (pos k) (pos m)) refl)
  where
    by : (k : ℕ) → k < suc m → (b : Bool) → int_eq (pos k) (pos m) ≡ b → number_at (with_number w (0, pos m) (pos 1)) (0, pos k) ≡ pos 1
    by k l true e = ap (λ (x : ℤ). number_at (with_number w (0, pos m) (pos 1)) (0, x)) (same_int (pos k) (pos m) e) ∙ number_at-same w (0, pos m) (pos 1)
    by k l false e = number_at-other w (0, pos m) (0, pos k) (pos 1) (same_row-sort 0 (pos k) (pos m) ∙ e) ∙ from (cases_lt k m)
      where
        from : (k < m) ⊎ (m ≤ k) → number_at w (0, pos k) ≡ pos 1
        from (inl less) = h.1 k less
        from (inr more) =
            let is : k ≡ m = omega arith in
            absurd (no_bool (int_eq (pos k) (pos m)) (ap (λ (x : ℕ). int_eq (pos x) (pos m)) is ∙ int_same (pos m)) e)

all_units : (places : List Coordinates) (m : ℕ) (w : State) → AreUnits m w → AreUnits (m + length places) (fold weighing_one w (numbered_spots m places))
all_units [] m w h = let e : m ≡ m + 0 = omega arith in subst (λ (n : ℕ). AreUnits n w) e h
all_units (p ∷ places) m w h =
    let e : suc m + length places ≡ m + suc (length places) = omega arith in
    subst (λ (n : ℕ). AreUnits n (fold weighing_one (weighing_one w (spot_in m p)) (numbered_spots (suc m) places))) e
    (all_units places (suc m) (weighing_one w (spot_in m p)) (units_more m w p h))

-- ---- what is ready

among : (places : List Coordinates) (m k : ℕ) → m ≤ k → k < m + length places → has_item (start_ready (numbered_spots m places)) (id_item (pos k)) ≡ true
among [] m k l less = absurd (omega arith)
among (p ∷ places) m k l less = by (cases_lt m k) (λ more. among places (suc m) k (omega arith) (omega arith))
  where
    by : (m < k) ⊎ (k ≤ m) → (m < k → has_item (start_ready (numbered_spots (suc m) places)) (id_item (pos k)) ≡ true) → has_item (start_ready (numbered_spots m (p ∷ places))) (id_item (pos k)) ≡ true
    by (inl more) rest = later_of (id_item (pos m)) (id_item (pos k)) (start_ready (numbered_spots (suc m) places)) (rest more)
    by (inr here) rest =
        let is : k ≡ m = omega arith in
        subst (λ (x : ℕ). has_item (start_ready (numbered_spots m (p ∷ places))) (id_item (pos x)) ≡ true) (sym is) (first_of (id_item (pos m)) (start_ready (numbered_spots (suc m) places)))

pub length-numbered_spots : (m : ℕ) (places : List Coordinates) → length (numbered_spots m places) ≡ length places
length-numbered_spots m [] = refl
length-numbered_spots m (p ∷ places) = ap suc (length-numbered_spots (suc m) places)

-- ---- the start

abbrev one_below : ℕ → ℕ → ℕ
one_below n k = bit (nat_lt k n)

is_one : (n k : ℕ) → k < n → one_below n k ≡ 1
is_one n k l = by (nat_lt k n) refl
  where
    by : (b : Bool) → nat_lt k n ≡ b → bit b ≡ 1
    by true e = refl
    by false e = let more : n ≤ k = ltb-false k n e in absurd (omega arith)

begins_with : (places : List Coordinates) (spots : List Spot) → spots ≡ numbered_spots 0 places → HoldsBetween (length places) (start_states spots) (with_items [] (start_ready spots))
begins_with places spots are =
    subst (λ (l : List Spot). HoldsBetween (length places) (start_states l) (with_items [] (start_ready l))) (sym are) (cloud, inl waits)
  where
    below : AreBelow (length places) (start_points (numbered_spots 0 places))
    below = let e : 0 + length places ≡ length places = omega arith in subst (λ (m : ℕ). AreBelow m (start_points (numbered_spots 0 places))) e (all_below places 0 no_points none_below)

    units : AreUnits (length places) (start_weights (numbered_spots 0 places))
    units = let e : 0 + length places ≡ length places = omega arith in subst (λ (m : ℕ). AreUnits m (start_weights (numbered_spots 0 places))) e (all_units places 0 no_cells (refl, λ k l. absurd (omega arith)))

    weighs : (k : ℕ) (r : Spot) → spot_at (start_points (numbered_spots 0 places)) (pos k) ≡ Some r → (number_at (start_weights (numbered_spots 0 places)) (0, pos k) ≡ pos (one_below (length places) k)) × (0 < one_below (length places) k)
    weighs k r there =
        let number : (i : ℕ) × (i < length places) × (pos k ≡ pos i) = below.number (pos k) r there in
        let same : k ≡ number.0 = ap unsigned_abs number.2 in
        let less : number.0 < length places = number.1 in
        let l : k < length places = omega arith in
        let one : one_below (length places) k ≡ 1 = is_one (length places) k l in
        let some : 0 < one_below (length places) k = omega arith in
        (units.1 k l ∙ ap pos (sym one), some)

    absent : (k : ℕ) → spot_at (start_points (numbered_spots 0 places)) (pos k) ≡ None → one_below (length places) k ≡ 0
    absent k none = by (nat_lt k (length places)) refl
      where
        by : (b : Bool) → nat_lt k (length places) ≡ b → bit b ≡ 0
        by true e = let l : k < length places = ltb-true k (length places) e in let found : (r : Spot) × (spot_at (start_points (numbered_spots 0 places)) (pos k) ≡ Some r) = below.there k l in absurd (some_none found.0 (sym none ∙ found.1))
        by false e = refl

    cloud : IsCloud (length places) (start_states (numbered_spots 0 places))
    cloud = record {
      are = record { are_points = below.are_points; number = below.number };
      cells = units.0;
      flat = below.flat;
      weight = one_below (length places);
      weighs = weighs;
      absent = absent;
      sum = total_units (one_below (length places)) (length places) (λ k l. is_one (length places) k l);
    }

    waits : (id : ℤ) (r : Spot) → spot_at (start_points (numbered_spots 0 places)) id ≡ Some r → has_item (with_items [] (start_ready (numbered_spots 0 places))) (id_item id) ≡ true
    waits id r there =
        let number : (k : ℕ) × (k < length places) × (id ≡ pos k) = below.number id r there in
        let less : number.0 < length places = number.1 in
        subst (λ (x : ℤ). has_item (with_items [] (start_ready (numbered_spots 0 places))) (id_item x) ≡ true) (sym number.2)
        (entered [] (start_ready (numbered_spots 0 places)) (id_item (pos number.0)) (among places 0 number.0 (omega arith) (omega arith)))

-- of the points of a file
pub begins_so : (places : List Coordinates) (spots : List Spot) → spots ≡ numbered_spots 0 places → HoldsBetween (length spots) (start_states spots) (with_items [] (start_ready spots))
begins_so places spots are =
    subst (λ (n : ℕ). HoldsBetween n (start_states spots) (with_items [] (start_ready spots))) (sym (ap (λ (l : List Spot). length l) are ∙ length-numbered_spots 0 places)) (begins_with places spots are)

-- whatever the points are, their room has points
pub start-are_points : (spots : List Spot) → ArePoints (start_states spots 0)
start-are_points spots = kind_fold spots no_points
  where
    kind_fold : (l : List Spot) (s : State) → (fold added s l).kind ≡ s.kind
    kind_fold [] s = refl
    kind_fold (spot ∷ l) s = kind_fold l (added s spot) ∙ kind-next_state s (add spot)

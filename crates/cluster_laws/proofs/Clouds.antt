-- What holds of points and of their weights between two bodies, and that a merge keeps it.
use Rattle.std.proofs.Common.{◌≡◌, ◌⊎◌, inl, inr, ℕ, ◌+◌, ◌<◌, ◌≤◌, ◌^◌, ℤ, pos, Bool, true, false, if◌then◌else◌, Some, None, List, [], ◌∷◌, refl, sym, ap, subst, ◌∙◌, arith}
use Rattle.std.specs.Prelude.{◌==◌, ◌||◌, ◌+ℤ◌, ◌*ℤ◌, unsigned_abs, int_le, int_lt, FitsSigned}
use Rattle.std.specs.Ordering.{int_eq}
use Rattle.std.specs.Int.{w64, int_wrap, int_div_euclid}
use Rattle.std.proofs.Math.IntN.{*ℤ-zero}
use Rattle.std.proofs.Math.Nat.{zero-div}
use Rattle.std.proofs.lemmas.Int.{fits_signed_from_abs, int_wrap_fits, wrapping_add_is, ints}
use Rattle.gx_base.specs.declared.calls.Spot.{Spot}
use Rattle.gx_base.specs.declared.items.Item.{Item}
use Rattle.gx_base.specs.PointKind.{spot_at}
use Rattle.gx_base.specs.States.{State, number_at}
use Rattle.gx_base.specs.Worklists.{has_item, with_items, without_item}
use Rattle.gx_base.proofs.CallerLemmas.{same_int}
use Rattle.kd_points.specs.NearestPoints.{some_is, some_none}
use Rattle.clustering.specs.declared.stages.Merge.{Merge}
use Rattle.clustering.specs.Chain.{id_item, plus, mean, merge_of, into_key, weight_key}
use Rattle.cluster_laws.specs.MutualPairs.{AreMutual}
use Rattle.cluster_laws.proofs.Calls.{ArePoints, AreCells, int_same}
use Rattle.cluster_laws.proofs.Chains.{AreNumbered}
use Rattle.cluster_laws.proofs.Counts.{same_number, no, no_bool, unequal, total, total_moved, total_at_two}
use Rattle.cluster_laws.proofs.Items.{stays, entered, kept_in, first_of, later_of, id_of}
use Rattle.cluster_laws.proofs.Merges.{points_after, cells_after, is_own, points-are, merged_there, second_gone, others_stay, cells-are, first_weight, other_weight}

-- ---- numbers

pub int_apart : (a b : ℕ) → (a ≡ b → ⊥) → int_eq (pos a) (pos b) ≡ false
int_apart a b h = no (int_eq (pos a) (pos b)) (λ t. h (ap unsigned_abs (same_int (pos a) (pos b) t)))

pub fits : (a : ℕ) → a < 2 ^ 63 → FitsSigned w64 (pos a)
fits a l = fits_signed_from_abs w64 (pos a) l

plus_pos : (a b : ℕ) → a + b < 2 ^ 63 → plus (pos a) (pos b) ≡ pos (a + b)
plus_pos a b l =
    let first : a < 2 ^ 63 = omega arith in
    let second : b < 2 ^ 63 = omega arith in
    wrapping_add_is w64 (pos a) (pos b) (fits a first) (fits b second) ∙ int_wrap_fits w64 (pos (a + b)) (fits (a + b) l)

mean_flat : (a b : ℕ) → 0 < a + b → mean (pos a) (pos 0) (pos b) (pos 0) ≡ pos 0
mean_flat a b l =
    let sum : (pos a *ℤ pos 0) +ℤ (pos b *ℤ pos 0) ≡ pos 0 = λ i. *ℤ-zero (pos a) i +ℤ *ℤ-zero (pos b) i in
    let none : int_div_euclid (pos 0) (pos a +ℤ pos b) ≡ pos 0 = ap pos (zero-div (a + b)) in
    ap (λ (z : ℤ). int_wrap w64 (int_div_euclid z (pos a +ℤ pos b))) sum ∙ ap (int_wrap w64) none ∙ int_wrap_fits w64 (pos 0) (fits 0 (omega arith))

-- no number of a point is below 0
pub not_negative : (k : ℕ) → int_lt (pos k) (pos 0) ≡ false
not_negative k = no (int_lt (pos k) (pos 0)) (λ t. omega (arith, ints))

positive : (a b : ℕ) → 0 < a → int_le (pos a +ℤ pos b) (pos 0) ≡ false
positive a b l = no (int_le (pos a +ℤ pos b) (pos 0)) (λ t. omega (arith, ints))

-- ---- weights

abbrev moved : (ℕ → ℕ) → ℕ → ℕ → ℕ → ℕ
moved f i j k = if k == i then f i + f j else (if k == j then 0 else f k)

moved_first : (f : ℕ → ℕ) (i j : ℕ) → moved f i j i ≡ f i + f j
moved_first f i j = ap (λ (b : Bool). if b then f i + f j else (if i == j then 0 else f i)) (same_number i)

moved_second : (f : ℕ → ℕ) (i j : ℕ) → (i ≡ j → ⊥) → moved f i j j ≡ 0
moved_second f i j apart =
    ap (λ (b : Bool). if b then f i + f j else (if j == j then 0 else f j)) (unequal j i (λ e. apart (sym e)))
    ∙ ap (λ (b : Bool). if b then 0 else f j) (same_number j)

moved_other : (f : ℕ → ℕ) (i j k : ℕ) → (k ≡ i → ⊥) → (k ≡ j → ⊥) → moved f i j k ≡ f k
moved_other f i j k first second =
    ap (λ (b : Bool). if b then f i + f j else (if k == j then 0 else f k)) (unequal k i first) ∙ ap (λ (b : Bool). if b then 0 else f k) (unequal k j second)

-- the points have numbers below n, and lie in the plane; each has a weight, and the weights add up to n
pub record IsCloud (n : ℕ) (states : ℕ → State) : Type 0 where
  pub are : AreNumbered (states 0) n
  pub cells : AreCells (states 1)
  pub flat : (id : ℤ) (r : Spot) → spot_at (states 0) id ≡ Some r → r.z ≡ pos 0
  pub weight : ℕ → ℕ
  pub weighs : (k : ℕ) (r : Spot) → spot_at (states 0) (pos k) ≡ Some r → (number_at (states 1) (0, pos k) ≡ pos (weight k)) × (0 < weight k)
  pub absent : (k : ℕ) → spot_at (states 0) (pos k) ≡ None → weight k ≡ 0
  pub sum : total weight n ≡ n

-- there is one point at most
abbrev pub IsSingle : State → Type 0
IsSingle s = (x y : ℤ) (r t : Spot) → spot_at s x ≡ Some r → spot_at s y ≡ Some t → x ≡ y

-- each point's item is ready, or there is one point at most
abbrev pub Waits : State → List Item → Type 0
Waits s ready = ((id : ℤ) (r : Spot) → spot_at s id ≡ Some r → has_item ready (id_item id) ≡ true) ⊎ IsSingle s

-- ---- a merge

module _ (n : ℕ) (most : n ≤ 20000) (states : ℕ → State) (cloud : IsCloud n states) (id : ℤ) (u v : Spot) (apart : int_eq v.id u.id ≡ false) (pair : AreMutual (states 0) u v) where
  abbrev first_number : (k : ℕ) × (k < n) × (u.id ≡ pos k)
  first_number = cloud.are.number u.id u pair.first

  abbrev second_number : (k : ℕ) × (k < n) × (v.id ≡ pos k)
  second_number = cloud.are.number v.id v pair.second

  abbrev i : ℕ
  i = (cloud.are.number u.id u pair.first).0

  abbrev j : ℕ
  j = (cloud.are.number v.id v pair.second).0

  two : i ≡ j → ⊥
  two e = no_bool (int_eq v.id u.id) (ap (λ (x : ℤ). int_eq x u.id) (second_number.2 ∙ ap pos (sym e) ∙ sym first_number.2) ∙ int_same u.id) apart

  first_there : spot_at (states 0) (pos i) ≡ Some u
  first_there = ap (spot_at (states 0)) (sym first_number.2) ∙ pair.first

  second_there : spot_at (states 0) (pos j) ≡ Some v
  second_there = ap (spot_at (states 0)) (sym second_number.2) ∙ pair.second

  abbrev pub a : ℕ
  a = cloud.weight i

  abbrev pub b : ℕ
  b = cloud.weight j

  pub first_weighs : number_at (states 1) (0, u.id) ≡ pos a
  first_weighs = ap (λ (x : ℤ). number_at (states 1) (0, x)) first_number.2 ∙ (cloud.weighs i u first_there).0

  pub second_weighs : number_at (states 1) (0, v.id) ≡ pos b
  second_weighs = ap (λ (x : ℤ). number_at (states 1) (0, x)) second_number.2 ∙ (cloud.weighs j v second_there).0

  some_weight : 0 < a
  some_weight = (cloud.weighs i u first_there).1

  small : a + b ≤ n
  small =
      let both : a + b ≤ total cloud.weight n = total_at_two cloud.weight i j n first_number.1 second_number.1 two in
      let sum : total cloud.weight n ≡ n = cloud.sum in
      omega arith

  pub weights_positive : int_le (pos a +ℤ pos b) (pos 0) ≡ false
  weights_positive = positive a b some_weight

  abbrev pub m : Merge
  m = merge_of id u (pos a) v (pos b)

  weight-is : m.weight ≡ pos (a + b)
  weight-is = plus_pos a b (let s = small in omega arith)

  merged_flat : m.merged.z ≡ pos 0
  merged_flat =
      let l = some_weight in
      (λ i. mean (pos a) (cloud.flat u.id u pair.first i) (pos b) (cloud.flat v.id v pair.second i)) ∙ mean_flat a b (omega arith)

  into-is : into_key v.id ≡ pos (1000000 + j)
  into-is = let l : j < n = second_number.1 in ap (plus (pos 1000000)) second_number.2 ∙ plus_pos 1000000 j (omega arith)

  key-is : weight_key v.id ≡ pos (2000000 + j)
  key-is = let l : j < n = second_number.1 in ap (plus (pos 2000000)) second_number.2 ∙ plus_pos 2000000 j (omega arith)

  no_into : (k : ℕ) → k < n → int_eq (pos k) (into_key v.id) ≡ false
  no_into k l = ap (int_eq (pos k)) into-is ∙ int_apart k (1000000 + j) (λ e. omega arith)

  no_key : (k : ℕ) → k < n → int_eq (pos k) (weight_key v.id) ≡ false
  no_key k l = ap (int_eq (pos k)) key-is ∙ int_apart k (2000000 + j) (λ e. omega arith)

  not_low : int_lt u.id (pos 0) ≡ false
  not_low = ap (λ (x : ℤ). int_lt x (pos 0)) first_number.2 ∙ not_negative i

  module _ (after : ℕ → State) (points : after 0 ≡ points_after (states 0) m) (cells : after 1 ≡ cells_after (states 1) m) where
    are_after : ArePoints (after 0)
    are_after = ap (λ (s : State). s.kind) (points ∙ points-are (states 0) m cloud.are.are_points pair apart refl not_low (ap (λ (x : ℤ). int_eq x (pos 0)) merged_flat)) ∙ cloud.are.are_points

    cells_after_it : AreCells (after 1)
    cells_after_it = ap (λ (w : State). w.kind) (cells ∙ cells-are (states 1) m cloud.cells) ∙ cloud.cells

    merged_is : spot_at (after 0) u.id ≡ Some m.merged
    merged_is =
        ap (λ (s : State). spot_at s u.id) (points ∙ points-are (states 0) m cloud.are.are_points pair apart refl not_low (ap (λ (x : ℤ). int_eq x (pos 0)) merged_flat))
        ∙ merged_there (states 0) m cloud.are.are_points pair apart refl

    gone : spot_at (after 0) v.id ≡ None
    gone =
        ap (λ (s : State). spot_at s v.id) (points ∙ points-are (states 0) m cloud.are.are_points pair apart refl not_low (ap (λ (x : ℤ). int_eq x (pos 0)) merged_flat))
        ∙ second_gone (states 0) m cloud.are.are_points pair apart

    others : (y : ℤ) → int_eq y u.id ≡ false → int_eq y v.id ≡ false → spot_at (after 0) y ≡ spot_at (states 0) y
    others y e f =
        ap (λ (s : State). spot_at s y) (points ∙ points-are (states 0) m cloud.are.are_points pair apart refl not_low (ap (λ (x : ℤ). int_eq x (pos 0)) merged_flat))
        ∙ others_stay (states 0) m cloud.are.are_points pair apart y e f

    -- a point after the merge is the merged one, or it was there
    abbrev OneOf : ℤ → Spot → Type 0
    OneOf x r = ((x ≡ u.id) × (m.merged ≡ r)) ⊎ ((int_eq x u.id ≡ false) × (int_eq x v.id ≡ false) × (spot_at (states 0) x ≡ Some r))

    one_of : (x : ℤ) (r : Spot) → spot_at (after 0) x ≡ Some r → OneOf x r
    one_of x r there = by (int_eq x u.id) (int_eq x v.id) refl refl
      where
        by : (s t : Bool) → int_eq x u.id ≡ s → int_eq x v.id ≡ t → OneOf x r
        by true t e f = let is : x ≡ u.id = same_int x u.id e in inl (is, some_is m.merged r (sym merged_is ∙ ap (spot_at (after 0)) (sym is) ∙ there))
        by false true e f = absurd (some_none r (sym gone ∙ ap (spot_at (after 0)) (sym (same_int x v.id f)) ∙ there))
        by false false e f = inr (e, f, sym (others x e f) ∙ there)

    number_after : (x : ℤ) (r : Spot) → spot_at (after 0) x ≡ Some r → (k : ℕ) × (k < n) × (x ≡ pos k)
    number_after x r there = by (one_of x r there)
      where
        by : OneOf x r → (k : ℕ) × (k < n) × (x ≡ pos k)
        by (inl new) = (i, first_number.1, new.0 ∙ first_number.2)
        by (inr old) = cloud.are.number x r old.2

    flat_after : (x : ℤ) (r : Spot) → spot_at (after 0) x ≡ Some r → r.z ≡ pos 0
    flat_after x r there = by (one_of x r there)
      where
        by : OneOf x r → r.z ≡ pos 0
        by (inl new) = ap (λ (t : Spot). t.z) (sym new.1) ∙ merged_flat
        by (inr old) = cloud.flat x r old.2

    first_after : number_at (after 1) (0, u.id) ≡ pos (a + b)
    first_after =
        ap (λ (w : State). number_at w (0, u.id)) (cells ∙ cells-are (states 1) m cloud.cells)
        ∙ first_weight (states 1) m cloud.cells (ap (λ (x : ℤ). int_eq x (into_key v.id)) first_number.2 ∙ no_into i first_number.1) (ap (λ (x : ℤ). int_eq x (weight_key v.id)) first_number.2 ∙ no_key i first_number.1)
        ∙ weight-is

    other_after : (k : ℕ) → k < n → int_eq (pos k) u.id ≡ false → number_at (after 1) (0, pos k) ≡ number_at (states 1) (0, pos k)
    other_after k l e =
        ap (λ (w : State). number_at w (0, pos k)) (cells ∙ cells-are (states 1) m cloud.cells)
        ∙ other_weight (states 1) m cloud.cells (pos k) e (no_into k l) (no_key k l)

    -- a number apart from u's or v's
    not_first : (k : ℕ) → int_eq (pos k) u.id ≡ false → k ≡ i → ⊥
    not_first k e s = no_bool (int_eq (pos k) u.id) (ap (λ (x : ℕ). int_eq (pos x) u.id) s ∙ ap (λ (x : ℤ). int_eq x u.id) (sym first_number.2) ∙ int_same u.id) e

    not_second : (k : ℕ) → int_eq (pos k) v.id ≡ false → k ≡ j → ⊥
    not_second k e s = no_bool (int_eq (pos k) v.id) (ap (λ (x : ℕ). int_eq (pos x) v.id) s ∙ ap (λ (x : ℤ). int_eq x v.id) (sym second_number.2) ∙ int_same v.id) e

    weighs_after : (k : ℕ) (r : Spot) → spot_at (after 0) (pos k) ≡ Some r → (number_at (after 1) (0, pos k) ≡ pos (moved cloud.weight i j k)) × (0 < moved cloud.weight i j k)
    weighs_after k r there = by (one_of (pos k) r there)
      where
        by : OneOf (pos k) r → (number_at (after 1) (0, pos k) ≡ pos (moved cloud.weight i j k)) × (0 < moved cloud.weight i j k)
        by (inl new) =
            let is : k ≡ i = ap unsigned_abs (new.0 ∙ first_number.2) in
            let weight : moved cloud.weight i j k ≡ a + b = ap (moved cloud.weight i j) is ∙ moved_first cloud.weight i j in
            let some : 0 < a = some_weight in
            let more : 0 < moved cloud.weight i j k = omega arith in
            (ap (λ (x : ℤ). number_at (after 1) (0, x)) new.0 ∙ first_after ∙ ap pos (sym weight), more)
        by (inr old) =
            let number : (k' : ℕ) × (k' < n) × (pos k ≡ pos k') = cloud.are.number (pos k) r old.2 in
            let same : k ≡ number.0 = ap unsigned_abs number.2 in
            let below : number.0 < n = number.1 in
            let l : k < n = omega arith in
            let weight : moved cloud.weight i j k ≡ cloud.weight k = moved_other cloud.weight i j k (not_first k old.0) (not_second k old.1) in
            let before : (number_at (states 1) (0, pos k) ≡ pos (cloud.weight k)) × (0 < cloud.weight k) = cloud.weighs k r old.2 in
            let some : 0 < cloud.weight k = before.1 in
            let more : 0 < moved cloud.weight i j k = omega arith in
            (other_after k l old.0 ∙ before.0 ∙ ap pos (sym weight), more)

    absent_after : (k : ℕ) → spot_at (after 0) (pos k) ≡ None → moved cloud.weight i j k ≡ 0
    absent_after k none = by (int_eq (pos k) u.id) (int_eq (pos k) v.id) refl refl
      where
        by : (s t : Bool) → int_eq (pos k) u.id ≡ s → int_eq (pos k) v.id ≡ t → moved cloud.weight i j k ≡ 0
        by true t e f = absurd (some_none m.merged (sym none ∙ ap (spot_at (after 0)) (same_int (pos k) u.id e) ∙ merged_is))
        by false true e f =
            let is : k ≡ j = ap unsigned_abs (same_int (pos k) v.id f ∙ second_number.2) in
            ap (moved cloud.weight i j) is ∙ moved_second cloud.weight i j two
        by false false e f = moved_other cloud.weight i j k (not_first k e) (not_second k f) ∙ cloud.absent k (sym (others (pos k) e f) ∙ none)

    pub cloud_after : IsCloud n after
    cloud_after = record {
      are = record { are_points = are_after; number = number_after };
      cells = cells_after_it;
      flat = flat_after;
      weight = moved cloud.weight i j;
      weighs = weighs_after;
      absent = absent_after;
      sum = total_moved cloud.weight (moved cloud.weight i j) i j n first_number.1 second_number.1 two (moved_first cloud.weight i j) (moved_second cloud.weight i j two) (λ k first second. moved_other cloud.weight i j k first second) ∙ cloud.sum;
    }

    -- ---- what is ready after it

    own_again : (x : ℤ) → id ≡ x → int_eq x u.id ≡ false → int_eq x v.id ≡ false → has_item (id_item u.id ∷ (if is_own m then [] else id_item id ∷ [])) (id_item x) ≡ true
    own_again x is e f =
        let other : is_own m ≡ false = (λ i. int_eq (is i) u.id || int_eq (is i) v.id) ∙ (λ i. e i || f i) in
        later_of (id_item u.id) (id_item x) _ (subst (λ (t : Bool). has_item (if t then [] else id_item id ∷ []) (id_item x) ≡ true) (sym other)
        (subst (λ (y : ℤ). has_item (id_item y ∷ []) (id_item x) ≡ true) (sym is) (first_of (id_item x) [])))

    pub waits_after : (ready : List Item) → Waits (states 0) ready → Waits (after 0) (with_items (without_item ready (id_item id)) (id_item u.id ∷ (if is_own m then [] else id_item id ∷ [])))
    waits_after ready (inr single) = absurd (no_bool (int_eq v.id u.id) (ap (λ (x : ℤ). int_eq x u.id) (single v.id u.id v u pair.second pair.first) ∙ int_same u.id) apart)
    waits_after ready (inl wait) = inl (λ x r there. by x r (one_of x r there))
      where
        kept_by : (x : ℤ) (r : Spot) (t : Bool) → int_eq id x ≡ t → int_eq x u.id ≡ false → int_eq x v.id ≡ false → spot_at (states 0) x ≡ Some r
            → has_item (with_items (without_item ready (id_item id)) (id_item u.id ∷ (if is_own m then [] else id_item id ∷ []))) (id_item x) ≡ true
        kept_by x r true t e f there = entered (without_item ready (id_item id)) _ (id_item x) (own_again x (same_int id x t) e f)
        kept_by x r false t e f there =
            kept_in (without_item ready (id_item id)) _ (id_item x) (stays ready (id_item id) (id_item x) (wait x r there) (λ s. no_bool (int_eq id x) (ap (λ (y : ℤ). int_eq y x) (id_of id x s) ∙ int_same x) t))

        by : (x : ℤ) (r : Spot) → OneOf x r → has_item (with_items (without_item ready (id_item id)) (id_item u.id ∷ (if is_own m then [] else id_item id ∷ []))) (id_item x) ≡ true
        by x r (inl new) =
            subst (λ (y : ℤ). has_item (with_items (without_item ready (id_item id)) (id_item u.id ∷ (if is_own m then [] else id_item id ∷ []))) (id_item y) ≡ true) (sym new.0)
            (entered (without_item ready (id_item id)) _ (id_item u.id) (first_of (id_item u.id) _))
        by x r (inr old) = kept_by x r (int_eq id x) refl old.0 old.1 old.2

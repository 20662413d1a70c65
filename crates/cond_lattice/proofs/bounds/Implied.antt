-- The order of simple conditions is implication.
use Rattle.std.specs.Prelude.{◌≡◌, ℕ, zero, suc, pos, ◌+◌, ◌≤◌, Bool, true, false, not, ◌&&◌, ◌==◌, cond, refl, IsTrue}
use Rattle.std.proofs.Common.{sym, ap, ◌∙◌, inl, inr, arith}
use Rattle.std.specs.Ordering.{int_eq}
use Rattle.std.proofs.lemmas.Bool.{and_parts, and_from, or_cases, or_left, or_right, leb-true, eqb-true, eq-eqb, not-true, not_from_false}
use Rattle.std.proofs.lemmas.Bool.Decides.{Decides-int_eq}
use Rattle.gx_base.specs.declared.calls.Made.{Made}
use Rattle.gx_base.specs.declared.calls.Seen.{Seen}
use Rattle.gx_base.specs.declared.conditions.Side.TheVariants.{First, Second}
use Rattle.gx_base.specs.declared.conditions.Term.{Term}
use Rattle.gx_base.specs.declared.conditions.Term.TheVariants.{Value}
use Rattle.gx_base.specs.Conditions.{Condition, True, False, Ne, And, holds, term_value, value_of, is_false}
use Rattle.cond_lattice.specs.Grades.{are_across, is_conjunction, is_simple}
use Rattle.cond_lattice.specs.Same.{same_term, same_sides}
use Rattle.cond_lattice.specs.Simple.{stands_in, all_stand_in, simply_below, Implies, is_near_term, is_near}
use Rattle.cond_lattice.proofs.order.Sameness.{same_term-is, equation-same}
use Rattle.cond_lattice.proofs.bounds.Standing.{stands_by, all_stand_from, stands_in-turned, stands_in-same, same_sides-refl, is_plain}

pub is_false-is : (c : Condition) → is_false c ≡ true → c ≡ False
is_false-is False e = refl
is_false-is _ e = absurd (cc)

pub simple_plain : (c : Condition) → is_simple c ≡ true → is_false c ≡ false → is_plain c ≡ true
simple_plain True s e = refl
simple_plain False s e = absurd (cc)
simple_plain _ s e = s

-- an inequality that stands in a true conjunction is true
pub stands_true : (x y : Term) (c : Condition) (first second : Made) (seen : Seen) → stands_in x y c ≡ true → holds c first second seen ≡ true
    → int_eq (term_value x first second seen) (term_value y first second seen) ≡ false
stands_true x y (Ne u v) first second seen h t = equation-same x y u v first second seen h ∙ not-true _ t
stands_true x y (And a b) first second seen h t =
    let p = and_parts (holds a first second seen) (holds b first second seen) t in
    elim (or_cases (stands_in x y a) (stands_in x y b) h) [
      | inl there ↦ stands_true x y a first second seen there p.0
      | inr there ↦ stands_true x y b first second seen there p.1
    ]
stands_true x y _ first second seen h t = absurd (cc)

-- a conjunction all of whose inequalities are true is true
conjunction_true : (c : Condition) (first second : Made) (seen : Seen) → is_conjunction c ≡ true
    → ((x y : Term) → stands_in x y c ≡ true → int_eq (term_value x first second seen) (term_value y first second seen) ≡ false)
    → holds c first second seen ≡ true
conjunction_true (Ne x y) first second seen e f = not_from_false _ (f x y (same_sides-refl x y))
conjunction_true (And a b) first second seen e f =
    let p = and_parts (is_conjunction a) (is_conjunction b) e in
    and_from _ _ (conjunction_true a first second seen p.0 (λ x y h. f x y (or_left _ _ h)))
    (conjunction_true b first second seen p.1 (λ x y h. f x y (or_right _ _ h)))
conjunction_true _ first second seen e f = absurd (cc)

plain_true : (c : Condition) (first second : Made) (seen : Seen) → is_plain c ≡ true
    → ((x y : Term) → stands_in x y c ≡ true → int_eq (term_value x first second seen) (term_value y first second seen) ≡ false)
    → holds c first second seen ≡ true
plain_true True first second seen e f = refl
plain_true (Ne x y) first second seen e f = conjunction_true (Ne x y) first second seen e f
plain_true (And a b) first second seen e f = conjunction_true (And a b) first second seen e f
plain_true _ first second seen e f = absurd (cc)

-- a simple condition other than `false` is true exactly where each of its inequalities is
pub holds-simple : (c : Condition) (first second : Made) (seen : Seen) → is_simple c ≡ true → is_false c ≡ false
    → (holds c first second seen ≡ true → (x y : Term) → stands_in x y c ≡ true → holds (Ne x y) first second seen ≡ true)
    × (((x y : Term) → stands_in x y c ≡ true → holds (Ne x y) first second seen ≡ true) → holds c first second seen ≡ true)
holds-simple c first second seen simple some = (
  (λ t x y h. not_from_false _ (stands_true x y c first second seen h t)),
  λ f. plain_true c first second seen (simple_plain c simple some) (λ x y h. not-true _ (f x y h)),
)

-- the more inequalities, the stronger
pub stands_implies : (c d : Condition) → is_plain d ≡ true → ((x y : Term) → stands_in x y d ≡ true → stands_in x y c ≡ true) → Implies c d
stands_implies c d plain f first second seen t = plain_true d first second seen plain (λ x y h. stands_true x y c first second seen (f x y h) t)

pub false_implies : (c d : Condition) → is_false c ≡ true → Implies c d
false_implies False d e first second seen t = absurd (cc)
false_implies _ d e first second seen t = absurd (cc)

pub simply_below-implies : (c d : Condition) → is_simple d ≡ true → simply_below c d ≡ true → Implies c d
simply_below-implies c d simple e =
    elim (or_cases (is_false c) (not (is_false d) && all_stand_in d c) e) [
      | inl never ↦ false_implies c d never
      | inr rest ↦
          let p = and_parts (not (is_false d)) (all_stand_in d c) rest in
          stands_implies c d (simple_plain d simple (not-true _ p.0)) (λ x y h. stands_by x y d c h p.1)
    ]

-- Values by which an inequality that doesn't stand in a conjunction is false, and the conjunction true: the value j of the
-- second call is the value i of the first, and all other values differ.

abbrev first_made : Made
first_made = record {
  call = record { method = 0; a = pos 0; b = pos 1; c = pos 2; d = pos 3 };
  reply = record { p = pos 4; q = pos 5; r = pos 6; s = pos 7 };
}

abbrev second_at : ℕ → ℕ → ℕ → ℕ
second_at i j k = cond (k == j) i (8 + k)

abbrev second_made : ℕ → ℕ → Made
second_made i j = record {
  call = record { method = 0; a = pos (second_at i j 0); b = pos (second_at i j 1); c = pos (second_at i j 2); d = pos (second_at i j 3) };
  reply = record { p = pos (second_at i j 4); q = pos (second_at i j 5); r = pos (second_at i j 6); s = pos (second_at i j 7) };
}

abbrev seen_none : Seen
seen_none = record { first = pos 0; second = pos 0 }

first_value : (k : ℕ) → k ≤ 7 → value_of first_made k ≡ pos k
first_value zero h = refl
first_value (suc zero) h = refl
first_value (suc (suc zero)) h = refl
first_value (suc (suc (suc zero))) h = refl
first_value (suc (suc (suc (suc zero)))) h = refl
first_value (suc (suc (suc (suc (suc zero))))) h = refl
first_value (suc (suc (suc (suc (suc (suc zero)))))) h = refl
first_value (suc (suc (suc (suc (suc (suc (suc zero))))))) h = refl
first_value (suc (suc (suc (suc (suc (suc (suc (suc n)))))))) h = absurd (omega arith)

second_value : (i j k : ℕ) → k ≤ 7 → value_of (second_made i j) k ≡ pos (second_at i j k)
second_value i j zero h = refl
second_value i j (suc zero) h = refl
second_value i j (suc (suc zero)) h = refl
second_value i j (suc (suc (suc zero))) h = refl
second_value i j (suc (suc (suc (suc zero)))) h = refl
second_value i j (suc (suc (suc (suc (suc zero))))) h = refl
second_value i j (suc (suc (suc (suc (suc (suc zero)))))) h = refl
second_value i j (suc (suc (suc (suc (suc (suc (suc zero))))))) h = refl
second_value i j (suc (suc (suc (suc (suc (suc (suc (suc n)))))))) h = absurd (omega arith)

pos-is : (m n : ℕ) → pos m ≡ pos n → m ≡ n
pos-is m n e = cc

-- two of these values are equal only where they are the chosen ones
meeting : (i j m k : ℕ) → m ≤ 7 → m ≡ second_at i j k → (m ≡ i) × (k ≡ j)
meeting i j m k h e = by_cases (k == j) refl e
  where
    by_cases : (t : Bool) → (k == j) ≡ t → m ≡ cond t i (8 + k) → (m ≡ i) × (k ≡ j)
    by_cases true same here = (here, eqb-true k j same)
    by_cases false other here = absurd (omega arith)

second_here : (i j : ℕ) → second_at i j j ≡ i
second_here i j = ap (λ t. cond t i (8 + j)) (eq-eqb j j refl)

values_meet : (i j m k : ℕ) → m ≤ 7 → k ≤ 7 → int_eq (value_of first_made m) (value_of (second_made i j) k) ≡ true → (m ≡ i) × (k ≡ j)
values_meet i j m k hm hk e =
    let equal : value_of first_made m ≡ value_of (second_made i j) k = (Decides-int_eq (value_of first_made m) (value_of (second_made i j) k)).0 e in
    meeting i j m k hm (pos-is m (second_at i j k) (sym (first_value m hm) ∙ equal ∙ second_value i j k hk))

false_by : (b : Bool) → (b ≡ true → ⊥) → b ≡ false
false_by true never = absurd (never refl)
false_by false never = refl

-- a near inequality across the calls is true there, unless it is the chosen one
across_differ : (i j : ℕ) (x y : Term) → are_across x y ≡ true → is_near_term x ≡ true → is_near_term y ≡ true
    → (same_sides x y (Value First i) (Value Second j) ≡ true → ⊥)
    → int_eq (term_value x first_made (second_made i j) seen_none) (term_value y first_made (second_made i j) seen_none) ≡ false
across_differ i j (Value First m) (Value Second k) across near_x near_y never = false_by _ (λ e.
    let met = values_meet i j m k (leb-true m 7 near_x) (leb-true k 7 near_y) e in
    never (or_left _ (same_term (Value First m) (Value Second j) && same_term (Value Second k) (Value First i)) (and_from _ _ (eq-eqb m i met.0) (eq-eqb k j met.1))))
across_differ i j (Value Second k) (Value First m) across near_x near_y never = false_by _ (λ e.
    let turned : value_of first_made m ≡ value_of (second_made i j) k = sym ((Decides-int_eq (value_of (second_made i j) k) (value_of first_made m)).0 e) in
    let met = values_meet i j m k (leb-true m 7 near_y) (leb-true k 7 near_x) ((Decides-int_eq _ _).1 turned) in
    never (or_right (same_term (Value Second k) (Value First i) && same_term (Value First m) (Value Second j)) _ (and_from _ _ (eq-eqb k j met.1) (eq-eqb m i met.0))))
across_differ i j _ _ across near_x near_y never = absurd (cc)

-- what stands in a near conjunction is a near inequality across the calls
pub record IsNearAcross (x y : Term) : Type 0 where
  pub across : are_across x y ≡ true
  pub near_left : is_near_term x ≡ true
  pub near_right : is_near_term y ≡ true

across_turned : (x y : Term) → are_across x y ≡ are_across y x
across_turned (Value First m) (Value First k) = refl
across_turned (Value First m) (Value Second k) = refl
across_turned (Value First m) _ = refl
across_turned (Value Second m) (Value First k) = refl
across_turned (Value Second m) (Value Second k) = refl
across_turned (Value Second m) _ = refl
across_turned _ (Value First k) = refl
across_turned _ (Value Second k) = refl
across_turned _ _ = refl

near_same : (x y u v : Term) → same_sides x y u v ≡ true → IsNearAcross u v → IsNearAcross x y
near_same x y u v e near =
    elim (or_cases (same_term x u && same_term y v) (same_term x v && same_term y u) e) [
      | inl straight ↦
          let p = and_parts _ _ straight in
          let left : u ≡ x = sym (same_term-is x u p.0) in
          let right : v ≡ y = sym (same_term-is y v p.1) in
          record {
            across = (λ k. are_across (sym left k) (sym right k)) ∙ near.across;
            near_left = ap is_near_term (sym left) ∙ near.near_left;
            near_right = ap is_near_term (sym right) ∙ near.near_right;
          }
      | inr crossed ↦
          let p = and_parts _ _ crossed in
          let left : x ≡ v = same_term-is x v p.0 in
          let right : y ≡ u = same_term-is y u p.1 in
          record {
            across = (λ k. are_across (left k) (right k)) ∙ across_turned v u ∙ near.across;
            near_left = ap is_near_term left ∙ near.near_right;
            near_right = ap is_near_term right ∙ near.near_left;
          }
    ]

stands_near : (x y : Term) (c : Condition) → is_plain c ≡ true → is_near c ≡ true → stands_in x y c ≡ true → IsNearAcross x y
stands_near x y (Ne u v) plain near h =
    let p = and_parts (is_near_term u) (is_near_term v) near in
    near_same x y u v h (record { across = plain; near_left = p.0; near_right = p.1 })
stands_near x y (And a b) plain near h = in_conjunction (And a b) plain near h
  where
    in_conjunction : (c : Condition) → is_conjunction c ≡ true → is_near c ≡ true → stands_in x y c ≡ true → IsNearAcross x y
    in_conjunction (Ne u v) plain near h =
        let p = and_parts (is_near_term u) (is_near_term v) near in
        near_same x y u v h (record { across = plain; near_left = p.0; near_right = p.1 })
    in_conjunction (And a b) plain near h =
        let p = and_parts (is_conjunction a) (is_conjunction b) plain in
        let q = and_parts (is_near a) (is_near b) near in
        elim (or_cases (stands_in x y a) (stands_in x y b) h) [
          | inl there ↦ in_conjunction a p.0 q.0 there
          | inr there ↦ in_conjunction b p.1 q.1 there
        ]
    in_conjunction _ plain near h = absurd (cc)
stands_near x y _ plain near h = absurd (cc)

elsewhere : (i j : ℕ) (c : Condition) (x y : Term) → stands_in (Value First i) (Value Second j) c ≡ false → stands_in x y c ≡ true
    → same_sides x y (Value First i) (Value Second j) ≡ true → ⊥
elsewhere i j c x y never h same =
    let there : stands_in x y c ≡ stands_in (Value First i) (Value Second j) c = stands_in-same x y (Value First i) (Value Second j) c same in
    cc

-- a near conjunction without the chosen inequality is true there
apart_true : (i j : ℕ) (c : Condition) → is_plain c ≡ true → is_near c ≡ true → stands_in (Value First i) (Value Second j) c ≡ false
    → holds c first_made (second_made i j) seen_none ≡ true
apart_true i j c plain near never = plain_true c first_made (second_made i j) seen_none plain (λ x y h.
    let far : IsNearAcross x y = stands_near x y c plain near h in
    across_differ i j x y far.across far.near_left far.near_right (elsewhere i j c x y never h))

-- there the chosen inequality is false
chosen_false : (i j : ℕ) (d : Condition) → i ≤ 7 → j ≤ 7 → stands_in (Value First i) (Value Second j) d ≡ true → holds d first_made (second_made i j) seen_none ≡ true → ⊥
chosen_false i j d hi hj h t =
    let apart = stands_true (Value First i) (Value Second j) d first_made (second_made i j) seen_none h t in
    let equal : value_of first_made i ≡ value_of (second_made i j) j = first_value i hi ∙ ap pos (sym (second_here i j)) ∙ sym (second_value i j j hj) in
    let met : int_eq (value_of first_made i) (value_of (second_made i j) j) ≡ true = (Decides-int_eq _ _).1 equal in
    let never : true ≡ false = sym met ∙ apart in
    cc

true_by : (b : Bool) → (b ≡ false → ⊥) → b ≡ true
true_by true never = refl
true_by false never = absurd (never refl)

-- what is implied stands there already
implied_stands : (c d : Condition) → is_plain c ≡ true → is_near c ≡ true → Implies c d → (x y : Term) → IsNearAcross x y → stands_in x y d ≡ true → stands_in x y c ≡ true
implied_stands c d plain near f (Value First i) (Value Second j) far h = true_by _ (λ never.
    chosen_false i j d (leb-true i 7 far.near_left) (leb-true j 7 far.near_right) h (f _ _ _ (apart_true i j c plain near never)))
implied_stands c d plain near f (Value Second j) (Value First i) far h = true_by _ (λ never.
    chosen_false i j d (leb-true i 7 far.near_right) (leb-true j 7 far.near_left) (stands_in-turned (Value First i) (Value Second j) d ∙ h)
    (f _ _ _ (apart_true i j c plain near (stands_in-turned (Value First i) (Value Second j) c ∙ never))))
implied_stands c d plain near f _ _ far h = absurd (let across : false ≡ true = far.across in cc)

-- no value of a call has the number 8, so that all values differ
chosen_far : (c : Condition) → is_plain c ≡ true → is_near c ≡ true → stands_in (Value First 0) (Value Second 8) c ≡ false
chosen_far c plain near = false_by _ (λ h. let far : IsNearAcross (Value First 0) (Value Second 8) = stands_near _ _ c plain near h in let never : false ≡ true = far.near_right in cc)

plain_implies : (c d : Condition) → is_plain c ≡ true → is_simple d ≡ true → is_near c ≡ true → is_near d ≡ true → Implies c d → simply_below c d ≡ true
plain_implies c d plain simple near_c near_d f = or_right _ _ (by_cases (is_false d) refl)
  where
    by_cases : (t : Bool) → is_false d ≡ t → (not (is_false d) && all_stand_in d c) ≡ true
    by_cases true e =
        let t : holds c first_made (second_made 0 8) seen_none ≡ true = apart_true 0 8 c plain near_c (chosen_far c plain near_c) in
        let u : holds d first_made (second_made 0 8) seen_none ≡ true = f _ _ _ t in
        let v : holds d first_made (second_made 0 8) seen_none ≡ false = ap (λ z. holds z first_made (second_made 0 8) seen_none) (is_false-is d e) in
        absurd (cc)
    by_cases false e =
        and_from _ _ (ap not e) (all_stand_from d c (λ x y h.
        implied_stands c d plain near_c f x y (stands_near x y d (simple_plain d simple e) near_d h) h))

-- an implication of near simple conditions is an order of them
pub implies-simply_below : (c d : Condition) → is_simple c ≡ true → is_simple d ≡ true → is_near c ≡ true → is_near d ≡ true → Implies c d → simply_below c d ≡ true
implies-simply_below c d simple_c simple_d near_c near_d f = by_cases (is_false c) refl
  where
    by_cases : (t : Bool) → is_false c ≡ t → simply_below c d ≡ true
    by_cases true e = or_left _ _ e
    by_cases false e = plain_implies c d (simple_plain c simple_c e) simple_d near_c near_d f

-- of near simple conditions the order is implication
pub order_is_implication : (b : Bool) (c d : Condition) → b ≡ simply_below c d → is_simple c ≡ true → is_simple d ≡ true → is_near c ≡ true → is_near d ≡ true
    → (IsTrue b → Implies c d) × (Implies c d → IsTrue b)
order_is_implication b c d e simple_c simple_d near_c near_d =
    ((λ t. simply_below-implies c d simple_d (sym e ∙ t)), λ f. e ∙ implies-simply_below c d simple_c simple_d near_c near_d f)

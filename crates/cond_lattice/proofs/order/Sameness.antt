-- Conditions that are the same: how they are told, and that they have the same truth.
use Rattle.std.specs.Prelude.{◌≡◌, ℤ, Bool, true, false, not, ◌&&◌, ◌||◌, ◌==◌, refl, IsTrue}
use Rattle.std.proofs.Common.{sym, ap, ◌∙◌, inl, inr, subst}
use Rattle.std.specs.Ordering.{int_eq}
use Rattle.std.proofs.lemmas.Bool.{and_parts, and_from, or_cases, or_left, or_right, eqb-true, eq-eqb}
use Rattle.std.specs.Bool.{Decides}
use Rattle.std.proofs.lemmas.Bool.Decides.{Decides-int_eq, same_from_decides}
use Rattle.gx_base.specs.declared.calls.Made.{Made}
use Rattle.gx_base.specs.declared.calls.Seen.{Seen}
use Rattle.gx_base.specs.declared.conditions.Side.{Side}
use Rattle.gx_base.specs.declared.conditions.Side.TheVariants.{First, Second}
use Rattle.gx_base.specs.declared.conditions.Part.{Part}
use Rattle.gx_base.specs.declared.conditions.Part.TheVariants.{ArgFirst, ArgSecond, RepFirst, RepSecond}
use Rattle.gx_base.specs.declared.conditions.Term.{Term}
use Rattle.gx_base.specs.declared.conditions.Term.TheVariants.{Const, Value, Beyond, State}
use Rattle.gx_base.specs.Conditions.{Condition, True, False, Eq, Ne, Lt, Le, And, Or, Not, holds, term_value}
use Rattle.gx_base.specs.Below.{same_side}
use Rattle.cond_lattice.specs.Same.{Same, equal, equation, inequality, in_and, in_or, in_not, same_part, same_term, same_sides, same_condition}

pub same_side-is : (s t : Side) → same_side s t ≡ true → s ≡ t
same_side-is First First e = refl
same_side-is First Second e = absurd (cc)
same_side-is Second First e = absurd (cc)
same_side-is Second Second e = refl

same_part-is : (p q : Part) → same_part p q ≡ true → p ≡ q
same_part-is ArgFirst ArgFirst e = refl
same_part-is ArgSecond ArgSecond e = refl
same_part-is RepFirst RepFirst e = refl
same_part-is RepSecond RepSecond e = refl
same_part-is _ _ e = absurd (cc)

pub same_term-is : (x y : Term) → same_term x y ≡ true → x ≡ y
same_term-is (Const m) (Const n) e = ap Const ((Decides-int_eq m n).0 e)
same_term-is (Value s i) (Value t j) e =
    let p = and_parts (same_side s t) (i == j) e in
    let side : s ≡ t = same_side-is s t p.0 in
    let place : i ≡ j = eqb-true i j p.1 in
    λ k. Value (side k) (place k)
same_term-is (Beyond x y z) (Beyond u v w) e =
    let p = and_parts (same_part x u && same_part y v) (same_part z w) e in
    let q = and_parts (same_part x u) (same_part y v) p.0 in
    let first : x ≡ u = same_part-is x u q.0 in
    let second : y ≡ v = same_part-is y v q.1 in
    let third : z ≡ w = same_part-is z w p.1 in
    λ k. Beyond (first k) (second k) (third k)
same_term-is (State s) (State t) e = ap State (same_side-is s t e)
same_term-is _ _ e = absurd (cc)

same_side-refl : (s : Side) → same_side s s ≡ true
same_side-refl First = refl
same_side-refl Second = refl

same_part-refl : (p : Part) → same_part p p ≡ true
same_part-refl ArgFirst = refl
same_part-refl ArgSecond = refl
same_part-refl RepFirst = refl
same_part-refl RepSecond = refl

pub same_term-refl : (x : Term) → same_term x x ≡ true
same_term-refl (Const n) = (Decides-int_eq n n).1 refl
same_term-refl (Value s i) = and_from _ _ (same_side-refl s) (eq-eqb i i refl)
same_term-refl (Beyond x y z) = and_from _ _ (and_from _ _ (same_part-refl x) (same_part-refl y)) (same_part-refl z)
same_term-refl (State s) = same_side-refl s

-- whatever tells whether two terms are equal says what `same_term` says
pub equals_same : (b : Bool) (x y : Term) → Decides b (x ≡ y) → b ≡ same_term x y
equals_same b x y d = same_from_decides b (same_term x y) d (same_term-is x y, λ e. subst (λ z. same_term x z ≡ true) e (same_term-refl x))

int_eq-flip : (x y : ℤ) (b : Bool) → int_eq y x ≡ b → int_eq x y ≡ b
int_eq-flip x y true e = (Decides-int_eq x y).1 (sym ((Decides-int_eq y x).0 e))
int_eq-flip x y false e = by_cases (int_eq x y) refl
  where
    by_cases : (b : Bool) → int_eq x y ≡ b → b ≡ false
    by_cases true t = sym ((Decides-int_eq y x).1 (sym ((Decides-int_eq x y).0 t))) ∙ e
    by_cases false t = refl

-- an equation of values, with its sides exchanged
pub int_eq-sym : (x y : ℤ) → int_eq x y ≡ int_eq y x
int_eq-sym x y = int_eq-flip x y (int_eq y x) refl

-- an equation of values stays, whichever side stands first
pub equation-same : (x y u v : Term) (first second : Made) (seen : Seen) → same_sides x y u v ≡ true
    → int_eq (term_value x first second seen) (term_value y first second seen) ≡ int_eq (term_value u first second seen) (term_value v first second seen)
equation-same x y u v first second seen e =
    elim (or_cases _ _ e) [
      | inl straight ↦
          let p = and_parts _ _ straight in
          let left : x ≡ u = same_term-is x u p.0 in
          let right : y ≡ v = same_term-is y v p.1 in
          λ k. int_eq (term_value (left k) first second seen) (term_value (right k) first second seen)
      | inr crossed ↦
          let p = and_parts _ _ crossed in
          let left : x ≡ v = same_term-is x v p.0 in
          let right : y ≡ u = same_term-is y u p.1 in
          int_eq-sym (term_value x first second seen) (term_value y first second seen)
          ∙ (λ k. int_eq (term_value (right k) first second seen) (term_value (left k) first second seen))
    ]

-- conditions that are the same have the same truth
pub holds-Same : {c d : Condition} → Same c d → (first second : Made) (seen : Seen) → holds c first second seen ≡ holds d first second seen
holds-Same equal first second seen = refl
holds-Same (equation {x} {y}) first second seen = int_eq-sym (term_value x first second seen) (term_value y first second seen)
holds-Same (inequality {x} {y}) first second seen = ap not (int_eq-sym (term_value x first second seen) (term_value y first second seen))
holds-Same (in_and s t) first second seen = λ k. holds-Same s first second seen k && holds-Same t first second seen k
holds-Same (in_or s t) first second seen = λ k. holds-Same s first second seen k || holds-Same t first second seen k
holds-Same (in_not s) first second seen = ap not (holds-Same s first second seen)

-- `same_condition` says yes exactly of conditions that are the same

terms_themselves : (x y : Term) → (same_term x x && same_term y y) ≡ true
terms_themselves x y = and_from _ _ (same_term-refl x) (same_term-refl y)

-- an equation is the same as itself with its sides exchanged, and so is an inequality

exchanged_equation : (x y : Term) → same_condition (Eq x y) (Eq y x) ≡ true
exchanged_equation x y = or_right _ _ (terms_themselves x y)

exchanged_inequality : (x y : Term) → same_condition (Ne x y) (Ne y x) ≡ true
exchanged_inequality x y = or_right _ _ (terms_themselves x y)

same_condition-refl : (c : Condition) → same_condition c c ≡ true
same_condition-refl True = refl
same_condition-refl False = refl
same_condition-refl (Eq x y) = or_left _ _ (terms_themselves x y)
same_condition-refl (Ne x y) = or_left _ _ (terms_themselves x y)
same_condition-refl (Lt x y) = terms_themselves x y
same_condition-refl (Le x y) = terms_themselves x y
same_condition-refl (And a b) = and_from _ _ (same_condition-refl a) (same_condition-refl b)
same_condition-refl (Or a b) = and_from _ _ (same_condition-refl a) (same_condition-refl b)
same_condition-refl (Not a) = same_condition-refl a

pub same_by : {c d : Condition} → Same c d → same_condition c d ≡ true
same_by (equal {c}) = same_condition-refl c
same_by (equation {x} {y}) = exchanged_equation x y
same_by (inequality {x} {y}) = exchanged_inequality x y
same_by (in_and s t) = and_from _ _ (same_by s) (same_by t)
same_by (in_or s t) = and_from _ _ (same_by s) (same_by t)
same_by (in_not s) = same_by s

terms_agree : (make : Term → Term → Condition) (x y u v : Term) → (same_term x u && same_term y v) ≡ true → Same (make x y) (make u v)
terms_agree make x y u v e =
    let p = and_parts (same_term x u) (same_term y v) e in
    let left : x ≡ u = same_term-is x u p.0 in
    let right : y ≡ v = same_term-is y v p.1 in
    subst (Same (make x y)) (λ k. make (left k) (right k)) equal

sides_agree : (make : Term → Term → Condition) → ((x y : Term) → Same (make x y) (make y x)) → (x y u v : Term) → same_sides x y u v ≡ true → Same (make x y) (make u v)
sides_agree make exchanged x y u v e =
    elim (or_cases (same_term x u && same_term y v) (same_term x v && same_term y u) e) [
      | inl straight ↦ terms_agree make x y u v straight
      | inr crossed ↦
          let p = and_parts (same_term x v) (same_term y u) crossed in
          let left : x ≡ v = same_term-is x v p.0 in
          let right : y ≡ u = same_term-is y u p.1 in
          subst (Same (make x y)) (λ k. make (right k) (left k)) (exchanged x y)
    ]

pub Same_of : (c d : Condition) → same_condition c d ≡ true → Same c d
Same_of True True e = equal
Same_of False False e = equal
Same_of (Eq x y) (Eq u v) e = sides_agree Eq (λ x y. equation) x y u v e
Same_of (Ne x y) (Ne u v) e = sides_agree Ne (λ x y. inequality) x y u v e
Same_of (Lt x y) (Lt u v) e = terms_agree Lt x y u v e
Same_of (Le x y) (Le u v) e = terms_agree Le x y u v e
Same_of (And a b) (And c d) e = let p = and_parts (same_condition a c) (same_condition b d) e in in_and (Same_of a c p.0) (Same_of b d p.1)
Same_of (Or a b) (Or c d) e = let p = and_parts (same_condition a c) (same_condition b d) e in in_or (Same_of a c p.0) (Same_of b d p.1)
Same_of (Not a) (Not c) e = in_not (Same_of a c e)
Same_of _ _ e = absurd (cc)

pub same_exactly : (b : Bool) (c d : Condition) → b ≡ same_condition c d → (IsTrue b → Same c d) × (Same c d → IsTrue b)
same_exactly b c d e = ((λ t. Same_of c d (sym e ∙ t)), λ s. e ∙ same_by s)

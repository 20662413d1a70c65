-- Meets and joins are bounds, and what strengthens a condition is simple and below it.
use Rattle.std.specs.Prelude.{◌≡◌, Bool, true, false, not, ◌&&◌, ◌||◌, cond, refl}
use Rattle.std.proofs.Common.{sym, ap, ◌∙◌, inl, inr, subst}
use Rattle.std.proofs.lemmas.Bool.{and_parts, and_from, or_cases, or_left, or_right, not-true}
use Rattle.gx_base.specs.declared.conditions.Term.{Term}
use Rattle.gx_base.specs.Conditions.{Condition, True, False, Ne, And, Or, holds, is_false}
use Rattle.gx_base.specs.Below.{IsBelow}
use Rattle.cond_lattice.specs.Grades.{are_across, is_simple}
use Rattle.cond_lattice.specs.Simple.{stands_in, all_stand_in, simply_below, Implies, is_near, joined_with, is_true, meet_of, join_of, strengthened, IsMeet, IsJoin}
use Rattle.cond_lattice.proofs.tables.GradeLemmas.{simple_nameless}
use Rattle.cond_lattice.proofs.bounds.Standing.{stands_by, stands_in-joined_with, is_plain, plain_simple, joined_plain}
use Rattle.cond_lattice.proofs.bounds.Implied.{is_false-is, simple_plain, stands_implies, false_implies, implies-simply_below}

is_true-is : (c : Condition) → is_true c ≡ true → c ≡ True
is_true-is True e = refl
is_true-is _ e = absurd (cc)

-- what a conjunction is simply below is no `false`, and all that stands there stands in it
record Covers (c d : Condition) : Type 0 where
  upper : is_false d ≡ false
  all : all_stand_in d c ≡ true

covers : (c d : Condition) → is_false c ≡ false → simply_below c d ≡ true → Covers c d
covers c d e below =
    elim (or_cases (is_false c) (not (is_false d) && all_stand_in d c) below) [
      | inl here ↦ absurd (let never : true ≡ false = sym here ∙ e in cc)
      | inr rest ↦ let p = and_parts (not (is_false d)) (all_stand_in d c) rest in record { upper = not-true _ p.0; all = p.1 }
    ]

-- a conjunction of all that stands in either is their meet
meet_by : (c d m : Condition) → is_plain c ≡ true → is_plain d ≡ true → is_plain m ≡ true
    → is_simple c ≡ true → is_simple d ≡ true
    → ((x y : Term) → stands_in x y m ≡ (stands_in x y c || stands_in x y d)) → IsMeet c d m
meet_by c d m plain_c plain_d plain_m simple_c simple_d stands = record {
  simple = plain_simple m plain_m;
  below_first = stands_implies m c plain_c (λ x y h. stands x y ∙ or_left _ _ h);
  below_second = stands_implies m d plain_d (λ x y h. stands x y ∙ or_right _ _ h);
  greatest = λ near_c near_d e simple_e near_e f g. by_cases near_c near_d e simple_e near_e f g (is_false e) refl;
}
  where
    by_cases : is_near c ≡ true → is_near d ≡ true → (e : Condition) → is_simple e ≡ true → is_near e ≡ true → Implies e c → Implies e d
        → (t : Bool) → is_false e ≡ t → Implies e m
    by_cases near_c near_d e simple_e near_e f g true none = false_implies e m none
    by_cases near_c near_d e simple_e near_e f g false some =
        let over_c : Covers e c = covers e c some (implies-simply_below e c simple_e simple_c near_e near_c f) in
        let over_d : Covers e d = covers e d some (implies-simply_below e d simple_e simple_d near_e near_d g) in
        stands_implies e m plain_m (λ x y h.
        elim (or_cases (stands_in x y c) (stands_in x y d) (sym (stands x y) ∙ h)) [
          | inl there ↦ stands_by x y c e there over_c.all
          | inr there ↦ stands_by x y d e there over_d.all
        ])

false_first : (c d : Condition) → is_false c ≡ true → IsMeet c d False
false_first c d e = record {
  simple = refl;
  below_first = false_implies False c refl;
  below_second = false_implies False d refl;
  greatest = λ near_c near_d x simple_x near_x f g first second seen t. ap (λ z. holds z first second seen) (sym (is_false-is c e)) ∙ f first second seen t;
}

false_second : (c d : Condition) → is_false d ≡ true → IsMeet c d False
false_second c d e = record {
  simple = refl;
  below_first = false_implies False c refl;
  below_second = false_implies False d refl;
  greatest = λ near_c near_d x simple_x near_x f g first second seen t. ap (λ z. holds z first second seen) (sym (is_false-is d e)) ∙ g first second seen t;
}

or_false : (p : Bool) → p ≡ (p || false)
or_false true = refl
or_false false = refl

twice_each : (p q : Bool) → ((false || (p && p)) || (q && q)) ≡ (p || q)
twice_each true q = refl
twice_each false true = refl
twice_each false false = refl

joined_meet : (c d : Condition) → is_plain c ≡ true → is_plain d ≡ true → is_simple c ≡ true → is_simple d ≡ true
    → IsMeet c d (joined_with (joined_with True c c) d d)
joined_meet c d plain_c plain_d simple_c simple_d =
    let built : Condition = joined_with True c c in
    meet_by c d (joined_with built d d) plain_c plain_d (joined_plain built d d (joined_plain True c c refl plain_c) plain_d) simple_c simple_d (λ x y.
    stands_in-joined_with x y built d d
    ∙ ap (λ p. p || (stands_in x y d && stands_in x y d)) (stands_in-joined_with x y True c c)
    ∙ twice_each (stands_in x y c) (stands_in x y d))

pub meet_of-bound : (c d : Condition) → is_simple c ≡ true → is_simple d ≡ true → IsMeet c d (meet_of c d)
meet_of-bound c d simple_c simple_d = by_cases (is_false c) (is_false d) (is_true c) (is_true d) refl refl refl refl
  where
    by_cases : (no_c no_d all_c all_d : Bool) → is_false c ≡ no_c → is_false d ≡ no_d → is_true c ≡ all_c → is_true d ≡ all_d
        → IsMeet c d (cond no_c False (cond no_d False (cond all_c d (cond all_d c (joined_with (joined_with True c c) d d)))))
    by_cases true no_d all_c all_d e f g h = false_first c d e
    by_cases false true all_c all_d e f g h = false_second c d f
    by_cases false false true all_d e f g h =
        let plain_d : is_plain d ≡ true = simple_plain d simple_d f in
        meet_by c d d (simple_plain c simple_c e) plain_d plain_d simple_c simple_d (λ x y. ap (λ z. stands_in x y z || stands_in x y d) (sym (is_true-is c g)))
    by_cases false false false true e f g h =
        let plain_c : is_plain c ≡ true = simple_plain c simple_c e in
        meet_by c d c plain_c (simple_plain d simple_d f) plain_c simple_c simple_d (λ x y.
        or_false (stands_in x y c) ∙ ap (λ z. stands_in x y c || stands_in x y z) (sym (is_true-is d h)))
    by_cases false false false false e f g h = joined_meet c d (simple_plain c simple_c e) (simple_plain d simple_d f) simple_c simple_d

pub is_meet : (c d m : Condition) → is_simple c ≡ true → is_simple d ≡ true → m ≡ meet_of c d → IsMeet c d m
is_meet c d m simple_c simple_d e = subst (λ (z : Condition). IsMeet c d z) (sym e) (meet_of-bound c d simple_c simple_d)

-- a conjunction of all that stands in both is their join
joined_join : (c d : Condition) → is_false c ≡ false → is_false d ≡ false → is_simple c ≡ true → is_simple d ≡ true → IsJoin c d (joined_with True c d)
joined_join c d some_c some_d simple_c simple_d = record {
  simple = plain_simple m plain_m;
  above_first = stands_implies c m plain_m (λ x y h. (and_parts (stands_in x y c) (stands_in x y d) (sym (stands x y) ∙ h)).0);
  above_second = stands_implies d m plain_m (λ x y h. (and_parts (stands_in x y c) (stands_in x y d) (sym (stands x y) ∙ h)).1);
  least = λ near_c near_d e simple_e near_e f g.
      let over_c : Covers c e = covers c e some_c (implies-simply_below c e simple_c simple_e near_c near_e f) in
      let over_d : Covers d e = covers d e some_d (implies-simply_below d e simple_d simple_e near_d near_e g) in
      stands_implies m e (simple_plain e simple_e over_c.upper) (λ x y h.
      stands x y ∙ and_from _ _ (stands_by x y e c h over_c.all) (stands_by x y e d h over_d.all));
}
  where
    m : Condition
    m = joined_with True c d

    plain_m : is_plain (joined_with True c d) ≡ true
    plain_m = joined_plain True c d refl (simple_plain c simple_c some_c)

    stands : (x y : Term) → stands_in x y (joined_with True c d) ≡ (stands_in x y c && stands_in x y d)
    stands x y = stands_in-joined_with x y True c d

pub join_of-bound : (c d : Condition) → is_simple c ≡ true → is_simple d ≡ true → IsJoin c d (join_of c d)
join_of-bound c d simple_c simple_d = by_cases (is_false c) (is_false d) refl refl
  where
    by_cases : (no_c no_d : Bool) → is_false c ≡ no_c → is_false d ≡ no_d → IsJoin c d (cond no_c d (cond no_d c (joined_with True c d)))
    by_cases true no_d e f = record {
      simple = simple_d;
      above_first = false_implies c d e;
      above_second = λ first second seen t. t;
      least = λ near_c near_d x simple_x near_x h k. k;
    }
    by_cases false true e f = record {
      simple = simple_c;
      above_first = λ first second seen t. t;
      above_second = false_implies d c f;
      least = λ near_c near_d x simple_x near_x h k. h;
    }
    by_cases false false e f = joined_join c d e f simple_c simple_d

pub is_join : (c d m : Condition) → is_simple c ≡ true → is_simple d ≡ true → m ≡ join_of c d → IsJoin c d m
is_join c d m simple_c simple_d e = subst (λ (z : Condition). IsJoin c d z) (sym e) (join_of-bound c d simple_c simple_d)

-- what strengthens a condition

record Strengthens (c s : Condition) : Type 0 where
  simple : is_simple s ≡ true
  below : Implies s c

false_strengthens : (c : Condition) → Strengthens c False
false_strengthens c = record { simple = refl; below = false_implies False c refl }

inequality_strengthens : (x y : Term) (t : Bool) → are_across x y ≡ t → Strengthens (Ne x y) (cond t (Ne x y) False)
inequality_strengthens x y true e = record { simple = e; below = λ first second seen t. t }
inequality_strengthens x y false e = false_strengthens (Ne x y)

or_strengthens : (a b s r : Condition) (t : Bool) → Strengthens a s → Strengthens b r → Strengthens (Or a b) (cond t r s)
or_strengthens a b s r true left right = record { simple = right.simple; below = λ first second seen t. or_right _ _ (right.below first second seen t) }
or_strengthens a b s r false left right = record { simple = left.simple; below = λ first second seen t. or_left _ _ (left.below first second seen t) }

and_strengthens : (a b s r : Condition) → Strengthens a s → Strengthens b r → Strengthens (And a b) (meet_of s r)
and_strengthens a b s r left right =
    let bound : IsMeet s r (meet_of s r) = meet_of-bound s r left.simple right.simple in
    record {
      simple = bound.simple;
      below = λ first second seen t. and_from _ _ (left.below first second seen (bound.below_first first second seen t)) (right.below first second seen (bound.below_second first second seen t));
    }

strengthens : (c : Condition) → Strengthens c (strengthened c)
strengthens True = record { simple = refl; below = λ first second seen t. t }
strengthens (Ne x y) = inequality_strengthens x y (are_across x y) refl
strengthens (And a b) = and_strengthens a b (strengthened a) (strengthened b) (strengthens a) (strengthens b)
strengthens (Or a b) = or_strengthens a b (strengthened a) (strengthened b) (is_false (strengthened a)) (strengthens a) (strengthens b)
strengthens _ = false_strengthens _

pub strengthened-simple : (c : Condition) → is_simple (strengthened c) ≡ true
strengthened-simple c = (strengthens c).simple

nameless_names : (t u : Bool) → t ≡ false → t ≡ true → u ≡ true
nameless_names t u never named = absurd (cc)

strengthened-IsBelow : (c : Condition) → IsBelow (strengthened c) c
strengthened-IsBelow c = record {
  truth = (strengthens c).below;
  terms = λ side named. nameless_names _ _ (simple_nameless side (strengthened c) (strengthened-simple c)) named;
}

pub is_strengthened : (c s : Condition) → s ≡ strengthened c → IsBelow s c
is_strengthened c s e = subst (λ (z : Condition). IsBelow z c) (sym e) (strengthened-IsBelow c)

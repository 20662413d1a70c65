-- Which inequalities stand in a conjunction.
use Rattle.std.specs.Prelude.{◌≡◌, Bool, true, false, ◌&&◌, ◌||◌, cond, refl}
use Rattle.std.proofs.Common.{sym, ap, ◌∙◌, inl, inr}
use Rattle.std.proofs.lemmas.Bool.{and_parts, and_from, or_cases, or_left, or_right}
use Rattle.gx_base.specs.declared.conditions.Term.{Term}
use Rattle.gx_base.specs.Conditions.{Condition, True, False, Ne, And}
use Rattle.cond_lattice.specs.Grades.{are_across, is_conjunction, is_simple}
use Rattle.cond_lattice.specs.Same.{same_term, same_sides}
use Rattle.cond_lattice.specs.Simple.{stands_in, all_stand_in, with_inequality, joined_with}
use Rattle.cond_lattice.proofs.order.Sameness.{same_term-is, same_term-refl}

sides_turned : (p q r s : Bool) → ((p && q) || (r && s)) ≡ ((s && r) || (q && p))
sides_turned true true true true = refl
sides_turned true true true false = refl
sides_turned true true false true = refl
sides_turned true true false false = refl
sides_turned true false true true = refl
sides_turned true false true false = refl
sides_turned true false false true = refl
sides_turned true false false false = refl
sides_turned false true true true = refl
sides_turned false true true false = refl
sides_turned false true false true = refl
sides_turned false true false false = refl
sides_turned false false true true = refl
sides_turned false false true false = refl
sides_turned false false false true = refl
sides_turned false false false false = refl

pub same_sides-refl : (x y : Term) → same_sides x y x y ≡ true
same_sides-refl x y = or_left _ _ (and_from _ _ (same_term-refl x) (same_term-refl y))

-- an inequality stands as well with its sides exchanged
pub stands_in-turned : (x y : Term) (c : Condition) → stands_in x y c ≡ stands_in y x c
stands_in-turned x y (Ne u v) = sides_turned (same_term x u) (same_term y v) (same_term x v) (same_term y u)
stands_in-turned x y (And a b) = λ k. stands_in-turned x y a k || stands_in-turned x y b k
stands_in-turned x y _ = refl

-- inequalities that are the same stand in the same conjunctions
pub stands_in-same : (x y u v : Term) (c : Condition) → same_sides x y u v ≡ true → stands_in x y c ≡ stands_in u v c
stands_in-same x y u v c e =
    elim (or_cases (same_term x u && same_term y v) (same_term x v && same_term y u) e) [
      | inl straight ↦
          let p = and_parts _ _ straight in
          let left : x ≡ u = same_term-is x u p.0 in
          let right : y ≡ v = same_term-is y v p.1 in
          λ k. stands_in (left k) (right k) c
      | inr crossed ↦
          let p = and_parts _ _ crossed in
          let left : x ≡ v = same_term-is x v p.0 in
          let right : y ≡ u = same_term-is y u p.1 in
          (λ k. stands_in (left k) (right k) c) ∙ stands_in-turned v u c
    ]

pub stands_by : (x y : Term) (c d : Condition) → stands_in x y c ≡ true → all_stand_in c d ≡ true → stands_in x y d ≡ true
stands_by x y (Ne u v) d h all = stands_in-same x y u v d h ∙ all
stands_by x y (And a b) d h all =
    let p = and_parts (all_stand_in a d) (all_stand_in b d) all in
    elim (or_cases (stands_in x y a) (stands_in x y b) h) [
      | inl there ↦ stands_by x y a d there p.0
      | inr there ↦ stands_by x y b d there p.1
    ]
stands_by x y _ d h all = absurd (cc)

pub all_stand_from : (c d : Condition) → ((x y : Term) → stands_in x y c ≡ true → stands_in x y d ≡ true) → all_stand_in c d ≡ true
all_stand_from (Ne x y) d f = f x y (same_sides-refl x y)
all_stand_from (And a b) d f =
    and_from _ _ (all_stand_from a d (λ x y h. f x y (or_left _ _ h))) (all_stand_from b d (λ x y h. f x y (or_right _ _ h)))
all_stand_from _ d f = refl

-- what stands in what is built

or_absorbed : (p q : Bool) → (q ≡ true → p ≡ true) → p ≡ (p || q)
or_absorbed true q f = refl
or_absorbed false true f = absurd (let no : false ≡ true = f refl in cc)
or_absorbed false false f = refl

with_if : (u v x y : Term) (c : Condition) (t : Bool) → stands_in x y c ≡ t
    → stands_in u v (cond t c (And c (Ne x y))) ≡ (stands_in u v c || same_sides u v x y)
with_if u v x y c true e = or_absorbed (stands_in u v c) (same_sides u v x y) (λ same. stands_in-same u v x y c same ∙ e)
with_if u v x y c false e = refl

pub stands_in-with_inequality : (u v x y : Term) (c : Condition) → stands_in u v (with_inequality c x y) ≡ (stands_in u v c || same_sides u v x y)
stands_in-with_inequality u v x y True = refl
stands_in-with_inequality u v x y c = with_if u v x y c (stands_in x y c) refl

or_false : (p : Bool) → p ≡ (p || false)
or_false true = refl
or_false false = refl

and_absorbed : (p q : Bool) → (p ≡ true → q ≡ true) → p ≡ (p && q)
and_absorbed true q f = sym (f refl)
and_absorbed false q f = refl

or_regrouped : (p a b k : Bool) → ((p || (a && k)) || (b && k)) ≡ (p || ((a || b) && k))
or_regrouped true a b k = refl
or_regrouped false true b true = refl
or_regrouped false true true false = refl
or_regrouped false true false false = refl
or_regrouped false false b k = refl

kept_if : (u v x y : Term) (built kept : Condition) (t : Bool) → stands_in x y kept ≡ t
    → stands_in u v (cond t (with_inequality built x y) built) ≡ (stands_in u v built || (same_sides u v x y && stands_in u v kept))
kept_if u v x y built kept true e =
    stands_in-with_inequality u v x y built
    ∙ ap (λ q. stands_in u v built || q) (and_absorbed (same_sides u v x y) (stands_in u v kept) (λ same. stands_in-same u v x y kept same ∙ e))
kept_if u v x y built kept false e =
    or_absorbed (stands_in u v built) (same_sides u v x y && stands_in u v kept) (λ both.
    let p = and_parts (same_sides u v x y) (stands_in u v kept) both in
    let there : stands_in x y kept ≡ true = sym (stands_in-same u v x y kept p.0) ∙ p.1 in
    absurd (let no : false ≡ true = sym e ∙ there in cc))

pub stands_in-joined_with : (u v : Term) (built c kept : Condition)
    → stands_in u v (joined_with built c kept) ≡ (stands_in u v built || (stands_in u v c && stands_in u v kept))
stands_in-joined_with u v built (Ne x y) kept = kept_if u v x y built kept (stands_in x y kept) refl
stands_in-joined_with u v built (And a b) kept =
    stands_in-joined_with u v (joined_with built a kept) b kept
    ∙ ap (λ p. p || (stands_in u v b && stands_in u v kept)) (stands_in-joined_with u v built a kept)
    ∙ or_regrouped (stands_in u v built) (stands_in u v a) (stands_in u v b) (stands_in u v kept)
stands_in-joined_with u v built _ kept = or_false (stands_in u v built)

-- true, or a conjunction of inequalities
abbrev pub is_plain : Condition → Bool
is_plain True = true
is_plain c = is_conjunction c

pub plain_simple : (c : Condition) → is_plain c ≡ true → is_simple c ≡ true
plain_simple True e = refl
plain_simple False e = refl
plain_simple _ e = e

with_plain_if : (c : Condition) (x y : Term) (t : Bool) → is_conjunction c ≡ true → are_across x y ≡ true → is_plain c ≡ true → is_plain (cond t c (And c (Ne x y))) ≡ true
with_plain_if c x y true e across plain = plain
with_plain_if c x y false e across plain = and_from _ _ e across

with_plain : (c : Condition) (x y : Term) → is_plain c ≡ true → are_across x y ≡ true → is_plain (with_inequality c x y) ≡ true
with_plain True x y e across = across
with_plain (Ne u v) x y e across = with_plain_if (Ne u v) x y (stands_in x y (Ne u v)) e across e
with_plain (And a b) x y e across = with_plain_if (And a b) x y (stands_in x y (And a b)) e across e
with_plain _ x y e across = absurd (cc)

kept_plain : (built : Condition) (x y : Term) (t : Bool) → is_plain built ≡ true → are_across x y ≡ true → is_plain (cond t (with_inequality built x y) built) ≡ true
kept_plain built x y true e across = with_plain built x y e across
kept_plain built x y false e across = e

joined_conjunction : (built c kept : Condition) → is_plain built ≡ true → is_conjunction c ≡ true → is_plain (joined_with built c kept) ≡ true
joined_conjunction built (Ne x y) kept e across = kept_plain built x y (stands_in x y kept) e across
joined_conjunction built (And a b) kept e h =
    let p = and_parts (is_conjunction a) (is_conjunction b) h in
    joined_conjunction (joined_with built a kept) b kept (joined_conjunction built a kept e p.0) p.1
joined_conjunction built _ kept e h = e

pub joined_plain : (built c kept : Condition) → is_plain built ≡ true → is_plain c ≡ true → is_plain (joined_with built c kept) ≡ true
joined_plain built True kept e h = e
joined_plain built (Ne x y) kept e h = joined_conjunction built (Ne x y) kept e h
joined_plain built (And a b) kept e h = joined_conjunction built (And a b) kept e h
joined_plain built _ kept e h = absurd (cc)

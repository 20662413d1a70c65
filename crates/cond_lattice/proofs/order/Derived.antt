-- `is_derived` says yes exactly where a derivation exists, and a derivation is sound.
use Rattle.std.specs.Prelude.{◌≡◌, Bool, true, false, not, ◌&&◌, ◌||◌, refl, IsTrue}
use Rattle.std.proofs.Common.{sym, ◌∙◌, inl, inr}
use Rattle.std.proofs.lemmas.Bool.{and_parts, and_from, or_cases, or_left, or_right}
use Rattle.gx_base.specs.declared.calls.Made.{Made}
use Rattle.gx_base.specs.declared.calls.Seen.{Seen}
use Rattle.gx_base.specs.declared.conditions.Side.{Side}
use Rattle.gx_base.specs.declared.conditions.Side.TheVariants.{First, Second}
use Rattle.gx_base.specs.Conditions.{Condition, True, False, And, Or, holds}
use Rattle.gx_base.specs.Below.{names_state, IsBelow}
use Rattle.cond_lattice.specs.Same.{same_condition}
use Rattle.cond_lattice.specs.Derivations.{Derivation, lower_false, upper_true, same, lower_or, upper_and, lower_and_left, lower_and_right, upper_or_left, upper_or_right, unit_below, and_below, is_derived, names_as_little, IsRowBelow}
use Rattle.cond_lattice.proofs.order.Sameness.{holds-Same, Same_of, same_by}

-- From a yes to a derivation.

unit_derives : (c d : Condition) → unit_below (same_condition c) d ≡ true → Derivation c d
unit_derives c True e = upper_true
unit_derives c (And a b) e =
    let p = and_parts (unit_below (same_condition c) a) (unit_below (same_condition c) b) e in
    upper_and (unit_derives c a p.0) (unit_derives c b p.1)
unit_derives c (Or a b) e =
    elim (or_cases (unit_below (same_condition c) a) (unit_below (same_condition c) b) e) [
      | inl h ↦ upper_or_left (unit_derives c a h)
      | inr h ↦ upper_or_right (unit_derives c b h)
    ]
unit_derives c _ e = same (Same_of c _ e)

and_derives : (a b d : Condition) → ((e : Condition) → is_derived a e ≡ true → Derivation a e) → ((e : Condition) → is_derived b e ≡ true → Derivation b e)
    → and_below (is_derived a) (is_derived b) d ≡ true → Derivation (And a b) d
and_derives a b True left right t = upper_true
and_derives a b (And e f) left right t =
    let p = and_parts (and_below (is_derived a) (is_derived b) e) (and_below (is_derived a) (is_derived b) f) t in
    upper_and (and_derives a b e left right p.0) (and_derives a b f left right p.1)
and_derives a b (Or e f) left right t =
    elim (or_cases (is_derived a (Or e f) || is_derived b (Or e f) || and_below (is_derived a) (is_derived b) e) (and_below (is_derived a) (is_derived b) f) t) [
      | inr h ↦ upper_or_right (and_derives a b f left right h)
      | inl s ↦ elim (or_cases (is_derived a (Or e f) || is_derived b (Or e f)) (and_below (is_derived a) (is_derived b) e) s) [
        | inr h ↦ upper_or_left (and_derives a b e left right h)
        | inl r ↦ elim (or_cases (is_derived a (Or e f)) (is_derived b (Or e f)) r) [
          | inl h ↦ lower_and_left (left (Or e f) h)
          | inr h ↦ lower_and_right (right (Or e f) h)
        ]
      ]
    ]
and_derives a b d left right t =
    elim (or_cases _ _ t) [
      | inl h ↦ lower_and_left (left _ h)
      | inr h ↦ lower_and_right (right _ h)
    ]

pub derivation_of : (c d : Condition) → is_derived c d ≡ true → Derivation c d
derivation_of False d e = lower_false
derivation_of (And a b) d e = and_derives a b d (derivation_of a) (derivation_of b) e
derivation_of (Or a b) d e =
    let p = and_parts (is_derived a d) (is_derived b d) e in
    lower_or (derivation_of a d p.0) (derivation_of b d p.1)
derivation_of c d e = unit_derives _ d e

-- From a derivation to a yes.

and_shuffle : (p q r s : Bool) → ((p && q) && (r && s)) ≡ ((p && r) && (q && s))
and_shuffle true true r s = refl
and_shuffle true false true s = refl
and_shuffle true false false s = refl
and_shuffle false q r s = refl

-- a condition is below an `and` where it is below both sides
pub is_derived-and : (c a b : Condition) → is_derived c (And a b) ≡ (is_derived c a && is_derived c b)
is_derived-and False a b = refl
is_derived-and (Or x y) a b =
    (λ k. is_derived-and x a b k && is_derived-and y a b k)
    ∙ and_shuffle (is_derived x a) (is_derived x b) (is_derived y a) (is_derived y b)
is_derived-and _ a b = refl

-- every condition is below `true`
pub is_derived-true : (c : Condition) → is_derived c True ≡ true
is_derived-true (Or x y) = and_from _ _ (is_derived-true x) (is_derived-true y)
is_derived-true _ = refl

pub or_left_above : (c a b : Condition) → is_derived c a ≡ true → is_derived c (Or a b) ≡ true
or_left_above False a b h = refl
or_left_above (And x y) a b h = or_left _ _ (or_right _ _ h)
or_left_above (Or x y) a b h =
    let p = and_parts (is_derived x a) (is_derived y a) h in
    and_from _ _ (or_left_above x a b p.0) (or_left_above y a b p.1)
or_left_above _ a b h = or_left _ _ h

pub or_right_above : (c a b : Condition) → is_derived c b ≡ true → is_derived c (Or a b) ≡ true
or_right_above False a b h = refl
or_right_above (And x y) a b h = or_right _ _ h
or_right_above (Or x y) a b h =
    let p = and_parts (is_derived x b) (is_derived y b) h in
    and_from _ _ (or_right_above x a b p.0) (or_right_above y a b p.1)
or_right_above _ a b h = or_right _ _ h

pub and_left_below : (a b d : Condition) → is_derived a d ≡ true → is_derived (And a b) d ≡ true
and_left_below a b True h = refl
and_left_below a b (And e f) h =
    let p = and_parts (is_derived a e) (is_derived a f) (sym (is_derived-and a e f) ∙ h) in
    and_from _ _ (and_left_below a b e p.0) (and_left_below a b f p.1)
and_left_below a b (Or e f) h = or_left _ _ (or_left _ _ (or_left _ _ h))
and_left_below a b _ h = or_left _ _ h

pub and_right_below : (a b d : Condition) → is_derived b d ≡ true → is_derived (And a b) d ≡ true
and_right_below a b True h = refl
and_right_below a b (And e f) h =
    let p = and_parts (is_derived b e) (is_derived b f) (sym (is_derived-and b e f) ∙ h) in
    and_from _ _ (and_right_below a b e p.0) (and_right_below a b f p.1)
and_right_below a b (Or e f) h = or_left _ _ (or_left _ _ (or_right _ _ h))
and_right_below a b _ h = or_right _ _ h

unit_same : (is_same : Condition → Bool) → ((a b : Condition) → is_same (And a b) ≡ false) → ((a b : Condition) → is_same (Or a b) ≡ false)
    → (d : Condition) → is_same d ≡ true → unit_below is_same d ≡ true
unit_same is_same no_and no_or True h = refl
unit_same is_same no_and no_or (And a b) h = let no : is_same (And a b) ≡ false = no_and a b in absurd (cc)
unit_same is_same no_and no_or (Or a b) h = let no : is_same (Or a b) ≡ false = no_or a b in absurd (cc)
unit_same is_same no_and no_or _ h = h

pub same_derived : (c d : Condition) → same_condition c d ≡ true → is_derived c d ≡ true
same_derived False d e = refl
same_derived (And a b) (And c d) e =
    let p = and_parts (same_condition a c) (same_condition b d) e in
    and_from _ _ (and_left_below a b c (same_derived a c p.0)) (and_right_below a b d (same_derived b d p.1))
same_derived (And a b) _ e = absurd (cc)
same_derived (Or a b) (Or c d) e =
    let p = and_parts (same_condition a c) (same_condition b d) e in
    and_from _ _ (or_left_above a c d (same_derived a c p.0)) (or_right_above b c d (same_derived b d p.1))
same_derived (Or a b) _ e = absurd (cc)
same_derived c d e = unit_same (same_condition c) (λ a b. refl) (λ a b. refl) d e

pub derived_by : {c d : Condition} → Derivation c d → is_derived c d ≡ true
derived_by lower_false = refl
derived_by (upper_true {c}) = is_derived-true c
derived_by (same {c} {d} e) = same_derived c d (same_by e)
derived_by (lower_or left right) = and_from _ _ (derived_by left) (derived_by right)
derived_by (upper_and {c} {a} {b} left right) = is_derived-and c a b ∙ and_from _ _ (derived_by left) (derived_by right)
derived_by (lower_and_left {a} {b} {d} r) = and_left_below a b d (derived_by r)
derived_by (lower_and_right {a} {b} {d} r) = and_right_below a b d (derived_by r)
derived_by (upper_or_left {c} {a} {b} r) = or_left_above c a b (derived_by r)
derived_by (upper_or_right {c} {a} {b} r) = or_right_above c a b (derived_by r)

-- A derivation is sound.

pub derivation_sound : {c d : Condition} → Derivation c d → (first second : Made) (seen : Seen) → holds c first second seen ≡ true → holds d first second seen ≡ true
derivation_sound lower_false first second seen t = absurd (cc)
derivation_sound upper_true first second seen t = refl
derivation_sound (same e) first second seen t = sym (holds-Same e first second seen) ∙ t
derivation_sound (lower_or left right) first second seen t =
    elim (or_cases _ _ t) [
      | inl h ↦ derivation_sound left first second seen h
      | inr h ↦ derivation_sound right first second seen h
    ]
derivation_sound (upper_and left right) first second seen t =
    and_from _ _ (derivation_sound left first second seen t) (derivation_sound right first second seen t)
derivation_sound (lower_and_left r) first second seen t = derivation_sound r first second seen (and_parts _ _ t).0
derivation_sound (lower_and_right r) first second seen t = derivation_sound r first second seen (and_parts _ _ t).1
derivation_sound (upper_or_left r) first second seen t = or_left _ _ (derivation_sound r first second seen t)
derivation_sound (upper_or_right r) first second seen t = or_right _ _ (derivation_sound r first second seen t)

-- a row that is below another by the rules is below it
pub IsRowBelow-sound : {c d : Condition} → IsRowBelow c d → IsBelow c d
IsRowBelow-sound b = record { truth = derivation_sound b.derivation; terms = b.terms }

-- a row is below another by the rules exactly where both tests say so

unless_named : (p q : Bool) → (not p || q) ≡ true → p ≡ true → q ≡ true
unless_named true q e h = e
unless_named false q e h = absurd (cc)

named_only : (p q : Bool) → (p ≡ true → q ≡ true) → (not p || q) ≡ true
named_only true q f = f refl
named_only false q f = refl

terms_from : (c d : Condition) → names_as_little c d ≡ true → (side : Side) → names_state side c ≡ true → names_state side d ≡ true
terms_from c d e First h = unless_named _ _ (and_parts (not (names_state First c) || names_state First d) (not (names_state Second c) || names_state Second d) e).0 h
terms_from c d e Second h = unless_named _ _ (and_parts (not (names_state First c) || names_state First d) (not (names_state Second c) || names_state Second d) e).1 h

pub row_rules : (b : Bool) (c d : Condition) → b ≡ (is_derived c d && names_as_little c d) → (IsTrue b → IsRowBelow c d) × (IsRowBelow c d → IsTrue b)
row_rules b c d e = (
  (λ t. let p = and_parts (is_derived c d) (names_as_little c d) (sym e ∙ t) in
      record { derivation = derivation_of c d p.0; terms = terms_from c d p.1 }),
  λ r. e ∙ and_from _ _ (derived_by r.derivation)
      (and_from _ _ (named_only _ _ (r.terms First)) (named_only _ _ (r.terms Second))),
)

pub row_sound : (b : Bool) (c d : Condition) → b ≡ (is_derived c d && names_as_little c d) → IsTrue b → IsBelow c d
row_sound b c d e t = IsRowBelow-sound ((row_rules b c d e).0 t)

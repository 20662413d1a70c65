-- The numbers of the values that stand in inequalities are among those that are locked.
use Rattle.std.specs.Prelude.{◌≡◌, ℕ, ◌==◌, Bool, true, false, cond, ◌&&◌, ◌||◌, ◌⊎◌, nat_le, Some, None, List, [], ◌∷◌, map, length, Contains, refl}
use Rattle.std.proofs.Common.{sym, ap, subst, inl, inr}
use Rattle.std.proofs.lemmas.Bool.{or_cases, and_parts, and_from, eqb-true, eq-eqb}
use Rattle.gx_base.specs.declared.conditions.Side.{Side}
use Rattle.gx_base.specs.declared.conditions.Side.TheVariants.{First, Second}
use Rattle.gx_base.specs.declared.conditions.Term.{Term}
use Rattle.gx_base.specs.declared.conditions.Term.TheVariants.{Const, Value, Beyond, State}
use Rattle.gx_base.specs.Conditions.{Condition, Ne, And}
use Rattle.gx_base.specs.Below.{same_side}
use Rattle.gx_base.specs.Methods.{first_method, words_of, methods_of, is_method}
use Rattle.gx_base.specs.Tables.{Rows}
use Rattle.gx_base.proofs.CallerLemmas.{within_of}
use Rattle.cond_lattice.specs.Grades.{are_across, is_conjunction}
use Rattle.cond_lattice.specs.Same.{same_sides}
use Rattle.cond_lattice.specs.Simple.{stands_in}
use Rattle.lock_compiler.specs.Compiled.{with_its_number, with_term, with_condition, with_methods, locked_numbers, method_members, members_of}
use Rattle.lock_compiler.proofs.containing.Members.{none_in, first_in, later_in, in_either, map_in, flat_map_in, range_in}

has_by : (n m : ℕ) (ms : List ℕ) (low same : Bool) → (n == m) ≡ same → Contains (with_its_number n ms) n → Contains (cond low (cond same (m ∷ ms) (n ∷ m ∷ ms)) (m ∷ with_its_number n ms)) n
has_by n m ms true true e rest = subst (λ k. Contains (m ∷ ms) k) (sym (eqb-true n m e)) (first_in m ms)
has_by n m ms true false e rest = first_in n (m ∷ ms)
has_by n m ms false same e rest = later_in m (with_its_number n ms) n rest

pub with_number-has : (n : ℕ) (xs : List ℕ) → Contains (with_its_number n xs) n
with_number-has n [] = first_in n []
with_number-has n (m ∷ ms) = has_by n m ms (nat_le n m) (n == m) refl (with_number-has n ms)

keeps_by : (n m : ℕ) (ms : List ℕ) (low same : Bool) (q : ℕ) → Contains (m ∷ ms) q → (Contains ms q → Contains (with_its_number n ms) q)
    → Contains (cond low (cond same (m ∷ ms) (n ∷ m ∷ ms)) (m ∷ with_its_number n ms)) q
keeps_by n m ms true true q h rest = h
keeps_by n m ms true false q h rest = later_in n (m ∷ ms) q h
keeps_by n m ms false same q h rest =
    elim (in_either m ms q h) [
      | inl e ↦ subst (λ k. Contains (m ∷ with_its_number n ms) k) e (first_in m (with_its_number n ms))
      | inr there ↦ later_in m (with_its_number n ms) q (rest there)
    ]

with_number-keeps : (n : ℕ) (xs : List ℕ) (q : ℕ) → Contains xs q → Contains (with_its_number n xs) q
with_number-keeps n [] q h = absurd (none_in q h)
with_number-keeps n (m ∷ ms) q h = keeps_by n m ms (nat_le n m) (n == m) q h (with_number-keeps n ms q)

on_side : (b : Bool) (place : ℕ) (xs : List ℕ) (q : ℕ) → Contains xs q → Contains (cond b (with_its_number place xs) xs) q
on_side true place xs q h = with_number-keeps place xs q h
on_side false place xs q h = h

with_term-keeps : (side : Side) (t : Term) (xs : List ℕ) (q : ℕ) → Contains xs q → Contains (with_term side t xs) q
with_term-keeps side (Value other place) xs q h = on_side (same_side side other) place xs q h
with_term-keeps side _ xs q h = h

with_condition-keeps : (side : Side) (c : Condition) (xs : List ℕ) (q : ℕ) → Contains xs q → Contains (with_condition side c xs) q
with_condition-keeps side (Ne x y) xs q h = with_term-keeps side y (with_term side x xs) q (with_term-keeps side x xs q h)
with_condition-keeps side (And a b) xs q h = with_condition-keeps side b (with_condition side a xs) q (with_condition-keeps side a xs q h)
with_condition-keeps side _ xs q h = h

-- the sides of an inequality of a value of the first call and one of the second
record AreValues (x y : Term) (i j : ℕ) : Type 0 where
  either : ((x ≡ Value First i) × (y ≡ Value Second j)) ⊎ ((x ≡ Value Second j) × (y ≡ Value First i))

turned : (x y : Term) (i j : ℕ) → AreValues x y i j → AreValues y x i j
turned x y i j v = record { either = elim v.either [ inl p ↦ inr (p.1, p.0) | inr p ↦ inl (p.1, p.0) ] }

matched : (i j k l : ℕ) → ((i == k) && (j == l)) ≡ true → AreValues (Value First k) (Value Second l) i j
matched i j k l e =
    let p = and_parts (i == k) (j == l) e in
    record { either = inl (ap (λ n. Value First n) (sym (eqb-true i k p.0)), ap (λ n. Value Second n) (sym (eqb-true j l p.1))) }

pub itself : (i j : ℕ) → ((i == i) && (j == j)) ≡ true
itself i j = and_from (i == i) (j == j) (eq-eqb i i refl) (eq-eqb j j refl)

or_none : (b : Bool) → (b || false) ≡ true → b ≡ true
or_none true e = refl
or_none false e = e

values_stand : (i j : ℕ) (x y : Term) → are_across x y ≡ true → same_sides (Value First i) (Value Second j) x y ≡ true → AreValues x y i j
values_stand i j (Value First k) (Value Second l) h e = matched i j k l (or_none ((i == k) && (j == l)) e)
values_stand i j (Value Second l) (Value First k) h e = turned (Value First k) (Value Second l) i j (matched i j k l e)
values_stand i j (Value First k) (Value First l) h e = absurd (cc)
values_stand i j (Value Second k) (Value Second l) h e = absurd (cc)
values_stand i j (Value First k) (Const n) h e = absurd (cc)
values_stand i j (Value First k) (Beyond x y z) h e = absurd (cc)
values_stand i j (Value First k) (State s) h e = absurd (cc)
values_stand i j (Value Second k) (Const n) h e = absurd (cc)
values_stand i j (Value Second k) (Beyond x y z) h e = absurd (cc)
values_stand i j (Value Second k) (State s) h e = absurd (cc)
values_stand i j (Const n) y h e = absurd (cc)
values_stand i j (Beyond a b c) y h e = absurd (cc)
values_stand i j (State s) y h e = absurd (cc)

-- the number of the value on a side
abbrev pub number_on : Side → ℕ → ℕ → ℕ
number_on First i j = i
number_on Second i j = j

straight : (side : Side) (i j : ℕ) (xs : List ℕ) → Contains (with_condition side (Ne (Value First i) (Value Second j)) xs) (number_on side i j)
straight First i j xs = with_number-has i xs
straight Second i j xs = with_number-has j xs

crossed : (side : Side) (i j : ℕ) (xs : List ℕ) → Contains (with_condition side (Ne (Value Second j) (Value First i)) xs) (number_on side i j)
crossed First i j xs = with_number-has i xs
crossed Second i j xs = with_number-has j xs

has_values : (side : Side) (i j : ℕ) (x y : Term) (xs : List ℕ) → AreValues x y i j → Contains (with_condition side (Ne x y) xs) (number_on side i j)
has_values side i j x y xs v =
    elim v.either [
      | inl p ↦
          let P : Term → Term → Type 0 = λ u w. Contains (with_condition side (Ne u w) xs) (number_on side i j) in
          subst (λ w. P x w) (sym p.1) (subst (λ u. P u (Value Second j)) (sym p.0) (straight side i j xs))
      | inr p ↦
          let P : Term → Term → Type 0 = λ u w. Contains (with_condition side (Ne u w) xs) (number_on side i j) in
          subst (λ w. P x w) (sym p.1) (subst (λ u. P u (Value First i)) (sym p.0) (crossed side i j xs))
    ]

-- the numbers of an inequality that stands in a conjunction are collected
with_condition-has : (side : Side) (i j : ℕ) (c : Condition) (xs : List ℕ) → is_conjunction c ≡ true → stands_in (Value First i) (Value Second j) c ≡ true
    → Contains (with_condition side c xs) (number_on side i j)
with_condition-has side i j (Ne x y) xs h e = has_values side i j x y xs (values_stand i j x y h e)
with_condition-has side i j (And a b) xs h e =
    let p = and_parts (is_conjunction a) (is_conjunction b) h in
    elim (or_cases (stands_in (Value First i) (Value Second j) a) (stands_in (Value First i) (Value Second j) b) e) [
      | inl there ↦ with_condition-keeps side b (with_condition side a xs) (number_on side i j) (with_condition-has side i j a xs p.0 there)
      | inr there ↦ with_condition-has side i j b (with_condition side a xs) p.1 there
    ]
with_condition-has side i j _ xs h e = absurd (cc)

abbrev with_other : Rows → ℕ → ℕ → List ℕ → List ℕ
with_other rows method other xs = with_condition Second (rows other method) (with_condition First (rows method other) xs)

with_other-keeps : (rows : Rows) (method other : ℕ) (xs : List ℕ) (q : ℕ) → Contains xs q → Contains (with_other rows method other xs) q
with_other-keeps rows method other xs q h =
    with_condition-keeps Second (rows other method) (with_condition First (rows method other) xs) q (with_condition-keeps First (rows method other) xs q h)

with_methods-keeps : (rows : Rows) (method : ℕ) (others xs : List ℕ) (q : ℕ) → Contains xs q → Contains (with_methods rows method others xs) q
with_methods-keeps rows method [] xs q h = h
with_methods-keeps rows method (other ∷ others) xs q h =
    with_methods-keeps rows method others (with_other rows method other xs) q (with_other-keeps rows method other xs q h)

with_methods-has : (rows : Rows) (method other : ℕ) (others xs : List ℕ) (q : ℕ) → Contains others other → ((ys : List ℕ) → Contains (with_other rows method other ys) q)
    → Contains (with_methods rows method others xs) q
with_methods-has rows method other [] xs q h f = absurd (none_in other h)
with_methods-has rows method other (m ∷ ms) xs q h f =
    elim (in_either m ms other h) [
      | inl e ↦
          let P : ℕ → Type 0 = λ n. Contains (with_other rows method n xs) q in
          with_methods-keeps rows method ms (with_other rows method m xs) q (subst P (sym e) (f xs))
      | inr there ↦ with_methods-has rows method other ms (with_other rows method m xs) q there f
    ]

pub method_in : (kind method : ℕ) → is_method kind method ≡ true → Contains (methods_of kind) method
method_in kind method h =
    let within = within_of kind method h in
    range_in (first_method kind) (length (words_of kind)) method within.from within.upto

-- both values of an inequality that stands in a row are locked
pub first_locked : (kind : ℕ) (rows : Rows) (m n i j : ℕ) → is_method kind n ≡ true → is_conjunction (rows m n) ≡ true
    → stands_in (Value First i) (Value Second j) (rows m n) ≡ true → Contains (locked_numbers kind rows m) i
first_locked kind rows m n i j known conjunction stands =
    with_methods-has rows m n (methods_of kind) [] i (method_in kind n known) (λ ys.
    with_condition-keeps Second (rows n m) (with_condition First (rows m n) ys) i (with_condition-has First i j (rows m n) ys conjunction stands))

pub second_locked : (kind : ℕ) (rows : Rows) (m n i j : ℕ) → is_method kind m ≡ true → is_conjunction (rows m n) ≡ true
    → stands_in (Value First i) (Value Second j) (rows m n) ≡ true → Contains (locked_numbers kind rows n) j
second_locked kind rows m n i j known conjunction stands =
    with_methods-has rows n m (methods_of kind) [] j (method_in kind m known) (λ ys.
    with_condition-has Second i j (rows m n) (with_condition First (rows n m) ys) conjunction stands)

pub whole_in : (kind : ℕ) (rows : Rows) (method : ℕ) → is_method kind method ≡ true → Contains (members_of kind rows) (method, None)
whole_in kind rows method known =
    flat_map_in (method_members kind rows) (methods_of kind) method (method, None) (method_in kind method known)
    (first_in (method, None) (map (λ number. (method, Some number)) (locked_numbers kind rows method)))

pub value_in : (kind : ℕ) (rows : Rows) (method number : ℕ) → is_method kind method ≡ true → Contains (locked_numbers kind rows method) number → Contains (members_of kind rows) (method, Some number)
value_in kind rows method number known there =
    flat_map_in (method_members kind rows) (methods_of kind) method (method, Some number) (method_in kind method known)
    (later_in (method, None) (map (λ n. (method, Some n)) (locked_numbers kind rows method)) (method, Some number)
    (map_in (λ n. (method, Some n)) (locked_numbers kind rows method) number there))

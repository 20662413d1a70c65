-- The numbers that are locked are those of values in inequalities, and no others.
use Rattle.std.specs.Prelude.{◌≡◌, ℕ, ◌+◌, ◌==◌, Bool, true, false, cond, ◌&&◌, ◌⊎◌, nat_le, nat_lt, List, [], ◌∷◌, length, Contains}
use Rattle.std.proofs.Common.{subst, inl, inr}
use Rattle.std.proofs.lemmas.Bool.{and_parts, and_from, or_left, or_right, le-leb, lt-ltb}
use Rattle.gx_base.specs.declared.conditions.Side.{Side}
use Rattle.gx_base.specs.declared.conditions.Side.TheVariants.{First, Second}
use Rattle.gx_base.specs.declared.conditions.Term.{Term}
use Rattle.gx_base.specs.declared.conditions.Term.TheVariants.{Const, Value, Beyond, State}
use Rattle.gx_base.specs.Conditions.{Condition, True, False, Ne, And}
use Rattle.gx_base.specs.Methods.{first_method, words_of, methods_of, is_method}
use Rattle.gx_base.specs.Tables.{Rows}
use Rattle.cond_lattice.specs.Grades.{are_across, is_conjunction, is_simple, AreSimple}
use Rattle.cond_lattice.specs.Simple.{stands_in}
use Rattle.lock_compiler.specs.Compiled.{with_its_number, with_condition, with_methods, locked_numbers, StandsInSome}
use Rattle.lock_compiler.proofs.containing.Members.{none_in, first_in, later_in, in_either, in_range}
use Rattle.lock_compiler.proofs.collecting.LockedNumbers.{itself, first_locked, second_locked}
use Rattle.lock_compiler.proofs.clashing.Compiled.{simple_stands}

number_in_by : (n m : ℕ) (ms : List ℕ) (low same : Bool) (q : ℕ) → Contains (cond low (cond same (m ∷ ms) (n ∷ m ∷ ms)) (m ∷ with_its_number n ms)) q → (Contains (with_its_number n ms) q → (n ≡ q) ⊎ Contains ms q)
    → (n ≡ q) ⊎ Contains (m ∷ ms) q
number_in_by n m ms true true q h rest = inr h
number_in_by n m ms true false q h rest = in_either n (m ∷ ms) q h
number_in_by n m ms false same q h rest =
    elim (in_either m (with_its_number n ms) q h) [
      | inl e ↦ inr (subst (λ k. Contains (m ∷ ms) k) e (first_in m ms))
      | inr there ↦ elim (rest there) [ inl e ↦ inl e | inr old ↦ inr (later_in m ms q old) ]
    ]

number_in : (n : ℕ) (xs : List ℕ) (q : ℕ) → Contains (with_its_number n xs) q → (n ≡ q) ⊎ Contains xs q
number_in n [] q h = in_either n [] q h
number_in n (m ∷ ms) q h = number_in_by n m ms (nat_le n m) (n == m) q h (number_in n ms q)

-- the value with a number on a side stands in some inequality of a conjunction
abbrev StandsOn : Side → ℕ → Condition → Type 0
StandsOn First q c = (j : ℕ) × (stands_in (Value First q) (Value Second j) c ≡ true)
StandsOn Second q c = (i : ℕ) × (stands_in (Value First i) (Value Second q) c ≡ true)

straight_stands : (i j : ℕ) → stands_in (Value First i) (Value Second j) (Ne (Value First i) (Value Second j)) ≡ true
straight_stands i j = or_left ((i == i) && (j == j)) false (itself i j)

in_inequality : (side : Side) (x y : Term) (xs : List ℕ) (q : ℕ) → are_across x y ≡ true → Contains (with_condition side (Ne x y) xs) q → StandsOn side q (Ne x y) ⊎ Contains xs q
in_inequality First (Value First k) (Value Second l) xs q a h =
    elim (number_in k xs q h) [
      | inl e ↦ inl (l, subst (λ m. stands_in (Value First m) (Value Second l) (Ne (Value First k) (Value Second l)) ≡ true) e (straight_stands k l))
      | inr old ↦ inr old
    ]
in_inequality First (Value Second l) (Value First k) xs q a h =
    elim (number_in k xs q h) [
      | inl e ↦ inl (l, subst (λ m. stands_in (Value First m) (Value Second l) (Ne (Value Second l) (Value First k)) ≡ true) e (itself k l))
      | inr old ↦ inr old
    ]
in_inequality Second (Value First k) (Value Second l) xs q a h =
    elim (number_in l xs q h) [
      | inl e ↦ inl (k, subst (λ m. stands_in (Value First k) (Value Second m) (Ne (Value First k) (Value Second l)) ≡ true) e (straight_stands k l))
      | inr old ↦ inr old
    ]
in_inequality Second (Value Second l) (Value First k) xs q a h =
    elim (number_in l xs q h) [
      | inl e ↦ inl (k, subst (λ m. stands_in (Value First k) (Value Second m) (Ne (Value Second l) (Value First k)) ≡ true) e (itself k l))
      | inr old ↦ inr old
    ]
in_inequality side (Value First k) (Value First l) xs q a h = absurd (cc)
in_inequality side (Value Second k) (Value Second l) xs q a h = absurd (cc)
in_inequality side (Value First k) (Const n) xs q a h = absurd (cc)
in_inequality side (Value First k) (Beyond x y z) xs q a h = absurd (cc)
in_inequality side (Value First k) (State s) xs q a h = absurd (cc)
in_inequality side (Value Second k) (Const n) xs q a h = absurd (cc)
in_inequality side (Value Second k) (Beyond x y z) xs q a h = absurd (cc)
in_inequality side (Value Second k) (State s) xs q a h = absurd (cc)
in_inequality side (Const n) y xs q a h = absurd (cc)
in_inequality side (Beyond u v w) y xs q a h = absurd (cc)
in_inequality side (State s) y xs q a h = absurd (cc)

stands_left : (side : Side) (q : ℕ) (a b : Condition) → StandsOn side q a → StandsOn side q (And a b)
stands_left First q a b (j, s) = (j, or_left (stands_in (Value First q) (Value Second j) a) (stands_in (Value First q) (Value Second j) b) s)
stands_left Second q a b (i, s) = (i, or_left (stands_in (Value First i) (Value Second q) a) (stands_in (Value First i) (Value Second q) b) s)

stands_right : (side : Side) (q : ℕ) (a b : Condition) → StandsOn side q b → StandsOn side q (And a b)
stands_right First q a b (j, s) = (j, or_right (stands_in (Value First q) (Value Second j) a) (stands_in (Value First q) (Value Second j) b) s)
stands_right Second q a b (i, s) = (i, or_right (stands_in (Value First i) (Value Second q) a) (stands_in (Value First i) (Value Second q) b) s)

in_conjunction : (side : Side) (c : Condition) (xs : List ℕ) (q : ℕ) → is_conjunction c ≡ true → Contains (with_condition side c xs) q → StandsOn side q c ⊎ Contains xs q
in_conjunction side (Ne x y) xs q s h = in_inequality side x y xs q s h
in_conjunction side (And a b) xs q s h =
    let p = and_parts (is_conjunction a) (is_conjunction b) s in
    elim (in_conjunction side b (with_condition side a xs) q p.1 h) [
      | inl right ↦ inl (stands_right side q a b right)
      | inr more ↦ elim (in_conjunction side a xs q p.0 more) [ inl left ↦ inl (stands_left side q a b left) | inr old ↦ inr old ]
    ]
in_conjunction side _ xs q s h = absurd (cc)

in_row : (side : Side) (c : Condition) (xs : List ℕ) (q : ℕ) → is_simple c ≡ true → Contains (with_condition side c xs) q → StandsOn side q c ⊎ Contains xs q
in_row side True xs q s h = inr h
in_row side False xs q s h = inr h
in_row side c xs q s h = in_conjunction side c xs q s h

in_method : (kind : ℕ) (rows : Rows) (method other : ℕ) (xs : List ℕ) (q : ℕ) → AreSimple kind rows → is_method kind method ≡ true → is_method kind other ≡ true
    → Contains (with_condition Second (rows other method) (with_condition First (rows method other) xs)) q → StandsInSome kind rows method q ⊎ Contains xs q
in_method kind rows method other xs q simple m n h =
    elim (in_row Second (rows other method) (with_condition First (rows method other) xs) q (simple other method n m) h) [
      | inl s ↦ inl (record { other = other; known = n; partner = s.0; stands = inr s.1 })
      | inr more ↦ elim (in_row First (rows method other) xs q (simple method other m n) more) [
        | inl s ↦ inl (record { other = other; known = n; partner = s.0; stands = inl s.1 })
        | inr old ↦ inr old
      ]
    ]

in_methods : (kind : ℕ) (rows : Rows) (method : ℕ) (others xs : List ℕ) (q : ℕ) → AreSimple kind rows → is_method kind method ≡ true → ((n : ℕ) → Contains others n → is_method kind n ≡ true)
    → Contains (with_methods rows method others xs) q → StandsInSome kind rows method q ⊎ Contains xs q
in_methods kind rows method [] xs q simple m known h = inr h
in_methods kind rows method (other ∷ others) xs q simple m known h =
    elim (in_methods kind rows method others (with_condition Second (rows other method) (with_condition First (rows method other) xs)) q simple m (λ n there. known n (later_in other others n there)) h) [
      | inl s ↦ inl s
      | inr more ↦ in_method kind rows method other xs q simple m (known other (first_in other others)) more
    ]

known_in : (kind method : ℕ) → Contains (methods_of kind) method → is_method kind method ≡ true
known_in kind method there =
    let within = in_range (first_method kind) (length (words_of kind)) method there in
    and_from (nat_le (first_method kind) method) (nat_lt method (first_method kind + length (words_of kind)))
    (le-leb (first_method kind) method within.0) (lt-ltb method (first_method kind + length (words_of kind)) within.1)

locked_stands : (kind : ℕ) (rows : Rows) (method number : ℕ) → AreSimple kind rows → is_method kind method ≡ true → Contains (locked_numbers kind rows method) number → StandsInSome kind rows method number
locked_stands kind rows method number simple m h =
    elim (in_methods kind rows method (methods_of kind) [] number simple m (known_in kind) h) [
      | inl s ↦ s
      | inr none ↦ absurd (none_in number none)
    ]

stands_locked : (kind : ℕ) (rows : Rows) (method number : ℕ) → AreSimple kind rows → is_method kind method ≡ true → StandsInSome kind rows method number → Contains (locked_numbers kind rows method) number
stands_locked kind rows method number simple m s =
    elim s.stands [
      | inl s_first ↦ first_locked kind rows method s.other number s.partner s.known (simple_stands number s.partner (rows method s.other) (simple method s.other m s.known) s_first) s_first
      | inr s_second ↦ second_locked kind rows s.other method s.partner number s.known (simple_stands s.partner number (rows s.other method) (simple s.other method s.known m) s_second) s_second
    ]

pub locked_exactly : (kind : ℕ) (rows : Rows) (method number : ℕ) → AreSimple kind rows → is_method kind method ≡ true
    → (Contains (locked_numbers kind rows method) number → StandsInSome kind rows method number)
    × (StandsInSome kind rows method number → Contains (locked_numbers kind rows method) number)
locked_exactly kind rows method number simple m = (locked_stands kind rows method number simple m, stands_locked kind rows method number simple m)

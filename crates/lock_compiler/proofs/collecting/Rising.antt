-- The numbers of the values that are locked rise.
use Rattle.std.specs.Prelude.{◌≡◌, ℕ, zero, suc, ◌+◌, ◌<◌, ◌≤◌, ◌==◌, Bool, true, false, cond, nat_le, List, [], ◌∷◌, slice_index, refl}
use Rattle.std.specs.List.Sorted.{IsStrictlyIncreasing}
use Rattle.std.proofs.Common.{subst, arith}
use Rattle.std.proofs.lemmas.Bool.{leb-true, leb-false, eqb-false}
use Rattle.gx_base.specs.declared.conditions.Side.{Side}
use Rattle.gx_base.specs.declared.conditions.Side.TheVariants.{First, Second}
use Rattle.gx_base.specs.declared.conditions.Term.{Term}
use Rattle.gx_base.specs.declared.conditions.Term.TheVariants.{Value}
use Rattle.gx_base.specs.Conditions.{Condition, Ne, And}
use Rattle.gx_base.specs.Below.{same_side}
use Rattle.gx_base.specs.Methods.{methods_of}
use Rattle.gx_base.specs.Tables.{Rows}
use Rattle.lock_compiler.specs.Compiled.{with_its_number, with_term, with_condition, with_methods, locked_numbers}

-- from a number on, each above the one before it
abbrev AreRising : ℕ → List ℕ → Type 0
AreRising low [] = Unit {0}
AreRising low (x ∷ xs) = (low ≤ x) × AreRising (x + 1) xs

number_rises_by : (low n m : ℕ) (ms : List ℕ) (below same : Bool) → nat_le n m ≡ below → (n == m) ≡ same → low ≤ n → AreRising low (m ∷ ms) → (m < n → AreRising (m + 1) (with_its_number n ms))
    → AreRising low (cond below (cond same (m ∷ ms) (n ∷ m ∷ ms)) (m ∷ with_its_number n ms))
number_rises_by low n m ms true true e f from h rest = h
number_rises_by low n m ms true false e f from h rest =
    let upto : n ≤ m = leb-true n m e in
    let apart = eqb-false n m f in
    (from, (omega (arith, apart), h.1))
number_rises_by low n m ms false same e f from h rest = (h.0, rest (leb-false n m e))

number_rises : (low n : ℕ) (xs : List ℕ) → low ≤ n → AreRising low xs → AreRising low (with_its_number n xs)
number_rises low n [] from h = (from, tt)
number_rises low n (m ∷ ms) from h =
    number_rises_by low n m ms (nat_le n m) (n == m) refl refl from h (λ below. let next : m + 1 ≤ n = omega arith in number_rises (m + 1) n ms next h.1)

on_side_rises : (b : Bool) (place : ℕ) (xs : List ℕ) → AreRising 0 xs → AreRising 0 (cond b (with_its_number place xs) xs)
on_side_rises true place xs h = number_rises 0 place xs (omega arith) h
on_side_rises false place xs h = h

term_rises : (side : Side) (t : Term) (xs : List ℕ) → AreRising 0 xs → AreRising 0 (with_term side t xs)
term_rises side (Value other place) xs h = on_side_rises (same_side side other) place xs h
term_rises side _ xs h = h

condition_rises : (side : Side) (c : Condition) (xs : List ℕ) → AreRising 0 xs → AreRising 0 (with_condition side c xs)
condition_rises side (Ne x y) xs h = term_rises side y (with_term side x xs) (term_rises side x xs h)
condition_rises side (And a b) xs h = condition_rises side b (with_condition side a xs) (condition_rises side a xs h)
condition_rises side _ xs h = h

methods_rise : (rows : Rows) (method : ℕ) (others xs : List ℕ) → AreRising 0 xs → AreRising 0 (with_methods rows method others xs)
methods_rise rows method [] xs h = h
methods_rise rows method (other ∷ others) xs h =
    methods_rise rows method others (with_condition Second (rows other method) (with_condition First (rows method other) xs))
    (condition_rises Second (rows other method) (with_condition First (rows method other) xs) (condition_rises First (rows method other) xs h))

increasing : (low : ℕ) (xs : List ℕ) → AreRising low xs → IsStrictlyIncreasing xs
increasing low [] h k within = absurd (omega arith)
increasing low (x ∷ []) h k within = absurd (omega arith)
increasing low (x ∷ y ∷ ys) h zero within = let next : x + 1 ≤ y = h.1.0 in omega arith
increasing low (x ∷ y ∷ ys) h (suc k) within =
    let place : suc (k + 1) ≡ suc k + 1 = omega arith in
    subst (λ n. slice_index (y ∷ ys) k < slice_index (x ∷ y ∷ ys) n) place (increasing (x + 1) (y ∷ ys) h.1 k (omega arith))

pub locked_increase : (kind : ℕ) (rows : Rows) (method : ℕ) → IsStrictlyIncreasing (locked_numbers kind rows method)
locked_increase kind rows method = increasing 0 (locked_numbers kind rows method) (methods_rise rows method (methods_of kind) [] tt)

-- Numbers of 128 bits that are cut to 64, and products of numbers of 64 bits.
use Rattle.std.proofs.Common.{◌≡◌, ℕ, suc, ◌+◌, ◌-◌, ◌*◌, ◌^◌, ◌%◌, ◌<◌, ◌≤◌, ℤ, pos, negsuc, refl, sym, ap, subst, ◌∙◌, arith, to_z, of_z}
use Rattle.std.specs.Prelude.{◌*ℤ◌, ◌-ℤ◌, ◌<ℤ◌, unsigned_abs, FitsSigned}
use Rattle.std.specs.Int.{w64, w128, int_wrap, int_rem_euclid}
use Rattle.std.proofs.Math.Nat.{mod-lt, mul-le-mul_left}
use Rattle.std.proofs.lemmas.Int.{to_z-of_z, unsigned_abs-mul, ints}

pub product_bound : (r w x : ℤ) → r ≡ w *ℤ x → unsigned_abs x ≤ 2 ^ 63 → unsigned_abs r ≤ unsigned_abs w * 2 ^ 63
product_bound r w x e le = subst (λ n. n ≤ unsigned_abs w * 2 ^ 63) (sym (ap unsigned_abs e ∙ unsigned_abs-mul w x)) (mul-le-mul_left (unsigned_abs w) le)

pub abs_small : (x : ℤ) → FitsSigned w64 x → unsigned_abs x ≤ 2 ^ 63
abs_small (pos n) f = let small = f.sfits in omega (arith, small)
abs_small (negsuc n) f = let small = f.sfits in omega (arith, small)

rem_is : (z d : ℤ) → int_rem_euclid z d ≡ pos (unsigned_abs (int_rem_euclid z d))
rem_is (pos a) d = refl
rem_is (negsuc a) d = refl

rem_small : (z : ℤ) → unsigned_abs (int_rem_euclid z (pos (2 ^ 64))) < 2 ^ 64
rem_small (pos a) = mod-lt a (omega arith)
rem_small (negsuc a) = omega arith

low_is : (r : ℤ) (m : ℕ) → r ≡ pos m → to_z w64 (of_z w64 r) ≡ to_z w64 m
low_is r m e = ap (λ (z : ℤ). to_z w64 (of_z w64 z)) e

high_is : (r : ℤ) (m : ℕ) → r ≡ pos m → m < 2 ^ 64 → to_z w64 (of_z w64 (r -ℤ pos (2 ^ 64))) ≡ to_z w64 m
high_is r m e lt =
    let below : r -ℤ pos (2 ^ 64) ≡ negsuc (2 ^ 64 - suc m) = omega (arith, ints) in
    let back : 2 ^ 64 - suc (2 ^ 64 - suc m) ≡ m = omega arith in
    ap (λ (z : ℤ). to_z w64 (of_z w64 z)) below ∙ ap (to_z w64) back

pub wrapped_low : (r number : ℤ) → r ≡ int_rem_euclid number (pos (2 ^ 64)) → to_z w64 (of_z w64 r) ≡ int_wrap w64 number
unfolding int_wrap
wrapped_low r number e = low_is r (unsigned_abs (int_rem_euclid number (pos (2 ^ 64)))) (e ∙ rem_is number (pos (2 ^ 64)))

pub wrapped_high : (r number : ℤ) → r ≡ int_rem_euclid number (pos (2 ^ 64)) → to_z w64 (of_z w64 (r -ℤ pos (2 ^ 64))) ≡ int_wrap w64 number
unfolding int_wrap
wrapped_high r number e = high_is r (unsigned_abs (int_rem_euclid number (pos (2 ^ 64)))) (e ∙ rem_is number (pos (2 ^ 64))) (rem_small number)

pub not_minus_one : (s : ℤ) → pos 0 <ℤ s → FitsSigned w128 s → of_z w128 s ≡ 2 ^ 128 - 1 → ⊥
not_minus_one (pos k) p f e = let small = f.sfits in omega (arith, small)
not_minus_one (negsuc k) p f e = omega (arith, ints)

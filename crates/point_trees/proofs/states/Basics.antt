-- Tests, keys and options.
use Rattle.std.specs.Prelude.{◌≡◌, ℕ, zero, suc, ℤ, Bool, true, false, not, ◌&&◌, ◌||◌, Some, None, refl, ◌⊎◌}
use Rattle.std.proofs.Common.{ap, inl, inr, arith}
use Rattle.std.specs.Ordering.{int_eq}
use Rattle.std.specs.Cmp.{signed_Decides, int_eq_equiv}

pub same_int : (x y : ℤ) → int_eq x y ≡ true → x ≡ y
same_int x y e = (signed_Decides x y).0 e

pub int_eq-itself : (x : ℤ) → int_eq x x ≡ true
int_eq-itself x = (signed_Decides x x).1 refl

pub int_eq-comm : (x y : ℤ) → int_eq x y ≡ int_eq y x
int_eq-comm x y = int_eq_equiv.symm x y

pub int_eq-of : (x y : ℤ) → x ≡ y → int_eq x y ≡ true
int_eq-of x y e = (signed_Decides x y).1 e

pub false_of : (b : Bool) → (b ≡ true → ⊥) → b ≡ false
false_of true h = absurd (h refl)
false_of false h = refl

pub not_both : (b : Bool) → b ≡ true → b ≡ false → ⊥
not_both true t f = absurd (cc)
not_both false t f = absurd (cc)

pub not_true : (b : Bool) → not b ≡ true → b ≡ false
not_true true e = absurd (cc)
not_true false e = refl

pub and_parts : (x y : Bool) → (x && y) ≡ true → (x ≡ true) × (y ≡ true)
and_parts true y e = (refl, e)
and_parts false y e = absurd (cc)

pub or_parts : (x y : Bool) → (x || y) ≡ true → (x ≡ true) ⊎ (y ≡ true)
or_parts true y e = inl refl
or_parts false y e = inr e

pub some_is : {A : Type 0} (x y : A) → Some x ≡ Some y → x ≡ y
some_is {A = A} x y e = cc

pub some_none : {A : Type 0} (x : A) → None ≡ Some x → ⊥
some_none {A = A} x e = cc

-- two keys are the same, or they aren't
pub same_key : (i j : ℕ) → (i ≡ j) ⊎ (i ≡ j → ⊥)
same_key zero zero = inl refl
same_key zero (suc j) = inr (λ e. absurd (omega arith))
same_key (suc i) zero = inr (λ e. absurd (omega arith))
same_key (suc i) (suc j) = further (same_key i j)
  where
    further : (i ≡ j) ⊎ (i ≡ j → ⊥) → (suc i ≡ suc j) ⊎ (suc i ≡ suc j → ⊥)
    further (inl e) = inl (ap suc e)
    further (inr n) = inr (λ e. n (omega arith))

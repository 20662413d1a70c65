-- When the calls of one meaning may be swapped.
use Rattle.std.specs.Prelude.{◌≡◌, ℕ, ℤ, Bool, true, false, not, ◌&&◌, ◌||◌, Option, List, refl, ◌⊎◌}
use Rattle.std.proofs.Common.{sym, ◌∙◌, ap, subst, inl, inr}
use Rattle.std.specs.Ordering.{int_eq}
use Rattle.std.specs.Cmp.{signed_Decides, int_eq_equiv}
use Rattle.gx_base.specs.declared.calls.Call.{Call}
use Rattle.gx_base.specs.declared.calls.Reply.{Reply}
use Rattle.gx_base.specs.States.{State, row_at, with_row}
use Rattle.gx_base.proofs.CallerLemmas.{same_row, same_row-is, row_at-other, with_row-comm}
use Rattle.gx_base.specs.Meanings.{Meaning}

-- what one call does
pub record Effect : Type 0 where
  pub next : State → State
  pub reply : State → Reply

-- the effect of a call in a meaning
abbrev pub effect_in : Meaning → Call → Effect
effect_in m c = record { next = λ s. m.next s c; reply = λ s. m.reply s c }

-- f and then g are as g and then f: the replies and the end stay
pub record SwapsBy (f g : Effect) (s : State) : Type 0 where
  pub second : g.reply s ≡ g.reply (f.next s)
  pub first : f.reply (g.next s) ≡ f.reply s
  pub end : f.next (g.next s) ≡ g.next (f.next s)

-- nothing changes
abbrev pub IsStill : Effect → State → Type 0
IsStill f s = f.next s ≡ s

pub both_still : (f g : Effect) (s : State) → IsStill f s → IsStill g s → SwapsBy f g s
both_still f g s i j = record { second = ap g.reply (sym i); first = ap f.reply j; end = ap f.next j ∙ i ∙ sym (ap g.next i ∙ j) }

pub first_still : (f g : Effect) (s : State) → IsStill f s → IsStill f (g.next s) → f.reply (g.next s) ≡ f.reply s → SwapsBy f g s
first_still f g s i j r = record { second = ap g.reply (sym i); first = r; end = j ∙ ap g.next (sym i) }

pub second_still : (f g : Effect) (s : State) → IsStill g s → IsStill g (f.next s) → g.reply s ≡ g.reply (f.next s) → SwapsBy f g s
second_still f g s i j r = record { second = r; first = ap f.reply i; end = ap f.next i ∙ sym j }

-- one row alone is read and written
pub record UsesRow (f : Effect) (key : ℕ × ℤ) : Type 0 where
  pub after : Option (List ℤ) → Option (List ℤ)
  pub answer : Option (List ℤ) → Reply
  pub next_is : (s : State) → f.next s ≡ with_row s key (after (row_at s key))
  pub reply_is : (s : State) → f.reply s ≡ answer (row_at s key)

pub in_two_rows : (f g : Effect) (s : State) (ka kb : ℕ × ℤ) → UsesRow f ka → UsesRow g kb → same_row ka kb ≡ false → same_row kb ka ≡ false → SwapsBy f g s
in_two_rows f g s ka kb u v n o =
    let xa : Option (List ℤ) = u.after (row_at s ka) in
    let xb : Option (List ℤ) = v.after (row_at s kb) in
    let ob : row_at (f.next s) kb ≡ row_at s kb = ap (λ t. row_at t kb) (u.next_is s) ∙ row_at-other s ka kb xa o in
    let oa : row_at (g.next s) ka ≡ row_at s ka = ap (λ t. row_at t ka) (v.next_is s) ∙ row_at-other s kb ka xb n in
    record {
      second = v.reply_is s ∙ ap v.answer (sym ob) ∙ sym (v.reply_is (f.next s));
      first = u.reply_is (g.next s) ∙ ap u.answer oa ∙ sym (u.reply_is s);
      end = u.next_is (g.next s) ∙ ap (λ o. with_row (g.next s) ka (u.after o)) oa ∙ ap (λ t. with_row t ka xa) (v.next_is s)
          ∙ sym (v.next_is (f.next s) ∙ ap (λ o. with_row (f.next s) kb (v.after o)) ob ∙ ap (λ t. with_row t kb xb) (u.next_is s) ∙ with_row-comm s ka kb xa xb n);
    }

-- tests
pub same_int : (x y : ℤ) → int_eq x y ≡ true → x ≡ y
same_int x y e = (signed_Decides x y).0 e

pub int_eq-itself : (x : ℤ) → int_eq x x ≡ true
int_eq-itself x = (signed_Decides x x).1 refl

pub int_eq-comm : (x y : ℤ) → int_eq x y ≡ int_eq y x
int_eq-comm x y = int_eq_equiv.symm x y

pub false_of : (b : Bool) → (b ≡ true → ⊥) → b ≡ false
false_of true h = absurd (h refl)
false_of false h = refl

pub differ : (x y : ℕ × ℤ) → (x ≡ y → ⊥) → same_row x y ≡ false
differ x y h = false_of (same_row x y) (λ t. h (same_row-is x y t))

pub numbers_differ : (x y : ℤ) → int_eq x y ≡ false → x ≡ y → ⊥
numbers_differ x y e h = let t : int_eq x y ≡ true = subst (λ z. int_eq x z ≡ true) h (int_eq-itself x) in cc

pub numbers_of_rows_differ : (i j : ℕ) (x y : ℤ) → int_eq x y ≡ false → (same_row (i, x) (j, y) ≡ false) × (same_row (j, y) (i, x) ≡ false)
numbers_of_rows_differ i j x y n = (
  differ (i, x) (j, y) (λ p. numbers_differ x y n (ap (λ (k : ℕ × ℤ). k.1) p)),
  differ (j, y) (i, x) (λ p. numbers_differ x y n (sym (ap (λ (k : ℕ × ℤ). k.1) p))),
)

pub either : (x y : Bool) → (x || y) ≡ true → (x ≡ true) ⊎ (y ≡ true)
either true y e = inl refl
either false y e = inr e

pub both : (x y : Bool) → (x && y) ≡ true → (x ≡ true) × (y ≡ true)
both true y e = (refl, e)
both false y e = absurd (cc)

pub not_true : (x : Bool) → not x ≡ true → x ≡ false
not_true true e = absurd (cc)
not_true false e = refl

-- When two uses of numbers may be swapped.
use Rattle.std.specs.Prelude.{◌≡◌, ℕ, ℤ, pos, Bool, true, false, not, ◌&&◌, ◌||◌, ◌==◌, if◌then◌else◌, FitsSigned, refl, ◌⊎◌}
use Rattle.std.proofs.Common.{sym, ◌∙◌, ap, subst, inl, inr}
use Rattle.std.specs.Ordering.{int_eq}
use Rattle.std.specs.Cmp.{unsigned_Decides}
use Rattle.std.specs.Int.{w64, int_wrapping_add}
use Rattle.gx_base.specs.declared.calls.Call.{Call}
use Rattle.gx_base.specs.declared.calls.Reply.{Reply}
use Rattle.gx_base.specs.declared.calls.Seen.{Seen}
use Rattle.gx_base.specs.Conditions.{True, holds}
use Rattle.gx_base.specs.States.{State, number_at, with_number, HoldsNumbers}
use Rattle.gx_base.proofs.CallerLemmas.{same_row, number_at-same, number_at-other, with-with, with-comm, with-number_at, number_at-fits, with_number-HoldsNumbers, add-swap, add-zero_of, add-fits}
use Rattle.gx_base.specs.Meanings.{IsCall, number_reply}
use Rattle.gx_base.specs.RegisterDeeds.{Deed, Reads, Adds, Sets, Use, Nothing, On, next_by, reply_by}
use Rattle.kind_tables.specs.RegisterTables.{precise_deeds, use_by}
use Rattle.kind_tables.proofs.swapping.Effects.{Effect, SwapsBy, same_int, differ, numbers_differ, both}

-- the number after a deed, and the answer to it
abbrev pub number_after : Deed → ℤ → ℤ → ℤ
number_after Reads x b = x
number_after Adds x b = int_wrapping_add w64 x b
number_after Sets x b = b

-- the number that a deed replies
abbrev pub answer_of : Deed → ℤ → ℤ
answer_of Reads x = x
answer_of Adds x = pos 0
answer_of Sets x = x

pub next_as : (sort : ℕ) (deed : Deed) (s : State) (c : Call) → HoldsNumbers s
    → next_by (On sort deed) s c ≡ with_number s (sort, c.a) (number_after deed (number_at s (sort, c.a)) c.b)
next_as sort Reads s c h = sym (with-number_at s (sort, c.a) h)
next_as sort Adds s c h = refl
next_as sort Sets s c h = refl

pub reply_as : (sort : ℕ) (deed : Deed) (s : State) (c : Call) → reply_by (On sort deed) s c ≡ number_reply (answer_of deed (number_at s (sort, c.a)))
reply_as sort Reads s c = refl
reply_as sort Adds s c = refl
reply_as sort Sets s c = refl

pub number_after-fits : (d : Deed) (x b : ℤ) → FitsSigned w64 x → FitsSigned w64 b → FitsSigned w64 (number_after d x b)
number_after-fits Reads x b h k = h
number_after-fits Adds x b h k = add-fits x b
number_after-fits Sets x b h k = k

-- what two deeds on one number owe
pub record Agree (d e : Deed) (x b c : ℤ) : Type 0 where
  pub second : answer_of e x ≡ answer_of e (number_after d x b)
  pub first : answer_of d (number_after e x c) ≡ answer_of d x
  pub end : number_after d (number_after e x c) b ≡ number_after e (number_after d x b) c

-- the condition of two deeds on one number
abbrev pub deed_test : Deed → Deed → ℤ → ℤ → ℤ → Bool
deed_test Reads Reads x b c = true
deed_test Reads Adds x b c = int_eq c (pos 0)
deed_test Reads Sets x b c = int_eq x c
deed_test Adds Reads x b c = int_eq b (pos 0)
deed_test Adds Adds x b c = true
deed_test Adds Sets x b c = int_eq b (pos 0)
deed_test Sets Reads x b c = int_eq x b
deed_test Sets Adds x b c = int_eq c (pos 0)
deed_test Sets Sets x b c = int_eq b c && int_eq x b

agree_by : (d e : Deed) (x b c : ℤ) → FitsSigned w64 x → FitsSigned w64 b → FitsSigned w64 c → deed_test d e x b c ≡ true → Agree d e x b c
agree_by Reads Reads x b c h i j t = record { second = refl; first = refl; end = refl }
agree_by Reads Adds x b c h i j t = let e : c ≡ pos 0 = same_int c (pos 0) t in let z : int_wrapping_add w64 x c ≡ x = ap (int_wrapping_add w64 x) e ∙ add-zero_of x h in record { second = refl; first = z; end = refl }
agree_by Reads Sets x b c h i j t = let e : x ≡ c = same_int x c t in record { second = refl; first = sym e; end = refl }
agree_by Adds Reads x b c h i j t = let e : b ≡ pos 0 = same_int b (pos 0) t in let z : int_wrapping_add w64 x b ≡ x = ap (int_wrapping_add w64 x) e ∙ add-zero_of x h in record { second = sym z; first = refl; end = refl }
agree_by Adds Adds x b c h i j t = record { second = refl; first = refl; end = add-swap x c b }
agree_by Adds Sets x b c h i j t =
    let e : b ≡ pos 0 = same_int b (pos 0) t in
    let z : int_wrapping_add w64 x b ≡ x = ap (int_wrapping_add w64 x) e ∙ add-zero_of x h in
    let y : int_wrapping_add w64 c b ≡ c = ap (int_wrapping_add w64 c) e ∙ add-zero_of c j in
    record { second = sym z; first = refl; end = y }
agree_by Sets Reads x b c h i j t = let e : x ≡ b = same_int x b t in record { second = e; first = refl; end = refl }
agree_by Sets Adds x b c h i j t =
    let e : c ≡ pos 0 = same_int c (pos 0) t in
    let z : int_wrapping_add w64 x c ≡ x = ap (int_wrapping_add w64 x) e ∙ add-zero_of x h in
    let y : int_wrapping_add w64 b c ≡ b = ap (int_wrapping_add w64 b) e ∙ add-zero_of b i in
    record { second = refl; first = z; end = sym y }
agree_by Sets Sets x b c h i j t =
    let p : (int_eq b c ≡ true) × (int_eq x b ≡ true) = both (int_eq b c) (int_eq x b) t in
    let e : b ≡ c = same_int b c p.0 in
    let f : x ≡ b = same_int x b p.1 in
    record { second = f; first = sym (f ∙ e); end = e }

-- a call of a use, as an effect
abbrev pub use_effect : Use → Call → Effect
use_effect u c = record { next = λ s. next_by u s c; reply = λ s. reply_by u s c }

-- two uses may be swapped in s
abbrev pub UsesSwap : Use → Use → State → Call → Call → Type 0
UsesSwap u v s a b = SwapsBy (use_effect u a) (use_effect v b) s

-- in two different rows
swap_apart : (i j : ℕ) (d e : Deed) (s : State) (a b : Call) → HoldsNumbers s → IsCall a → IsCall b → same_row (i, a.a) (j, b.a) ≡ false → same_row (j, b.a) (i, a.a) ≡ false → UsesSwap (On i d) (On j e) s a b
swap_apart i j d e s a b h fa fb n m =
    let ka : ℕ × ℤ = (i, a.a) in
    let kb : ℕ × ℤ = (j, b.a) in
    let xa : ℤ = number_after d (number_at s ka) a.b in
    let xb : ℤ = number_after e (number_at s kb) b.b in
    let ha : HoldsNumbers (with_number s ka xa) = with_number-HoldsNumbers s ka xa (number_after-fits d _ _ (number_at-fits s ka h) fa.1) h in
    let hb : HoldsNumbers (with_number s kb xb) = with_number-HoldsNumbers s kb xb (number_after-fits e _ _ (number_at-fits s kb h) fb.1) h in
    let na : next_by (On i d) s a ≡ with_number s ka xa = next_as i d s a h in
    let nb : next_by (On j e) s b ≡ with_number s kb xb = next_as j e s b h in
    let ob : number_at (with_number s ka xa) kb ≡ number_at s kb = number_at-other s ka kb xa m in
    let oa : number_at (with_number s kb xb) ka ≡ number_at s ka = number_at-other s kb ka xb n in
    record {
      second = reply_as j e s b ∙ ap (λ x. number_reply (answer_of e x)) (sym ob) ∙ sym (reply_as j e (with_number s ka xa) b) ∙ ap (λ t. reply_by (On j e) t b) (sym na);
      first = ap (λ t. reply_by (On i d) t a) nb ∙ reply_as i d (with_number s kb xb) a ∙ ap (λ x. number_reply (answer_of d x)) oa ∙ sym (reply_as i d s a);
      end = ap (λ t. next_by (On i d) t a) nb ∙ next_as i d (with_number s kb xb) a hb ∙ ap (λ x. with_number (with_number s kb xb) ka (number_after d x a.b)) oa
          ∙ sym (ap (λ t. next_by (On j e) t b) na ∙ next_as j e (with_number s ka xa) b ha ∙ ap (λ x. with_number (with_number s ka xa) kb (number_after e x b.b)) ob ∙ with-comm s ka kb xa xb n);
    }

-- in one row
swap_here : (i : ℕ) (d e : Deed) (s : State) (a b : Call) → HoldsNumbers s → IsCall a → IsCall b → a.a ≡ b.a → deed_test d e (number_at s (i, a.a)) a.b b.b ≡ true → UsesSwap (On i d) (On i e) s a b
swap_here i d e s a b h fa fb same t =
    let k : ℕ × ℤ = (i, a.a) in
    let kb : (ℕ × ℤ) = (i, b.a) in
    let keys : kb ≡ k = ap (λ x. (i, x)) (sym same) in
    let x : ℤ = number_at s k in
    let g : Agree d e x a.b b.b = agree_by d e x a.b b.b (number_at-fits s k h) fa.1 fb.1 t in
    let xa : ℤ = number_after d x a.b in
    let xb : ℤ = number_after e x b.b in
    let ha : HoldsNumbers (with_number s k xa) = with_number-HoldsNumbers s k xa (number_after-fits d _ _ (number_at-fits s k h) fa.1) h in
    let hb : HoldsNumbers (with_number s k xb) = with_number-HoldsNumbers s k xb (number_after-fits e _ _ (number_at-fits s k h) fb.1) h in
    let na : next_by (On i d) s a ≡ with_number s k xa = next_as i d s a h in
    let nb : next_by (On i e) s b ≡ with_number s k xb = next_as i e s b h ∙ ap (λ q. with_number s q (number_after e (number_at s q) b.b)) keys in
    let rb : (t : State) → reply_by (On i e) t b ≡ number_reply (answer_of e (number_at t k)) = λ t. reply_as i e t b ∙ ap (λ q. number_reply (answer_of e (number_at t q))) keys in
    let ob : number_at (with_number s k xa) k ≡ xa = number_at-same s k xa in
    let oa : number_at (with_number s k xb) k ≡ xb = number_at-same s k xb in
    record {
      second = rb s ∙ ap number_reply g.second ∙ sym (ap (λ t. reply_by (On i e) t b) na ∙ rb (with_number s k xa) ∙ ap (λ y. number_reply (answer_of e y)) ob);
      first = ap (λ t. reply_by (On i d) t a) nb ∙ reply_as i d (with_number s k xb) a ∙ ap (λ y. number_reply (answer_of d y)) oa ∙ ap number_reply g.first ∙ sym (reply_as i d s a);
      end = ap (λ t. next_by (On i d) t a) nb ∙ next_as i d (with_number s k xb) a hb ∙ ap (λ y. with_number (with_number s k xb) k (number_after d y a.b)) oa ∙ with-with s k xb (number_after d xb a.b)
          ∙ sym (ap (λ t. next_by (On i e) t b) na ∙ next_as i e (with_number s k xa) b ha ∙ ap (λ q. with_number (with_number s k xa) q (number_after e (number_at (with_number s k xa) q) b.b)) keys
          ∙ ap (λ y. with_number (with_number s k xa) k (number_after e y b.b)) ob ∙ with-with s k xa (number_after e xa b.b) ∙ ap (with_number s k) (sym g.end));
    }

or_means : (x y : Bool) → (not x || y) ≡ true → (x ≡ false) ⊎ (y ≡ true)
or_means true y e = inr e
or_means false y e = inl refl

-- where a row is true, the calls are of two rows, or the numbers pass the test
row_means : (i : ℕ) (d e : Deed) (s : State) (a b : Call) (r : Reply) (seen : Seen)
    → holds (precise_deeds d e) (record { call = a; reply = reply_by (On i d) s a }) (record { call = b; reply = r }) seen ≡ true
    → (int_eq a.a b.a ≡ false) ⊎ (deed_test d e (number_at s (i, a.a)) a.b b.b ≡ true)
row_means i Reads Reads s a b r seen t = inr refl
row_means i Reads Adds s a b r seen t = or_means _ _ t
row_means i Reads Sets s a b r seen t = or_means _ _ t
row_means i Adds Reads s a b r seen t = or_means _ _ t
row_means i Adds Adds s a b r seen t = inr refl
row_means i Adds Sets s a b r seen t = or_means _ _ t
row_means i Sets Reads s a b r seen t = or_means _ _ t
row_means i Sets Adds s a b r seen t = or_means _ _ t
row_means i Sets Sets s a b r seen t = or_means _ _ t

pub swap_numbers_differ : (i j : ℕ) (d e : Deed) (s : State) (a b : Call) → HoldsNumbers s → IsCall a → IsCall b → int_eq a.a b.a ≡ false → UsesSwap (On i d) (On j e) s a b
swap_numbers_differ i j d e s a b h fa fb n =
    swap_apart i j d e s a b h fa fb
    (differ (i, a.a) (j, b.a) (λ p. numbers_differ a.a b.a n (ap (λ (k : ℕ × ℤ). k.1) p)))
    (differ (j, b.a) (i, a.a) (λ p. numbers_differ a.a b.a n (sym (ap (λ (k : ℕ × ℤ). k.1) p))))

swap_sorts_differ : (i j : ℕ) (d e : Deed) (s : State) (a b : Call) → HoldsNumbers s → IsCall a → IsCall b → (i ≡ j → ⊥) → UsesSwap (On i d) (On j e) s a b
swap_sorts_differ i j d e s a b h fa fb n =
    swap_apart i j d e s a b h fa fb
    (differ (i, a.a) (j, b.a) (λ p. n (ap (λ (k : ℕ × ℤ). k.0) p)))
    (differ (j, b.a) (i, a.a) (λ p. n (sym (ap (λ (k : ℕ × ℤ). k.0) p))))

swap_test : (i : ℕ) (d e : Deed) (s : State) (a b : Call) → HoldsNumbers s → IsCall a → IsCall b → (q : Bool) → int_eq a.a b.a ≡ q → deed_test d e (number_at s (i, a.a)) a.b b.b ≡ true → UsesSwap (On i d) (On i e) s a b
swap_test i d e s a b h fa fb true q t = swap_here i d e s a b h fa fb (same_int a.a b.a q) t
swap_test i d e s a b h fa fb false q t = swap_numbers_differ i i d e s a b h fa fb q

pub swap_either : (i : ℕ) (d e : Deed) (s : State) (a b : Call) → HoldsNumbers s → IsCall a → IsCall b → (int_eq a.a b.a ≡ false) ⊎ (deed_test d e (number_at s (i, a.a)) a.b b.b ≡ true) → UsesSwap (On i d) (On i e) s a b
swap_either i d e s a b h fa fb (inl n) = swap_numbers_differ i i d e s a b h fa fb n
swap_either i d e s a b h fa fb (inr t) = swap_test i d e s a b h fa fb (int_eq a.a b.a) refl t

-- of one sort of row or of two
swap_sorts : (i j : ℕ) (d e : Deed) (s : State) (a b : Call) (r : Reply) (seen : Seen) → HoldsNumbers s → IsCall a → IsCall b
    → (q : Bool) → (i == j) ≡ q
    → holds (if q then precise_deeds d e else True) (record { call = a; reply = reply_by (On i d) s a }) (record { call = b; reply = r }) seen ≡ true
    → UsesSwap (On i d) (On j e) s a b
swap_sorts i j d e s a b r seen h fa fb true q t =
    let same : i ≡ j = (unsigned_Decides i j).0 q in
    subst (λ k. UsesSwap (On i d) (On k e) s a b) same (swap_either i d e s a b h fa fb (row_means i d e s a b r seen t))
swap_sorts i j d e s a b r seen h fa fb false q t = swap_sorts_differ i j d e s a b h fa fb (λ p. let u : (i == j) ≡ true = (unsigned_Decides i j).1 p in cc)

-- where the precise row is true, its calls may be swapped
pub swap_uses : (u v : Use) (s : State) (a b : Call) (r : Reply) (seen : Seen) → HoldsNumbers s → IsCall a → IsCall b
    → holds (use_by precise_deeds u v) (record { call = a; reply = reply_by u s a }) (record { call = b; reply = r }) seen ≡ true
    → UsesSwap u v s a b
swap_uses Nothing v s a b r seen h fa fb t = absurd (cc)
swap_uses (On i d) Nothing s a b r seen h fa fb t = absurd (cc)
swap_uses (On i d) (On j e) s a b r seen h fa fb t = swap_sorts i j d e s a b r seen h fa fb (i == j) refl t

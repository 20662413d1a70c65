-- What is put at one number, in functions and in lists, and what stays at the others.
use Rattle.std.specs.Prelude.{◌≡◌, ◌≢◌, ℕ, zero, suc, ◌<◌, Bool, true, false, ◌==◌, if◌then◌else◌, Some, List, [], ◌∷◌, length, slice_get, slice_set, refl}
use Rattle.std.proofs.Common.{sym, ap, subst, arith}
use Rattle.std.specs.Cmp.{unsigned_Decides}
use Rattle.gx_base.specs.Replays.{put}

pub no_bool : (b : Bool) → b ≡ true → b ≡ false → ⊥
no_bool true e f = absurd (cc)
no_bool false e f = absurd (cc)

pub same_number : (n : ℕ) → (n == n) ≡ true
same_number n = (unsigned_Decides n n).1 refl

pub numbers_equal : (n k : ℕ) → (n == k) ≡ true → n ≡ k
numbers_equal n k e = (unsigned_Decides n k).0 e

pub numbers_differ : (n k : ℕ) → (n == k) ≡ false → n ≢ k
numbers_differ n k e h = no_bool (n == k) ((unsigned_Decides n k).1 h) e

pub put_same : {A : Type 0} (f : ℕ → A) (k : ℕ) (x : A) → put f k x k ≡ x
put_same f k x = ap (λ (b : Bool). if b then x else f k) (same_number k)

pub put_other : {A : Type 0} (f : ℕ → A) (k : ℕ) (x : A) (j : ℕ) → (k == j) ≡ false → put f k x j ≡ f j
put_other f k x j e = ap (λ (b : Bool). if b then x else f j) e

again_by : {A : Type 0} (f : ℕ → A) (k : ℕ) (x y : A) (j : ℕ) (b : Bool) → (k == j) ≡ b → f k ≡ y → (if b then y else (if b then x else f j)) ≡ f j
again_by f k x y j true e h = subst (λ i. y ≡ f i) (numbers_equal k j e) (sym h)
again_by f k x y j false e h = refl

-- what was put is put back
pub put_back_again : {A : Type 0} (f : ℕ → A) (k : ℕ) (x y : A) → f k ≡ y → put (put f k x) k y ≡ f
put_back_again f k x y h = λ i j. again_by f k x y j (k == j) refl h i

itself_by : {A : Type 0} (f : ℕ → A) (k : ℕ) (x : A) (j : ℕ) (b : Bool) → (k == j) ≡ b → f k ≡ x → (if b then x else f j) ≡ f j
itself_by f k x j true e h = subst (λ i. x ≡ f i) (numbers_equal k j e) (sym h)
itself_by f k x j false e h = refl

-- what is there already is put
pub put_itself : {A : Type 0} (f : ℕ → A) (k : ℕ) (x : A) → f k ≡ x → put f k x ≡ f
put_itself f k x h = λ i j. itself_by f k x j (k == j) refl h i

-- ---- lists

pub get_set : {A : Type 0} (xs : List A) (place : ℕ) (x : A) → place < length xs → slice_get (slice_set xs place x) place ≡ Some x
get_set [] place x h = absurd (omega arith)
get_set (y ∷ ys) zero x h = refl
get_set (y ∷ ys) (suc place) x h = get_set ys place x (omega arith)

pub get_other : {A : Type 0} (xs : List A) (place number : ℕ) (x : A) → place ≢ number → slice_get (slice_set xs place x) number ≡ slice_get xs number
get_other [] place number x h = refl
get_other (y ∷ ys) zero zero x h = absurd (h refl)
get_other (y ∷ ys) zero (suc number) x h = refl
get_other (y ∷ ys) (suc place) zero x h = refl
get_other (y ∷ ys) (suc place) (suc number) x h = get_other ys place number x (λ e. h (ap suc e))

-- What is put at one number, and what stays at the others.
use Rattle.std.specs.Prelude.{◌≡◌, ℕ, Bool, true, false, ◌&&◌, ◌==◌, if◌then◌else◌, refl}
use Rattle.std.proofs.Common.{ap, subst}
use Rattle.std.specs.Cmp.{unsigned_Decides}
use Rattle.gx_base.specs.Replays.{put}

pub no_bool : (b : Bool) → b ≡ true → b ≡ false → ⊥
no_bool true e f = absurd (cc)
no_bool false e f = absurd (cc)

pub both_are : (a b : Bool) → a ≡ true → b ≡ true → (a && b) ≡ true
both_are a b p q = λ i. p i && q i

pub same_number : (n : ℕ) → (n == n) ≡ true
same_number n = (unsigned_Decides n n).1 refl

pub numbers_equal : (n k : ℕ) → (n == k) ≡ true → n ≡ k
numbers_equal n k e = (unsigned_Decides n k).0 e

pub put_same : {A : Type 0} (f : ℕ → A) (k : ℕ) (x : A) → put f k x k ≡ x
put_same f k x = ap (λ (b : Bool). if b then x else f k) (same_number k)

pub put_other : {A : Type 0} (f : ℕ → A) (k : ℕ) (x : A) (j : ℕ) → (k == j) ≡ false → put f k x j ≡ f j
put_other f k x j e = ap (λ (b : Bool). if b then x else f j) e

put_by : {A : Type 0} (P : ℕ → A → Type 0) (f : ℕ → A) (k : ℕ) (x : A) (j : ℕ) (b : Bool) → (k == j) ≡ b → P k x → ((k == j) ≡ false → P j (f j)) → P j (if b then x else f j)
put_by P f k x j true e h g = subst (λ i. P i x) (numbers_equal k j e) h
put_by P f k x j false e h g = g e

-- what holds of what is put, and of the others, holds of all
pub put_holds : {A : Type 0} (P : ℕ → A → Type 0) (f : ℕ → A) (k : ℕ) (x : A) → P k x → ((j : ℕ) → (k == j) ≡ false → P j (f j)) → (j : ℕ) → P j (put f k x j)
put_holds P f k x h g j = put_by P f k x j (k == j) refl h (g j)

itself_by : {A : Type 0} (f : ℕ → A) (k j : ℕ) (b : Bool) → (k == j) ≡ b → (if b then f k else f j) ≡ f j
itself_by f k j true e = ap f (numbers_equal k j e)
itself_by f k j false e = refl

pub put_itself : {A : Type 0} (f : ℕ → A) (k j : ℕ) → put f k (f k) j ≡ f j
put_itself f k j = itself_by f k j (k == j) refl

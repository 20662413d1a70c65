-- Many steps by their squares.
use Rattle.std.specs.Prelude.{◌≡◌, ℕ, zero, suc, ◌+◌, ◌*◌, ◌/◌, ◌%◌, ◌==◌, Bool, true, false, if◌then◌else◌, refl}
use Rattle.std.proofs.Common.{◌∙◌, ap, subst, arith}
use Rattle.std.proofs.lemmas.Bool.Decides.{nat_tests}
use Rattle.schedules.specs.Draws.{next_draw_state, state_after}

-- a map done so many times
abbrev pub times : (ℕ → ℕ) → ℕ → ℕ → ℕ
times f zero x = x
times f (suc k) x = f (times f k x)

pub state_after-times : (x k : ℕ) → times next_draw_state k x ≡ state_after x k
unfolding state_after
state_after-times x zero = refl
state_after-times x (suc k) = ap next_draw_state (state_after-times x k)

pub times-same : (f g : ℕ → ℕ) → ((x : ℕ) → f x ≡ g x) → (k x : ℕ) → times f k x ≡ times g k x
times-same f g same zero x = refl
times-same f g same (suc k) x = same (times f k x) ∙ ap g (times-same f g same k x)

times-first : (f : ℕ → ℕ) (k x : ℕ) → times f k (f x) ≡ f (times f k x)
times-first f zero x = refl
times-first f (suc k) x = ap f (times-first f k x)

-- a square half as many times
times-square : (f g : ℕ → ℕ) → ((x : ℕ) → g x ≡ f (f x)) → (q n x : ℕ) → n ≡ 2 * q → times g q x ≡ times f n x
times-square f g square zero n x e = subst (λ (k : ℕ). x ≡ times f k x) (let none : 0 ≡ n = omega arith in none) refl
times-square f g square (suc q) n x e =
    let two_more : suc (suc (2 * q)) ≡ n = omega arith in
    square (times g q x) ∙ ap (λ (y : ℕ). f (f y)) (times-square f g square q (2 * q) x refl) ∙ ap (λ (k : ℕ). times f k x) two_more

odd_times : (f g : ℕ → ℕ) → ((x : ℕ) → g x ≡ f (f x)) → (q n x : ℕ) → n ≡ 2 * q + 1 → times g q (f x) ≡ times f n x
odd_times f g square q n x e =
    let one_more : suc (2 * q) ≡ n = omega arith in
    times-square f g square q (2 * q) (f x) refl ∙ times-first f (2 * q) x ∙ ap (λ (k : ℕ). times f k x) one_more

is_one : (n : ℕ) → (n == 1) ≡ true → n ≡ 1
is_one n e = grind (arith, nat_tests)

is_not_one : (n : ℕ) → (n == 1) ≡ false → n ≡ 1 → ⊥
is_not_one n e f = grind (arith, nat_tests)

halved_by : (f g : ℕ → ℕ) → ((x : ℕ) → g x ≡ f (f x)) → (n x y : ℕ) (odd : Bool) → (n % 2 == 1) ≡ odd → y ≡ (if odd then f x else x) → times g (n / 2) y ≡ times f n x
halved_by f g square n x y true o e = ap (times g (n / 2)) e ∙ (let one : n % 2 ≡ 1 = is_one (n % 2) o in odd_times f g square (n / 2) n x (omega arith))
halved_by f g square n x y false o e =
    ap (times g (n / 2)) e ∙ (let other : n % 2 ≡ 1 → ⊥ = is_not_one (n % 2) o in let even : n ≡ 2 * (n / 2) = omega arith in times-square f g square (n / 2) n x even)

-- half of what is left is left to the square
pub halved : (f g : ℕ → ℕ) → ((x : ℕ) → g x ≡ f (f x)) → (n x y : ℕ) → y ≡ (if n % 2 == 1 then f x else x) → times g (n / 2) y ≡ times f n x
halved f g square n x y e = halved_by f g square n x y (n % 2 == 1) refl e

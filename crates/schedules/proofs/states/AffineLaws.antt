-- Affine maps by remainders.
use Rattle.std.specs.Prelude.{◌≡◌, ℕ, ◌+◌, ◌*◌, ◌%◌, ◌<◌}
use Rattle.std.proofs.Common.{sym, ◌∙◌, ap, arith}
use Rattle.std.proofs.Math.Nat.{mod-add-mod, add-mod-mod, mod-eq_of_lt}
use Rattle.std.proofs.lemmas.Nat.{mul-mod_first, mul-mod_second}

distributed : (f t g u x : ℕ) → f * g * x + (f * u + t) ≡ f * (g * x + u) + t
distributed f t g u x = omega arith

-- a composed map
pub composed : (f t g u x m : ℕ) → ((f * g % m) * x + (f * u + t) % m) % m ≡ (f * ((g * x + u) % m) + t) % m
composed f t g u x m =
    add-mod-mod ((f * g % m) * x) (f * u + t) m
    ∙ sym (mod-add-mod ((f * g % m) * x) m (f * u + t))
    ∙ ap (λ (n : ℕ). (n + (f * u + t)) % m) (mul-mod_first (f * g) x m)
    ∙ mod-add-mod (f * g * x) m (f * u + t)
    ∙ ap (λ (n : ℕ). n % m) (distributed f t g u x)
    ∙ sym (mod-add-mod (f * (g * x + u)) m t)
    ∙ ap (λ (n : ℕ). (n + t) % m) (sym (mul-mod_second f (g * x + u) m))
    ∙ mod-add-mod (f * ((g * x + u) % m)) m t

pub added : (a b m : ℕ) → (a % m + b) % m ≡ (a + b) % m
added a b m = mod-add-mod a m b

pub same_state : (x m : ℕ) → x < m → (1 * x + 0) % m ≡ x
same_state x m lt = ap (λ (n : ℕ). n % m) (let e : 1 * x + 0 ≡ x = omega arith in e) ∙ mod-eq_of_lt lt

-- The keys along a chain of points fall.
use Rattle.std.proofs.Common.{◌≡◌, ℕ, ℤ, ◌+◌, ◌*◌, true, false, Some, refl, ap, subst, ◌∙◌, arith}
use Rattle.std.specs.Prelude.{◌-ℤ◌, unsigned_abs, min}
use Rattle.std.specs.Ordering.{int_eq, is_gt, is_lt}
use Rattle.std.specs.declared.cmp.Ordering.{Ordering}
use Rattle.std.specs.declared.cmp.Ordering.TheVariants.{Less, Equal, Greater}
use Rattle.std.specs.Int.{int_min, int_max}
use Rattle.std.proofs.lemmas.Int.{ints, clamps}
use Rattle.gx_base.specs.declared.calls.Spot.{Spot}
use Rattle.gx_base.specs.States.{State}
use Rattle.gx_base.specs.Spots.{Key, pk, key_cmp, distance, square, far}
use Rattle.gx_base.specs.PointKind.{spot_at, nearest}
use Rattle.kd_points.specs.NearestPoints.{IsOther, IsNearest, nearest-is, pk-apart, key_cmp_total}
use Rattle.cluster_laws.proofs.Takings.{apart_back, other_of}
use Rattle.cluster_laws.proofs.Counts.{no_bool}
use Rattle.cluster_laws.proofs.Calls.{int_same}

-- ---- the key of a pair is the same from both ends

abs_turned : (x y : ℤ) → unsigned_abs (x -ℤ y) ≡ unsigned_abs (y -ℤ x)
abs_turned x y = omega (arith, ints)

square_turned : (x y : ℤ) → square x y ≡ square y x
square_turned x y = ap (λ (n : ℕ). n * n) (abs_turned x y)

distance_turned : (p q : Spot) → distance p q ≡ distance q p
distance_turned p q = λ i. min (square_turned p.x q.x i + square_turned p.y q.y i) far

min_turned : (x y : ℤ) → int_min x y ≡ int_min y x
min_turned x y = omega (arith, ints, clamps)

max_turned : (x y : ℤ) → int_max x y ≡ int_max y x
max_turned x y = omega (arith, ints, clamps)

pub pk_turned : (p q : Spot) → pk p q ≡ pk q p
unfolding pk
pk_turned p q = λ i. (distance_turned p q i, min_turned p.id q.id i, max_turned p.id q.id i)

-- ---- keys fall

less_by : (r : Ordering) → is_gt r ≡ false → (r ≡ Equal → ⊥) → r ≡ Less
less_by Less e h = refl
less_by Equal e h = absurd (h refl)
less_by Greater e h = absurd (cc)

-- from p to the nearest point c, and from there to the nearest one, which isn't p
pub falls : (s : State) (p c q : Spot) → spot_at s p.id ≡ Some p → nearest s p ≡ Some c → nearest s c ≡ Some q → int_eq q.id p.id ≡ false → key_cmp (pk c q) (pk p c) ≡ Less
falls s p c q there near next apart =
    let other : IsOther s c p = record { there = there; other = apart_back c.id p.id (other_of s p c near).other } in
    let is : IsNearest s c (Some q) = subst (IsNearest s c) next (nearest-is s c) in
    let least : is_gt (key_cmp (pk c q) (pk c p)) ≡ false = is.1 p other in
    let less : key_cmp (pk c q) (pk c p) ≡ Less = less_by _ least (λ e. no_bool (int_eq q.id p.id) (ap (λ (x : ℤ). int_eq x p.id) (pk-apart c q p e) ∙ int_same p.id) apart) in
    ap (key_cmp (pk c q)) (pk_turned p c) ∙ less

is_less : (r : Ordering) → is_lt r ≡ true → r ≡ Less
is_less Less e = refl
is_less Equal e = absurd (cc)
is_less Greater e = absurd (cc)

pub less_then : (a b c : Key) → is_lt (key_cmp a b) ≡ true → key_cmp b c ≡ Less → is_lt (key_cmp a c) ≡ true
less_then a b c e f = ap is_lt (key_cmp_total.trans a b c (is_less _ e) f)

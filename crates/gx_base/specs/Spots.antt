-- How near two points are.
use Rattle.std.specs.Prelude.{ℕ, ℤ, ◌+◌, ◌*◌, ◌-◌, ◌^◌, ◌-ℤ◌, Bool, min, unsigned_abs}
use Rattle.std.specs.Ordering.{nat_cmp, int_cmp, ordering_then, is_gt}
use Rattle.std.specs.declared.cmp.Ordering.{Ordering}
use Rattle.std.specs.Int.{int_min, int_max}
use Rattle.gx_base.specs.declared.calls.Call.{Call}
use Rattle.gx_base.specs.declared.calls.Reply.{Reply}
use Rattle.gx_base.specs.declared.calls.Spot.{Spot}

-- the square of how far two numbers are apart
abbrev pub square : ℤ → ℤ → ℕ
square x y = unsigned_abs (x -ℤ y) * unsigned_abs (x -ℤ y)

-- the greatest number of 128 bits
abbrev pub far : ℕ
far = 2 ^ 128 - 1

-- the squared distance, which stops at that number
abbrev pub distance : Spot → Spot → ℕ
distance p q = min (square p.x q.x + square p.y q.y) far

-- the key of a pair: its distance, its smaller id and its larger id
abbrev pub Key : Type 0
Key = ℕ × ℤ × ℤ

-- the key of two points
unfoldable pub pk : Spot → Spot → Key
pk p q = (distance p q, int_min p.id q.id, int_max p.id q.id)

-- keys are compared from the left
abbrev pub key_cmp : Key → Key → Ordering
key_cmp x y = ordering_then (nat_cmp x.0 y.0) (ordering_then (int_cmp x.1 y.1) (int_cmp x.2 y.2))

-- q is farther from p than r is
abbrev pub beyond : Spot → Spot → Spot → Bool
beyond p q r = is_gt (key_cmp (pk p q) (pk p r))

-- the four arguments of a call as a point
abbrev pub spot_of_call : Call → Spot
spot_of_call c = record { id = c.a; x = c.b; y = c.c; z = c.d }

-- the four values of a reply as a point
abbrev pub spot_of_reply : Reply → Spot
spot_of_reply r = record { id = r.p; x = r.q; y = r.r; z = r.s }

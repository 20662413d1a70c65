-- When a side of a plane may be left out.
use Rattle.std.specs.Prelude.{◌≡◌, ℕ, ℤ, ◌<◌, ◌≤◌, ◌+◌, ◌*◌, ◌-ℤ◌, Bool, true, false, not, cond, int_lt, nat_lt, ◌==◌, min, unsigned_abs, refl}
use Rattle.std.proofs.Common.{arith}
use Rattle.std.proofs.Math.Nat.{mul-le-mul_left, mul-le-mul_right}
use Rattle.std.specs.declared.cmp.Ordering.{Ordering}
use Rattle.std.specs.declared.cmp.Ordering.TheVariants.{Less, Equal, Greater}
use Rattle.std.specs.Ordering.{is_gt, is_lt, ordering_then, int_cmp}
use Rattle.std.specs.Int.{int_min, int_max}
use Rattle.gx_base.specs.declared.calls.Spot.{Spot}
use Rattle.gx_base.specs.Spots.{square, distance, far, pk, beyond}
use Rattle.point_trees.specs.declared.nodes.Axis.{Axis}
use Rattle.point_trees.specs.declared.nodes.Axis.TheVariants.{X, Y}
use Rattle.point_trees.specs.declared.nodes.Node.{Node}
use Rattle.point_trees.specs.Trees.{coordinate, is_left}
use Rattle.point_trees.specs.Searches.{to_plane}

-- what stands between two numbers is no farther from either than they are apart
between_rising : (q s r : ℤ) → int_lt s q ≡ false → int_lt r s ≡ false → unsigned_abs (q -ℤ s) ≤ unsigned_abs (q -ℤ r)
between_rising q s r a b = grind arith

between_falling : (q s r : ℤ) → int_lt q s ≡ false → int_lt s r ≡ false → unsigned_abs (q -ℤ s) ≤ unsigned_abs (q -ℤ r)
between_falling q s r a b = grind arith

-- the side of a spot tells how the coordinates are ordered
left_by : (lt gt : Bool) (o : Ordering) → (gt ≡ true → lt ≡ false) → is_lt (ordering_then (cond lt Less (cond gt Greater Equal)) o) ≡ true → gt ≡ false
left_by true true o h e = absurd (let f : true ≡ false = h refl in cc)
left_by true false o h e = refl
left_by false true o h e = absurd (cc)
left_by false false o h e = refl

right_by : (lt gt : Bool) (o : Ordering) → is_lt (ordering_then (cond lt Less (cond gt Greater Equal)) o) ≡ false → lt ≡ false
right_by true gt o e = absurd (cc)
right_by false gt o e = refl

lt_one_way : (a b : ℤ) → int_lt b a ≡ true → int_lt a b ≡ false
lt_one_way a b e = grind arith

left_means : (a b : ℤ) (o : Ordering) → is_lt (ordering_then (int_cmp a b) o) ≡ true → int_lt b a ≡ false
left_means a b o e = left_by (int_lt a b) (int_lt b a) o (lt_one_way a b) e

right_means : (a b : ℤ) (o : Ordering) → is_lt (ordering_then (int_cmp a b) o) ≡ false → int_lt a b ≡ false
right_means a b o e = right_by (int_lt a b) (int_lt b a) o e

squares : (m n : ℕ) → m ≤ n → m * m ≤ n * n
squares m n h = let a : m * m ≤ m * n = mul-le-mul_left m h in let b : m * n ≤ n * n = mul-le-mul_right n h in omega arith

-- what stands on the other side of a plane is at least as far away along the axis
past_by : (q s r : ℤ) (o p : Ordering) (b c : Bool) → is_lt (ordering_then (int_cmp q s) o) ≡ b → is_lt (ordering_then (int_cmp r s) p) ≡ c → c ≡ not b → square q s ≤ square q r
past_by q s r o p true true e f g = absurd (cc)
past_by q s r o p true false e f g = squares _ _ (between_rising q s r (left_means q s o e) (right_means r s p f))
past_by q s r o p false true e f g = squares _ _ (between_falling q s r (right_means q s o e) (left_means r s p f))
past_by q s r o p false false e f g = absurd (cc)

one_of : (a b p : ℕ) → (p ≤ a) → p ≤ far → p ≤ min (a + b) far
one_of a b p h k = grind arith

two_of : (a b p : ℕ) → (p ≤ b) → p ≤ far → p ≤ min (a + b) far
two_of a b p h k = grind arith

distance-past : (axis : Axis) (q r : Spot) (p : ℕ) → p ≤ square (coordinate axis q) (coordinate axis r) → p ≤ far → p ≤ distance q r
distance-past X q r p h k = one_of (square q.x r.x) (square q.y r.y) p h k
distance-past Y q r p h k = two_of (square q.x r.x) (square q.y r.y) p h k

pub plane_before : (n : Node) (q r : Spot) → is_left n r ≡ not (is_left n q) → to_plane q n ≤ far → to_plane q n ≤ distance q r
plane_before n q r e k = distance-past n.axis q r (to_plane q n) (past_by (coordinate n.axis q) (coordinate n.axis n.spot) (coordinate n.axis r) _ _ (is_left n q) (is_left n r) refl refl e) k

less_by : (b c : Bool) (o : Ordering) → b ≡ true → is_gt (ordering_then (cond b Less (cond c Equal Greater)) o) ≡ false
less_by true c o e = refl
less_by false c o e = absurd (cc)

less_of : (a b : ℕ) → a < b → nat_lt a b ≡ true
less_of a b h = grind arith

-- what is less far is no farther
pub by_distance : (q n r : Spot) → distance q n < distance q r → beyond q n r ≡ false
unfolding pk
by_distance q n r h =
    less_by (nat_lt (distance q n) (distance q r)) (distance q n == distance q r) (ordering_then (int_cmp (int_min q.id n.id) (int_min q.id r.id)) (int_cmp (int_max q.id n.id) (int_max q.id r.id))) (less_of (distance q n) (distance q r) h)

more_by : (b c : Bool) (o : Ordering) → b ≡ false → c ≡ false → is_gt (ordering_then (cond b Less (cond c Equal Greater)) o) ≡ true
more_by true c o e f = absurd (cc)
more_by false true o e f = absurd (cc)
more_by false false o e f = refl

not_less_of : (a b : ℕ) → a < b → nat_lt b a ≡ false
not_less_of a b h = grind arith

not_same_of : (a b : ℕ) → a < b → (b == a) ≡ false
not_same_of a b h = grind arith

-- and what is farther is beyond it
pub by_farther : (q n r : Spot) → distance q n < distance q r → beyond q r n ≡ true
unfolding pk
by_farther q n r h =
    more_by (nat_lt (distance q r) (distance q n)) (distance q r == distance q n) (ordering_then (int_cmp (int_min q.id r.id) (int_min q.id n.id)) (int_cmp (int_max q.id r.id) (int_max q.id n.id)))
    (not_less_of (distance q n) (distance q r) h) (not_same_of (distance q n) (distance q r) h)

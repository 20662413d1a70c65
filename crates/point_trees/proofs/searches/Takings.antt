-- When a point takes the place of the best so far, and what is farther than that.
use Rattle.std.specs.Prelude.{◌≡◌, ℕ, ◌<◌, ◌≤◌, ◌+◌, true, false, not, nat_lt, min, Option, Some, None, refl}
use Rattle.std.proofs.Common.{sym, ◌∙◌, ap, subst, arith}
use Rattle.gx_base.specs.declared.calls.Spot.{Spot}
use Rattle.gx_base.specs.Spots.{square, distance, far}
use Rattle.point_trees.specs.Searches.{reach_of, is_past, takes}
use Rattle.point_trees.proofs.searches.Searched.{Within}
use Rattle.point_trees.proofs.searches.Pruning.{by_distance, by_farther}

pub takes_nearer : (q c m : Spot) (best : Option Spot) (reach own : ℕ) → best ≡ Some m → reach ≡ distance q c → own ≡ reach_of q best → reach < own → true ≡ takes q c best
takes_nearer q c m best reach own e f g h =
    let own_is : own ≡ distance q m = g ∙ ap (reach_of q) e in
    sym (ap (takes q c) e ∙ ap not (by_distance q c m (subst (λ x. x < distance q m) f (subst (λ x. reach < x) own_is h))))

pub takes_no_farther : (q c m : Spot) (best : Option Spot) (reach own : ℕ) → best ≡ Some m → reach ≡ distance q c → own ≡ reach_of q best → own < reach → false ≡ takes q c best
takes_no_farther q c m best reach own e f g h =
    let own_is : own ≡ distance q m = g ∙ ap (reach_of q) e in
    sym (ap (takes q c) e ∙ ap not (by_farther q m c (subst (λ x. x < distance q c) own_is (subst (λ x. own < x) f h))))

less_is : (a b : ℕ) → nat_lt a b ≡ true → a < b
less_is a b e = grind arith

capped : (a b d top reach : ℕ) → d ≡ min (a + b) top → nat_lt top reach ≡ true → reach ≤ d → ⊥
capped a b d top reach e f h = let l : top < reach = less_is top reach f in absurd (omega arith)

-- the best so far is no farther than what is past it
pub past_within : (q : Spot) (best : Option Spot) (reach : ℕ) (r : Spot) → is_past q best reach ≡ true → reach ≤ distance q r → Within q best r
past_within q None reach r e h = capped (square q.x r.x) (square q.y r.y) (distance q r) far reach refl e h
past_within q (Some n) reach r e h = let l : distance q n < reach = less_is (distance q n) reach e in by_distance q n r (omega arith)

-- What a write of one row does to the nearest point. What a nearest point is stands with the trees, and is passed on. These
-- laws stand here since points say of what they ship that it suits them, and that takes nothing from this crate's proofs.
use Rattle.std.specs.Prelude.{◌≡◌, ℤ, Bool, true, false, cond, Option, Some, None, List, refl}
use Rattle.std.proofs.Common.{sym, ◌∙◌, ap, subst}
use Rattle.std.specs.Ordering.{int_eq}
use Rattle.gx_base.specs.declared.calls.Spot.{Spot}
use Rattle.gx_base.specs.States.{State, row_at, with_row}
use Rattle.gx_base.specs.Spots.{beyond}
use Rattle.gx_base.specs.PointKind.{spot_of, spot_at, nearest}
use Rattle.kind_tables.proofs.CallerLemmas.{same_int, false_of}
use Rattle.point_trees.proofs.CallerLemmas.{nearest-when}
pub use Rattle.point_trees.specs.NearestPoints.{IsOther, IsNearest}
pub use Rattle.point_trees.proofs.CallerLemmas.{key_cmp_total, pk-apart, beyond-back, some_is, some_none, nearest-is, spot_at-with}

spot_at-apart : (s : State) (x : ℤ) (row : Option (List ℤ)) (y : ℤ) → int_eq y x ≡ false → spot_at (with_row s (0, x) row) y ≡ spot_at s y
spot_at-apart s x row y n = spot_at-with s x row y ∙ ap (λ b. cond b (spot_of y row) (spot_at s y)) n

other_after : (s : State) (x : ℤ) (row : Option (List ℤ)) (q r : Spot) → int_eq r.id x ≡ false → IsOther s q r → IsOther (with_row s (0, x) row) q r
other_after s x row q r n i = record { there = spot_at-apart s x row r.id n ∙ i.there; other = i.other }

other_before : (s : State) (x : ℤ) (row : Option (List ℤ)) (q r : Spot) → int_eq r.id x ≡ false → IsOther (with_row s (0, x) row) q r → IsOther s q r
other_before s x row q r n i = record { there = sym (spot_at-apart s x row r.id n) ∙ i.there; other = i.other }

-- the row of the spot's own id doesn't matter
nearest_own : (s : State) (q : Spot) (row : Option (List ℤ)) (o : Option Spot) → IsNearest s q o → IsNearest (with_row s (0, q.id) row) q o
nearest_own s q row None h = λ r i. h r (other_before s q.id row q r i.other i)
nearest_own s q row (Some n) h = (other_after s q.id row q n h.0.other h.0, λ r i. h.1 r (other_before s q.id row q r i.other i))

-- the point is not the one of this id
abbrev pub Avoids : Option Spot → ℤ → Type 0
Avoids None x = Unit {0}
Avoids (Some n) x = int_eq n.id x ≡ false

-- there is a nearest point, and a new one is no nearer
abbrev pub Behind : Spot → Option Spot → Option Spot → Type 0
Behind q o None = Unit {0}
Behind q None (Some c) = ⊥
Behind q (Some n) (Some c) = beyond q n c ≡ false

-- what a written row holds
new_is : (s : State) (x : ℤ) (row : Option (List ℤ)) (q r : Spot) → int_eq r.id x ≡ true → IsOther (with_row s (0, x) row) q r → spot_of x row ≡ Some r
new_is s x row q r t i =
    ap (λ y. spot_of y row) (sym (same_int r.id x t)) ∙ sym (spot_at-with s x row r.id ∙ ap (λ b. cond b (spot_of r.id row) (spot_at s r.id)) t) ∙ i.there

-- a row that isn't the nearest point's, and doesn't become it, doesn't matter
nearest_past : (s : State) (q : Spot) (x : ℤ) (row : Option (List ℤ)) (o : Option Spot) → IsNearest s q o → Avoids o x → Behind q o (spot_of x row) → IsNearest (with_row s (0, x) row) q o
nearest_past s q x row None h a b = λ r i. by_id r i (int_eq r.id x) refl
  where
    by_id : (r : Spot) → IsOther (with_row s (0, x) row) q r → (t : Bool) → int_eq r.id x ≡ t → ⊥
    by_id r i true t = subst (Behind q None) (new_is s x row q r t i) b
    by_id r i false t = h r (other_before s x row q r t i)
nearest_past s q x row (Some n) h a b = (other_after s x row q n a h.0, λ r i. by_id r i (int_eq r.id x) refl)
  where
    by_id : (r : Spot) → IsOther (with_row s (0, x) row) q r → (t : Bool) → int_eq r.id x ≡ t → beyond q n r ≡ false
    by_id r i true t = subst (Behind q (Some n)) (new_is s x row q r t i) b
    by_id r i false t = h.1 r (other_before s x row q r t i)

-- no point of an id that has no row is the nearest
pub absent_avoids : (s : State) (q : Spot) (x : ℤ) (o : Option Spot) → row_at s (0, x) ≡ None → IsNearest s q o → Avoids o x
absent_avoids s q x None e h = tt
absent_avoids s q x (Some n) e h = false_of (int_eq n.id x) (λ t.
    some_none n (sym (ap (spot_of n.id) (ap (λ y. row_at s (0, y)) (same_int n.id x t) ∙ e)) ∙ h.0.there))

pub nearest-own : (s : State) (q : Spot) (row : Option (List ℤ)) → nearest (with_row s (0, q.id) row) q ≡ nearest s q
nearest-own s q row = nearest-when (with_row s (0, q.id) row) q (nearest s q) (nearest_own s q row (nearest s q) (nearest-is s q))

-- a new point that is no nearer than the nearest one leaves it
pub nearest-with : (s : State) (q : Spot) (x : ℤ) (row : Option (List ℤ)) → row_at s (0, x) ≡ None → Behind q (nearest s q) (spot_of x row) → nearest (with_row s (0, x) row) q ≡ nearest s q
nearest-with s q x row e b = nearest-when (with_row s (0, x) row) q (nearest s q) (nearest_past s q x row (nearest s q) (nearest-is s q) (absent_avoids s q x (nearest s q) e (nearest-is s q)) b)

-- to take out another than the nearest point leaves it
pub nearest-without : (s : State) (q : Spot) (x : ℤ) → Avoids (nearest s q) x → nearest (with_row s (0, x) None) q ≡ nearest s q
nearest-without s q x a = nearest-when (with_row s (0, x) None) q (nearest s q) (nearest_past s q x None (nearest s q) (nearest-is s q) a tt)

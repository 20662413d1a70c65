-- What the calls of a body do to points and to cells.
use Rattle.std.proofs.Common.{◌≡◌, ℕ, ℤ, pos, true, false, Option, Some, None, List, [], ◌∷◌, refl, sym, ap, subst, ◌∙◌}
use Rattle.std.specs.Prelude.{int_lt}
use Rattle.std.specs.Cmp.{signed_Decides}
use Rattle.std.specs.Ordering.{int_eq}
use Rattle.gx_base.specs.declared.calls.Spot.{Spot}
use Rattle.gx_base.specs.declared.kinds.Kind.TheVariants.{Cells, Points}
use Rattle.gx_base.specs.Kinds.{kind_number}
use Rattle.gx_base.specs.Meanings.{number_reply}
use Rattle.gx_base.specs.PointKind as points
use Rattle.gx_base.specs.PointKind.{spot_of, spot_at, nearest_reply}
use Rattle.gx_base.specs.States.{State, row_at, with_row, number_at, with_number}
use Rattle.gx_base.specs.Steps.{next_state, reply_to, meaning_of}
use Rattle.gx_base.specs.RowActions.{same_numbers}
use Rattle.kd_points.specs.NearestPoints.{some_is}
use Rattle.clustering.specs.PointCalls.{nearest, add, remove, at, read, set}

abbrev pub ArePoints : State → Type 0
ArePoints s = s.kind ≡ kind_number Points

abbrev pub AreCells : State → Type 0
AreCells s = s.kind ≡ kind_number Cells

-- ---- points

pub next_nearest : (s : State) (c : Spot) → ArePoints s → next_state s (nearest c) ≡ s
unfolding next_state
next_nearest s c k = subst (λ (kind : ℕ). (meaning_of kind).next s (nearest c) ≡ s) (sym k) refl

pub reply_nearest : (s : State) (c : Spot) → ArePoints s → reply_to s (nearest c) ≡ nearest_reply (points.nearest s c)
unfolding reply_to
reply_nearest s c k = subst (λ (kind : ℕ). (meaning_of kind).reply s (nearest c) ≡ nearest_reply (points.nearest s c)) (sym k) refl

pub next_at : (s : State) (id : ℤ) → ArePoints s → next_state s (at id) ≡ s
unfolding next_state
next_at s id k = subst (λ (kind : ℕ). (meaning_of kind).next s (at id) ≡ s) (sym k) refl

pub reply_at : (s : State) (id : ℤ) → ArePoints s → reply_to s (at id) ≡ points.at_reply (spot_at s id)
unfolding reply_to
reply_at s id k = subst (λ (kind : ℕ). (meaning_of kind).reply s (at id) ≡ points.at_reply (spot_at s id)) (sym k) refl

abbrev pub place : Spot → List ℤ
place u = u.x ∷ u.y ∷ u.z ∷ []

-- the row of a point that is there
row_of : (id : ℤ) (row : Option (List ℤ)) (u : Spot) → spot_of id row ≡ Some u → row ≡ Some (place u)
row_of id None u e = absurd (cc)
row_of id (Some []) u e = absurd (cc)
row_of id (Some (x ∷ [])) u e = absurd (cc)
row_of id (Some (x ∷ y ∷ [])) u e = absurd (cc)
row_of id (Some (x ∷ y ∷ z ∷ [])) u e =
    let is : record { id = id; x = x; y = y; z = z } ≡ u = some_is _ u e in
    ap (λ (s : Spot). Some (place s)) is
row_of id (Some (x ∷ y ∷ z ∷ w ∷ xs)) u e = absurd (cc)

own_row : (id : ℤ) (row : Option (List ℤ)) (u : Spot) → spot_of id row ≡ Some u → u ≡ record { id = id; x = u.x; y = u.y; z = u.z }
own_row id None u e = absurd (cc)
own_row id (Some []) u e = absurd (cc)
own_row id (Some (x ∷ [])) u e = absurd (cc)
own_row id (Some (x ∷ y ∷ [])) u e = absurd (cc)
own_row id (Some (x ∷ y ∷ z ∷ [])) u e =
    let is : record { id = id; x = x; y = y; z = z } ≡ u = some_is _ u e in
    sym is ∙ ap (λ (s : Spot). record { id = id; x = s.x; y = s.y; z = s.z }) is
own_row id (Some (x ∷ y ∷ z ∷ w ∷ xs)) u e = absurd (cc)

pub own_spot : (s : State) (id : ℤ) (u : Spot) → spot_at s id ≡ Some u → u ≡ record { id = id; x = u.x; y = u.y; z = u.z }
own_spot s id u e = own_row id (row_at s (0, id)) u e

-- a point has the number by which it is found
pub own_id : (s : State) (id : ℤ) (u : Spot) → spot_at s id ≡ Some u → u.id ≡ id
own_id s id u e = ap (λ (t : Spot). t.id) (own_spot s id u e)

pub int_same : (x : ℤ) → int_eq x x ≡ true
int_same x = (signed_Decides x x).1 refl

same_place : (u : Spot) → same_numbers (place u) (place u) ≡ true
same_place u = rw (int_same u.x, int_same u.y, int_same u.z) refl

-- a remove of a point that is there
pub remove_reply : (s : State) (u : Spot) → ArePoints s → spot_at s u.id ≡ Some u → reply_to s (remove u) ≡ number_reply (pos 1)
unfolding reply_to
remove_reply s u k there =
    subst (λ (kind : ℕ). (meaning_of kind).reply s (remove u) ≡ number_reply (pos 1)) (sym k) (rw (row_of u.id (row_at s (0, u.id)) u there, same_place u) refl)

pub remove_next : (s : State) (u : Spot) → ArePoints s → spot_at s u.id ≡ Some u → next_state s (remove u) ≡ with_row s (0, u.id) None
unfolding next_state
remove_next s u k there =
    subst (λ (kind : ℕ). (meaning_of kind).next s (remove u) ≡ with_row s (0, u.id) None) (sym k) (rw (row_of u.id (row_at s (0, u.id)) u there, same_place u) refl)

-- an add of a point whose number has no row
pub add_next : (s : State) (u : Spot) → ArePoints s → row_at s (0, u.id) ≡ None → int_lt u.id (pos 0) ≡ false → int_eq u.z (pos 0) ≡ true → next_state s (add u) ≡ with_row s (0, u.id) (Some (place u))
unfolding next_state
add_next s u k none low flat =
    subst (λ (kind : ℕ). (meaning_of kind).next s (add u) ≡ with_row s (0, u.id) (Some (place u))) (sym k) (rw (none, low, flat) refl)

-- ---- cells

pub next_read : (s : State) (key : ℤ) → AreCells s → next_state s (read key) ≡ s
unfolding next_state
next_read s key k = subst (λ (kind : ℕ). (meaning_of kind).next s (read key) ≡ s) (sym k) refl

pub reply_read : (s : State) (key : ℤ) → AreCells s → reply_to s (read key) ≡ number_reply (number_at s (0, key))
unfolding reply_to
reply_read s key k = subst (λ (kind : ℕ). (meaning_of kind).reply s (read key) ≡ number_reply (number_at s (0, key))) (sym k) refl

pub set_next : (s : State) (key x : ℤ) → AreCells s → next_state s (set key x) ≡ with_number s (0, key) x
unfolding next_state
set_next s key x k = subst (λ (kind : ℕ). (meaning_of kind).next s (set key x) ≡ with_number s (0, key) x) (sym k) refl

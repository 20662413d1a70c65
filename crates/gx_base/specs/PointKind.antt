-- Points: a row of three numbers for each id.
use Rattle.std.specs.Prelude.{◌≡◌, ℕ, ◌+◌, ℤ, pos, negsuc, Bool, true, false, not, ◌&&◌, ◌==◌, if◌then◌else◌, int_lt, Option, Some, None, List, [], ◌∷◌, FitsSigned, codes}
use Rattle.std.specs.Ordering.{int_eq}
use Rattle.std.specs.FinMap as map
use Rattle.std.specs.Int.{w64}
use Rattle.gx_base.specs.declared.calls.Call.{Call}
use Rattle.gx_base.specs.declared.calls.Reply.{Reply}
use Rattle.gx_base.specs.declared.calls.Spot.{Spot}
use Rattle.gx_base.specs.States.{State, row_at}
use Rattle.gx_base.specs.Meanings.{Meaning, number_reply}
use Rattle.gx_base.specs.ObjectKinds.{ObjectKind}
use Rattle.gx_base.specs.RowActions.{RowAction, Nothing as NoAction, Turn, Ask, Look, actions_meaning}
use Rattle.gx_base.specs.Spots.{beyond, spot_of_call}

-- the point that a row of this id holds
abbrev pub spot_of : ℤ → Option (List ℤ) → Option Spot
spot_of id (Some (x ∷ y ∷ z ∷ [])) = Some (record { id = id; x = x; y = y; z = z })
spot_of id _ = None

-- the point of an id
abbrev pub spot_at : State → ℤ → Option Spot
spot_at s id = spot_of id (row_at s (0, id))

-- of two points, the one with the lesser key to a spot
abbrev pub nearer : Spot → Option Spot → Option Spot → Option Spot
nearer q None o = o
nearer q (Some r) None = Some r
nearer q (Some r) (Some o) = Some (if beyond q r o then o else r)

-- the point in this place, where it is another than the spot's own
abbrev pub other_at : State → Spot → ℕ × ℤ → Option Spot
other_at s q key = if key.0 == 0 && not (int_eq key.1 q.id) then spot_at s key.1 else None

-- of the points in these places, the nearest to a spot
abbrev pub nearest_of : State → Spot → List (ℕ × ℤ) → Option Spot
nearest_of s q [] = None
nearest_of s q (key ∷ keys) = nearer q (other_at s q key) (nearest_of s q keys)

-- the point of another id with the least key to a spot
unfoldable pub nearest : State → Spot → Option Spot
nearest s q = nearest_of s q (map.keys s.rows)

-- what `at` replies for a point: 1 and its coordinates, or zeros
abbrev pub at_reply : Option Spot → Reply
at_reply None = number_reply (pos 0)
at_reply (Some r) = record { p = pos 1; q = r.x; r = r.y; s = r.z }

-- what `nearest` replies for a point: its id and its coordinates, or the id -1
abbrev pub nearest_reply : Option Spot → Reply
nearest_reply None = number_reply (negsuc 0)
nearest_reply (Some r) = record { p = r.id; q = r.x; r = r.y; s = r.z }

-- the number of the first method of points
abbrev pub point_first : ℕ
point_first = 32

-- the methods of points
pub data PointDeed : Type 0 where
  Add : PointDeed
  Remove : PointDeed
  At : PointDeed
  Nearest : PointDeed
  Nothing : PointDeed

-- the method of a number
abbrev pub point_deed : ℕ → PointDeed
point_deed method =
    if method == point_first then Add
    else if method == point_first + 1 then Remove
    else if method == point_first + 2 then At
    else if method == point_first + 3 then Nearest
    else Nothing

-- the row of the point that a call names
abbrev pub point_row_of : Call → Option (List ℤ)
point_row_of c = Some (c.b ∷ c.c ∷ c.d ∷ [])

-- a point has an id of at least 0, and no third coordinate
abbrev pub may_add : Call → Bool
may_add c = not (int_lt c.a (pos 0)) && int_eq c.d (pos 0)

-- what a method of points does
abbrev pub point_action : PointDeed → Call → RowAction
point_action Add c = Turn (may_add c) None (point_row_of c)
point_action Remove c = Turn true (point_row_of c) None
point_action At c = Ask (λ row. at_reply (spot_of c.a row))
point_action Nearest c = Look (λ s. nearest_reply (nearest s (spot_of_call c)))
point_action Nothing c = NoAction

-- the meaning of points
abbrev pub point_meaning : Meaning
point_meaning = actions_meaning (λ c. point_action (point_deed c.method) c)

-- what a row of points may hold
abbrev pub IsPlace : ℕ × ℤ → Option (List ℤ) → Type 0
IsPlace key None = Unit {0}
IsPlace key (Some (x ∷ y ∷ z ∷ [])) = (key.0 ≡ 0) × FitsSigned w64 key.1 × FitsSigned w64 x × FitsSigned w64 y × FitsSigned w64 z
IsPlace key (Some _) = ⊥

-- each row is a point
abbrev pub HoldsPlaces : State → Type 0
HoldsPlaces s = (key : ℕ × ℤ) → IsPlace key (map.get s.rows key)

-- the kind of points
abbrev pub point_kind : ObjectKind
point_kind = record {
  word = codes "points";
  first = point_first;
  words = codes "add" ∷ codes "remove" ∷ codes "at" ∷ codes "nearest" ∷ [];
  meaning = point_meaning;
  may_hold = HoldsPlaces;
  has_state_function = false;
}

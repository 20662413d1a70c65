-- Gates that were entered and left, one after another.
use Rattle.std.specs.Prelude.{◌≡◌, ℕ, Bool, true, false, ◌||◌, ◌==◌, List, [], ◌∷◌, ◌++◌, refl}
use Rattle.std.proofs.Common.{◌∙◌, ap}
use Rattle.gate_core.specs.Views.{GateView}
use Rattle.speculation.proofs.Putting.{same_number}
use Rattle.rooms.specs.RoomsViews.{visited}
use Rattle.rooms.specs.declared.values.Value.TheVariants.{Object}
use Rattle.sessions.specs.RoomLists.{is_room_among}
use Rattle.sessions.specs.TurnMoves.{RoomMoves, gates_visited}

or_second : (p q : Bool) → q ≡ true → (p || q) ≡ true
or_second true q e = refl
or_second false q e = e

module _ {T S : Type 0} where
  -- one room more
  pub visited_then : (was now : ℕ → GateView) (front : List ℕ) (room : ℕ) (moves : RoomMoves T S) → gates_visited was now (front ++ room ∷ []) moves ≡ visited room (Object (was room)) (Object (now room)) (gates_visited was now front moves)
  visited_then was now [] room moves = refl
  visited_then was now (x ∷ xs) room moves = visited_then was now xs room (visited x (Object (was x)) (Object (now x)) moves)

  -- the gates of these rooms are the same
  pub visited_same : (was now first last : ℕ → GateView) (rooms : List ℕ) → ((room : ℕ) → is_room_among rooms room ≡ true → was room ≡ first room) → ((room : ℕ) → is_room_among rooms room ≡ true → now room ≡ last room) → (moves : RoomMoves T S)
      → gates_visited was now rooms moves ≡ gates_visited first last rooms moves
  visited_same was now first last [] h k moves = refl
  visited_same was now first last (x ∷ xs) h k moves =
      let here : is_room_among (x ∷ xs) x ≡ true = ap (λ (b : Bool). b || is_room_among xs x) (same_number x) in
      (λ i. gates_visited was now xs (visited x (Object (h x here i)) (Object (k x here i)) moves))
      ∙ visited_same was now first last xs (λ room m. h room (or_second (x == room) (is_room_among xs room) m)) (λ room m. k room (or_second (x == room) (is_room_among xs room) m)) (visited x (Object (first x)) (Object (last x)) moves)

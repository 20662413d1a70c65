-- The history of rooms in a vector, as it is kept for their contracts.
use Rattle.std.specs.Prelude.{List, [], ◌∷◌}
use Rattle.rooms.specs.RoomsViews.{Move, enters, leaves}
use Rattle.rooms.specs.Visits.{Visits}
use Rattle.rooms.specs.declared.history.History as history

abbrev pub values_of : {V : Type 0} → history.History V → List V
values_of (history.New values) = values.value.items
values_of (history.Entered' room value marker before) = values_of before
values_of (history.Left' room value marker before) = values_of before

abbrev pub moves_of : {V : Type 0} → history.History V → List (Move V)
moves_of (history.New values) = []
moves_of (history.Entered' room value marker before) = enters room value.value ∷ moves_of before
moves_of (history.Left' room value marker before) = leaves room value.value ∷ moves_of before

abbrev pub visits_of : {V : Type 0} → history.History V → Visits V
visits_of history = record { values = values_of history; moves = moves_of history }

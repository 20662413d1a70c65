-- Rooms in a vector, with counts of lost takes, that tell no values.
use Rattle.std.specs.Prelude.{ℕ, None, List, slice_index_or}
use Rattle.gx_base.specs.RoomViews.{RoomView}
use Rattle.rooms.specs.RoomsViews.{RoomsView}
use Rattle.rooms.specs.Visits.{Visits, view_of}

abbrev pub lossy_view : {V : Type 0} → (V → RoomView) → Visits V → List ℕ → RoomsView V
lossy_view tells visits lost = record (view_of tells visits) { lost = λ room. slice_index_or lost room 0; told = λ room. None }

-- What a room may hold in a loop over gates, as plain data.
use Rattle.gate_core.specs.Views.{GateView}
use Rattle.commit_book.specs.BookViews.{BookView}
use Rattle.gx_base.specs.RoomViews.{RoomView}
use Rattle.gate_core.specs.Homes as gates
use Rattle.commit_book.specs.Homes as books

pub data ValueView : Type 0 where
  GateOf : (gate : GateView) → ValueView
  BookOf : (book : BookView) → ValueView

-- what a room tells of it
abbrev pub room_view : ValueView → RoomView
room_view (GateOf gate) = gates.room_view gate
room_view (BookOf book) = books.room_view book

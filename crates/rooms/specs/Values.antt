-- The values of rooms in a loop over gates.
use Rattle.std.specs.Prelude.{◌≡◌, ℕ, false}
use Rattle.gx_base.specs.RoomViews.{RoomView, is_book, ReplaysAlone}
use Rattle.gate_core.specs.Homes.{IsHomedGate}
use Rattle.commit_book.specs.Homes as books
use Rattle.commit_book.specs.LawfulBooks.{IsLawfulBook}
use Rattle.rooms.specs.declared.values.Value.{Value}
use Rattle.rooms.specs.declared.values.Value.TheVariants.{Object, Book}
use Rattle.rooms.specs.ValueViews.{ValueView, GateOf, BookOf, room_view}

abbrev pub view_of : {T S : Type 0} → Value T S → ValueView
view_of (Object gate) = GateOf gate
view_of (Book book) = BookOf book

-- what a room tells of a value, and what holds of it while it is there
abbrev pub tells : {T S : Type 0} → Value T S → RoomView
tells value = room_view (view_of value)

abbrev pub IsHomed : {T S : Type 0} → Value T S → Type 0
IsHomed (Object gate) = IsHomedGate gate
IsHomed (Book book) = IsLawfulBook book

pub value_alone : {T S : Type 0} (value : Value T S) → IsHomed value → is_book (tells value).origin ≡ false → (worker : ℕ) → ReplaysAlone (tells value) worker
value_alone (Object gate) homed no_book worker = homed.alone worker
value_alone (Book book) homed no_book worker = books.book_alone book worker no_book

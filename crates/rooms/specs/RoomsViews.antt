-- What rooms tell their caller, and what entering and leaving one make of it.
use Rattle.std.specs.Prelude.{ℕ, ◌+◌, Bool, true, false, ◌&&◌, ◌==◌, if◌then◌else◌, Option, Some, None, List, ◌∷◌, length, filter, is_some}
use Rattle.gx_base.specs.declared.acts.Entry.{Entry}
use Rattle.gx_base.specs.Replays.{put}
use Rattle.gx_base.specs.RoomViews.{RoomView}

-- a value was handed out of a room, or was left in it
pub record Move (V : Type 0) : Type 0 where
  pub was_left : Bool
  pub room : ℕ
  pub value : V

abbrev pub enters : {V : Type 0} → ℕ → V → Move V
enters room value = record { was_left = false; room = room; value = value }

abbrev pub leaves : {V : Type 0} → ℕ → V → Move V
leaves room value = record { was_left = true; room = room; value = value }

-- with those of a visit, in which a room was entered with one value and left with another
abbrev pub visited : {V : Type 0} → ℕ → V → V → List (Move V) → List (Move V)
visited room was now moves = leaves room now ∷ enters room was ∷ moves

-- The rooms are numbered from 0, and the last one is the book's. Functions from numbers are over rooms, but for `acts_for`,
-- which is over workers.
pub record RoomsView (V : Type 0) : Type 0 where
  -- the book's room, and whether the book is ordered
  pub book : ℕ
  pub ordered : Bool
  -- the workers that the rooms act for, and the live entries of these workers; in a held room, as it was entered
  pub acts_for : ℕ → Bool
  pub live : ℕ → List Entry
  -- what the caller holds: each such room with what it told as it was entered
  pub held : ℕ → Option RoomView
  -- while the caller holds the book: the rooms that it has since left with a mark of one more than the book's number of commits then
  pub released : ℕ → Bool
  -- how often a room wasn't entered since another caller held it
  pub lost : ℕ → ℕ
  -- the rooms' values, where they are told; in a held room, as it was entered
  pub told : ℕ → Option V
  -- what was handed out to the caller and left by it, the newest first
  pub moves : List (Move V)

-- ---- what the caller holds

abbrev pub is_room_held : {V : Type 0} → RoomsView V → ℕ → Bool
is_room_held view room = is_some (view.held room)

abbrev pub holds_book : {V : Type 0} → RoomsView V → Bool
holds_book view = is_room_held view view.book

-- the mark of a held gate as it was entered
abbrev pub mark_in : Option RoomView → ℕ
mark_in None = 0
mark_in (Some seen) = seen.mark

abbrev pub mark_entered : {V : Type 0} → RoomsView V → ℕ → ℕ
mark_entered view room = mark_in (view.held room)

-- the number of commits of a held book as it was entered
abbrev pub commits_in : Option RoomView → ℕ
commits_in None = 0
commits_in (Some seen) = length seen.commits

abbrev pub commits_entered : {V : Type 0} → RoomsView V → ℕ
commits_entered view = commits_in (view.held view.book)

-- ---- entering and leaving

-- the entries of the workers that the rooms act for
abbrev pub entries_for : (ℕ → Bool) → List Entry → List Entry
entries_for acts_for es = filter (λ e. acts_for e.worker) es

abbrev pub nowhere : ℕ → Bool
nowhere room = false

-- the caller holds the room, which had this value. With the book it has released nothing yet
abbrev pub entered : {V : Type 0} → (V → RoomView) → RoomsView V → ℕ → V → RoomsView V
entered tells view room value = record view {
  held = put view.held room (Some (tells value));
  released = if room == view.book then nowhere else view.released;
  moves = enters room value ∷ view.moves;
}

-- a gate is left with this mark while the caller holds the book, and it is one more than the book's number of commits
abbrev pub is_release : {V : Type 0} → RoomsView V → ℕ → Bool
is_release view mark = holds_book view && (mark == commits_entered view + 1)

abbrev pub released_with : {V : Type 0} → RoomsView V → ℕ → ℕ → ℕ → Bool
released_with view room mark = if room == view.book then nowhere else (if is_release view mark then put view.released room true else view.released)

-- a value that is put in a room is told where the room's value was
abbrev pub told_with : {V : Type 0} → Option V → V → Option V
told_with None value = None
told_with (Some old) value = Some value

-- the room has this value
abbrev pub with_value : {V : Type 0} → (V → RoomView) → RoomsView V → ℕ → V → RoomsView V
with_value tells view room value = record view {
  live = put view.live room (entries_for view.acts_for (tells value).live);
  told = put view.told room (told_with (view.told room) value);
}

-- the room has this value, and the caller holds it no more
abbrev pub left : {V : Type 0} → (V → RoomView) → RoomsView V → ℕ → V → RoomsView V
left tells view room value = record (with_value tells view room value) {
  held = put view.held room None;
  released = released_with view room (tells value).mark;
  moves = leaves room value ∷ view.moves;
}

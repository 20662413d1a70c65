-- What a caller of rooms may rely on, and what the rooms ask of it.
use Rattle.std.specs.Prelude.{◌≡◌, ◌⊎◌, ℕ, ◌+◌, ◌<◌, ◌≤◌, Bool, true, false, ◌==◌, if◌then◌else◌, Option, Some, None, List, length, ⊤}
use Rattle.gx_base.specs.Outcomes.{WholeCommit}
use Rattle.gx_base.specs.Replays.{put}
use Rattle.gx_base.specs.RoomViews.{RoomView, Origin, OfGate, OfBook, is_book}
use Rattle.rooms.specs.RoomsViews.{RoomsView, holds_book, mark_entered, commits_entered, entries_for, is_release}

-- whether items are to commit in their order in a book
abbrev pub is_ordered : Origin → Bool
is_ordered (OfGate start kind table) = false
is_ordered (OfBook ready ordered) = ordered

-- a value that may stand in a room: it is a book exactly in the book's room, and is then ordered as the rooms tell
pub record MayStand (book : ℕ) (ordered : Bool) (room : ℕ) (seen : RoomView) : Type 0 where
  pub book_where : is_book seen.origin ≡ (room == book)
  pub ordered_as : is_book seen.origin ≡ true → is_ordered seen.origin ≡ ordered

-- ---- what is handed out

-- the greatest mark that a gate may have while the caller holds the book: only in a room that it has released since, one more
-- than the book's number of commits
abbrev pub greatest_mark : {V : Type 0} → RoomsView V → ℕ → ℕ
greatest_mark view room = if view.released room then commits_entered view + 1 else commits_entered view

-- where the room's value was told, it is this one
abbrev pub IsValueTold : {V : Type 0} → Option V → V → Type 0
IsValueTold None value = ⊤
IsValueTold (Some told) value = value ≡ told

-- a value that is handed out
pub record IsHandedOut {V : Type 0} (tells : V → RoomView) (view : RoomsView V) (room : ℕ) (value : V) : Type 0 where
  pub suits : MayStand view.book view.ordered room (tells value)
  pub live : is_book (tells value).origin ≡ false → entries_for view.acts_for (tells value).live ≡ view.live room
  pub mark : is_book (tells value).origin ≡ false → holds_book view ≡ true → (tells value).mark ≤ greatest_mark view room
  pub told : IsValueTold (view.told room) value

-- a count rose: at the last value of its type it stays
abbrev pub CountHasRisen : ℕ → ℕ → Type 0
CountHasRisen before now = (before < now) ⊎ ((before ≡ 18446744073709551615) × (now ≡ 18446744073709551615))

-- another caller held the room: its count of lost takes rose, and nothing else changed
pub record IsLost {V : Type 0} (before after : RoomsView V) (room : ℕ) : Type 0 where
  pub risen : CountHasRisen (before.lost room) (after.lost room)
  pub same : after ≡ record before { lost = put before.lost room (after.lost room) }

-- ---- what is taken back

-- a gate's mark is as it was entered, or, while the caller holds the book, one more than the book's number of commits
abbrev pub MayHaveMark : {V : Type 0} → RoomsView V → ℕ → ℕ → Type 0
MayHaveMark view room mark = (mark ≡ mark_entered view room) ⊎ (is_release view mark ≡ true)

-- no commit is gone, and where the caller has released a room there is one more
pub record MayHaveCommits {V : Type 0} (view : RoomsView V) (commits : List WholeCommit) : Type 0 where
  pub kept : commits_entered view ≤ length commits
  pub more : (room : ℕ) → view.released room ≡ true → commits_entered view < length commits

-- a value that may be left in a held room
pub record MayBeLeft {V : Type 0} (view : RoomsView V) (room : ℕ) (seen : RoomView) : Type 0 where
  pub suits : MayStand view.book view.ordered room seen
  pub mark : is_book seen.origin ≡ false → MayHaveMark view room seen.mark
  pub commits : is_book seen.origin ≡ true → MayHaveCommits view seen.commits

-- How the parts of a turn change rooms.
use Rattle.std.specs.Prelude.{◌≡◌, ◌⊎◌, ◌<◌, ◌-◌, ◌^◌, ◌==◌, if◌then◌else◌, ℕ, Bool, true, false, Option, Some, None, Result, Ok, Err, List, [], ◌∷◌, ◌++◌}
use Rattle.gx_base.specs.declared.items.Item.{Item}
use Rattle.gate_core.specs.Views.{GateView, release}
use Rattle.commit_book.specs.BookViews.{BookView, put_back}
use Rattle.commit_book.specs.declared.refusals.CommitRefuse.{CommitRefuse}
use Rattle.commit_book.specs.declared.refusals.CommitRefuse.TheVariants.{NotReady, NotLeast, Spent, Kept, NoMemory}
use Rattle.speculation.specs.Sessions.{has_no_step}
use Rattle.rooms.specs.HandedOut.{IsHandedOut, IsLost, MayHaveMark, MayHaveCommits}
use Rattle.rooms.specs.RoomsViews.{RoomsView, is_room_held, commits_entered, entries_for, told_with, entered, left}
use Rattle.rooms.specs.Values.{tells}
use Rattle.rooms.specs.declared.values.Value.{Value}
use Rattle.rooms.specs.declared.values.Value.TheVariants.{Object, Book}
use Rattle.sessions.specs.Places.{gate_of, IfTold}
use Rattle.sessions.specs.RoomLists.{is_room_among, AreRoomsRising, AreRoomsBelow}
use Rattle.sessions.specs.SessionViews.{Core}
use Rattle.sessions.specs.TurnMoves.{gates_visited}
use Rattle.sessions.specs.declared.events.Event.{Event as CodeEvent}
use Rattle.sessions.specs.declared.events.Event.TheVariants as events
use Rattle.sessions.specs.declared.events.Stop.{Stop}
use Rattle.sessions.specs.declared.events.Stop.TheVariants as stops
use Rattle.sessions.specs.declared.session.Phase.{Phase as CodePhase}
use Rattle.sessions.specs.declared.session.Phase.TheVariants as code

-- a gate with this mark may be left in its room
pub record MayLeaveGate {V : Type 0} (view : RoomsView V) (room now : ℕ) : Type 0 where
  pub in_range : room < view.book
  pub held : is_room_held view room ≡ true
  pub mark : MayHaveMark view room now

-- a book with these commits may be left in its room
pub record MayLeaveBook {V : Type 0} (view : RoomsView V) (book : BookView) : Type 0 where
  pub held : is_room_held view view.book ≡ true
  pub ordered : book.ordered ≡ view.ordered
  pub commits : MayHaveCommits view book.commits

-- a gate was entered, and left as this one
pub record WasVisited {T S : Type 0} (before after : RoomsView (Value T S)) (room : ℕ) (was now : GateView) : Type 0 where
  pub handed : IsHandedOut tells before room (Object was)
  pub visit : after ≡ left tells (entered tells before room (Object was)) room (Object now)

-- the book was entered, and left as this one
pub record BookWasVisited {T S : Type 0} (before after : RoomsView (Value T S)) (was now : BookView) : Type 0 where
  pub handed : IsHandedOut tells before before.book (Book was)
  pub visit : after ≡ left tells (entered tells before before.book (Book was)) before.book (Book now)

-- an iteration has given up: it has calls to take back, or else its item is put back, or that is still to be done as the book was held
pub data GaveUp {T S St : Type 0} (before after : RoomsView (Value T S)) (old new : Core) (phase : CodePhase St) : Type 0 where
  has_calls : has_no_step old.log ≡ false → after ≡ before → new ≡ old → phase ≡ code.Undoing → GaveUp before after old new phase
  is_over : (was : BookView) → has_no_step old.log ≡ true → BookWasVisited before after was (put_back was old.worker old.iter) → new ≡ record old { log = []; pushes = [] } → phase ≡ code.Idle
      → GaveUp before after old new phase
  owes : has_no_step old.log ≡ true → IsLost before after before.book → new ≡ old → phase ≡ code.Undoing → GaveUp before after old new phase

-- The calls of an iteration were released in these rooms, under a number, while the book was held. Each gate was such a one as the room
-- told, and nothing else changed
pub record AreReleased {T S : Type 0} (before after : RoomsView (Value T S)) (worker iter number : ℕ) (rooms : List ℕ) : Type 0 where
  pub was : ℕ → GateView
  pub entries : (room : ℕ) → is_room_among rooms room ≡ true → entries_for before.acts_for (was room).live ≡ before.live room
  pub gates : (room : ℕ) → is_room_among rooms room ≡ true → IfTold (before.told room) (λ value. was room ≡ gate_of value)
  pub live : (room : ℕ) → after.live room ≡ (if is_room_among rooms room then entries_for before.acts_for (release (was room) worker iter number).live else before.live room)
  pub told : (room : ℕ) → after.told room ≡ (if is_room_among rooms room then told_with (before.told room) (Object (release (was room) worker iter number)) else before.told room)
  pub book : after.book ≡ before.book
  pub ordered : after.ordered ≡ before.ordered
  pub acts_for : after.acts_for ≡ before.acts_for
  pub held : after.held ≡ before.held
  pub released : (room : ℕ) → is_room_among rooms room ≡ false → after.released room ≡ before.released room
  pub lost : after.lost ≡ before.lost
  pub moves : after.moves ≡ gates_visited was (λ room. release (was room) worker iter number) rooms before.moves

-- what is asked of rooms in which an iteration is to be released
pub record MayRelease {V : Type 0} (view : RoomsView V) (number : ℕ) (left : List ℕ) : Type 0 where
  pub rising : AreRoomsRising left
  pub below : AreRoomsBelow view.book left
  pub held : (room : ℕ) → is_room_held view room ≡ (room == view.book)
  pub count : commits_entered view ≡ number
  pub unreleased : (room : ℕ) → is_room_among left room ≡ true → view.released room ≡ false
  pub small : number < 2 ^ 64 - 1

-- it was released in rooms before this one, which was held
pub record IsReleaseCutShort {T S : Type 0} (before after : RoomsView (Value T S)) (worker iter number : ℕ) (rooms left : List ℕ) : Type 0 where
  pub front : List ℕ
  pub room : ℕ
  pub rest : List ℕ
  pub mid : RoomsView (Value T S)
  pub rooms_are : rooms ≡ front ++ room ∷ rest
  pub left_is : left ≡ room ∷ rest
  pub front_released : AreReleased before mid worker iter number front
  pub loss : IsLost mid after room

-- what a book answers to a commit: it refuses none for another reason than this, but for want of memory
abbrev pub MayAnswer : Option CommitRefuse → Result (ℕ × List ℕ) CommitRefuse → Type 0
MayAnswer why (Ok answer) = why ≡ None
MayAnswer why (Err refuse) = (why ≡ Some refuse) ⊎ (refuse ≡ NoMemory)

-- ---- a book that refuses a commit

-- what a turn answers then
abbrev pub answer_to : CommitRefuse → Result CodeEvent Stop
answer_to NotReady = Ok events.Drop
answer_to (NotLeast least) = Ok events.Wait
answer_to Spent = Err stops.Spent
answer_to Kept = Err stops.Kept
answer_to NoMemory = Err stops.NoMemory

-- the iteration has to undo, or is over where it has no calls
abbrev pub gives_up : CommitRefuse → Bool
gives_up NotReady = true
gives_up (NotLeast least) = false
gives_up Spent = true
gives_up Kept = true
gives_up NoMemory = true

-- one that stops has no pushes then
abbrev pub pushes_kept : CommitRefuse → List Item → List Item
pushes_kept NotReady pushes = pushes
pushes_kept (NotLeast least) pushes = pushes
pushes_kept Spent pushes = []
pushes_kept Kept pushes = []
pushes_kept NoMemory pushes = []

-- What a turn of a session did and answered.
use Rattle.std.specs.Prelude.{◌≡◌, ◌≢◌, ℕ, ◌<◌, ◌≤◌, Bool, true, false, ◌==◌, Option, Some, None, List, length, is_some, Result, Ok, Err, ⊤}
use Rattle.gx_base.specs.declared.acts.Entry.{Entry}
use Rattle.gx_base.specs.Entries.{entries_by}
use Rattle.gx_base.specs.Plans.{Operator}
use Rattle.gate_core.specs.CallAnswers.{Tells}
use Rattle.gate_core.specs.Views.{gate_rows, live_start}
use Rattle.commit_book.specs.BookViews.{is_named}
use Rattle.speculation.specs.Events.{Event}
use Rattle.speculation.specs.Events as event
use Rattle.speculation.specs.Limits.{Limit, limit_at}
use Rattle.speculation.specs.Limits as limit
use Rattle.speculation.specs.Machines.{Place, entry_of, turn_at}
use Rattle.speculation.specs.Sessions.{Phase, Idle, Running, Finished, Undoing, last_step}
use Rattle.rooms.specs.HandedOut.{CountHasRisen}
use Rattle.rooms.specs.RoomsViews.{Move, RoomsView}
use Rattle.rooms.specs.declared.values.Value.{Value}
use Rattle.sessions.specs.declared.events.Event.{Event as CodeEvent}
use Rattle.sessions.specs.declared.events.Event.TheVariants as code
use Rattle.sessions.specs.declared.events.Stop.{Stop}
use Rattle.sessions.specs.declared.events.Stop.TheVariants as stops
use Rattle.sessions.specs.Needs.{gone_on, is_last, needs}
use Rattle.sessions.specs.Places.{gate_of, IfTold, IsFit, StandsOn}
use Rattle.sessions.specs.SessionViews.{OpenCommit, SessionView}
use Rattle.sessions.specs.SharedTurns.{Shared, shared_turn, stopped_at}
use Rattle.sessions.specs.TurnMoves.{turn_moves, StopMoves}

-- ---- events

-- an event of the code, as the machine has it
abbrev pub event_of : CodeEvent → Event
event_of (code.Take item) = event.Take item
event_of (code.Call room call reply) = event.Call room call reply
event_of (code.Conflict room told) = event.Conflict room told.held told.asked told.would
event_of (code.Undo room call) = event.Undo room call
event_of (code.Commit number) = event.Commit number
event_of code.Wait = event.Wait
event_of code.Drop = event.Drop
event_of code.Idle = event.Idle
event_of code.Busy = event.Busy

abbrev pub is_conflict : Event → Bool
is_conflict (event.Conflict room held call would) = true
is_conflict _ = false

abbrev pub is_commit : Event → Bool
is_commit (event.Commit number) = true
is_commit _ = false

-- a conflict also tells the state functions, and they are right where the row of the two calls names them
abbrev pub TellsRight : Place → (worker : ℕ) → CodeEvent → Type 0
TellsRight p worker (code.Conflict room told) = (place : ℕ) × Tells (gate_rows (p.gates room)) (live_start (p.gates room)) (p.gates room).live (entry_of p worker (gone_on p.session) room told.asked) told place
TellsRight p worker _ = ⊤

-- ---- the room that was held

-- The turn found this room held, if any. It needs that room, and its count of lost takes rose. No other count did. A turn that found
-- none is the machine's, which is never busy.
pub record IsLostIn {V : Type 0} (before after : RoomsView V) (session : SessionView) (lost : Option ℕ) : Type 0 where
  pub needed : (room : ℕ) → lost ≡ Some room → needs before.book session room ≡ true
  pub risen : (room : ℕ) → lost ≡ Some room → CountHasRisen (before.lost room) (after.lost room)
  pub others : (room : ℕ) → lost ≢ Some room → after.lost room ≡ before.lost room

-- ---- limits

-- the limit that a commit in this turn would pass
abbrev pub limit_on : Operator → Place → ℕ → Option Limit
limit_on op p worker = limit_at (turn_at op p worker).event p.book (length p.session.outcome.steps)

-- where a running session finds the book held, it was in conflict before. Where a finished one finds another room held, that is the
-- room of its last call if the iteration is named, and else it has committed, and the commit passed no limit
abbrev pub IsCutIn : Operator → (book : ℕ) → Place → ℕ → Phase → ℕ → Type 0
IsCutIn op book p worker Idle room = ⊤
IsCutIn op book p worker (Running plan) room = (book == room) ≡ true → is_conflict (turn_at op p worker).event ≡ true
IsCutIn op book p worker Finished room =
    (book == room) ≡ false → (is_named p.book worker p.session.iter ≡ true → is_last (last_step p.session.outcome.steps) room ≡ true)
    × (is_named p.book worker p.session.iter ≡ false → (is_commit (turn_at op p worker).event ≡ true) × (limit_on op p worker ≡ None))
IsCutIn op book p worker Undoing room = ⊤

abbrev pub GoesWell : Operator → (book : ℕ) → Place → ℕ → Option OpenCommit → Option ℕ → Type 0
GoesWell op book p worker None None = limit_on op p worker ≡ None
GoesWell op book p worker None (Some room) = IsCutIn op book p worker (gone_on p.session).phase room
GoesWell op book p worker (Some made) lost = ⊤

-- ---- answers

-- what is there after a turn, as the shared turn has it
pub record IsAfter (shared : Shared) (event : Event) (after : SessionView) (q : Place) : Type 0 where
  pub event_is : event ≡ shared.event
  pub place_is : q ≡ shared.place
  pub opened_is : after.opened ≡ shared.opened
  pub pushed_is : after.pushed ≡ shared.pushed

-- a session that undoes, or that makes a commit, never stops
abbrev pub may_stop_at : Phase → Bool
may_stop_at Idle = true
may_stop_at (Running plan) = true
may_stop_at Finished = true
may_stop_at Undoing = false

abbrev pub may_stop : SessionView → Option OpenCommit → Bool
may_stop session None = may_stop_at session.at.phase
may_stop session (Some made) = false

-- a limit is told where the commit of this turn would pass it
abbrev pub IsCause : Stop → Option Limit → Type 0
IsCause stops.Spent passed = passed ≡ Some limit.Spent
IsCause stops.Kept passed = passed ≡ Some limit.Kept
IsCause stops.NoMemory passed = ⊤

-- a limit is told in a turn that found no room held. Want of memory is told also where the book was, into which the item was to be put back
abbrev pub MayLose : Stop → (book : ℕ) → Option ℕ → Type 0
MayLose stops.Spent book lost = lost ≡ None
MayLose stops.Kept book lost = lost ≡ None
MayLose stops.NoMemory book lost = (room : ℕ) → lost ≡ Some room → room ≡ book

pub record HasStopped (op : Operator) (book : ℕ) (before after : SessionView) (p q : Place) (lost : Option ℕ) (stop : Stop) : Type 0 where
  pub may : may_stop before before.opened ≡ true
  pub cause : IsCause stop (limit_on op p before.worker)
  pub held : MayLose stop book lost
  pub place_is : q ≡ stopped_at p before.worker before.at.phase lost
  pub opened_is : after.opened ≡ None
  pub pushed_is : after.pushed ≡ before.pushed

abbrev pub Answers : Operator → (book : ℕ) → (before after : SessionView) → (p q : Place) → Option ℕ → Result CodeEvent Stop → Type 0
Answers op book before after p q lost (Ok event) =
    IsAfter (shared_turn op book before p lost) (event_of event) after q × TellsRight p before.worker event × GoesWell op book p before.worker before.opened lost
Answers op book before after p q lost (Err stop) = HasStopped op book before after p q lost stop

-- ---- the rest

-- the entries of other workers are as before
abbrev pub OthersStay : ℕ → (before after : List Entry) → Type 0
OthersStay worker before after = (other : ℕ) → (other == worker) ≡ false → entries_by other after ≡ entries_by other before

-- what the rooms are, which of them tell their value, and what other workers have in them, is as before
pub record AreSameRooms {T S : Type 0} (before after : RoomsView (Value T S)) (worker : ℕ) : Type 0 where
  pub book : after.book ≡ before.book
  pub ordered : after.ordered ≡ before.ordered
  pub acts_for : after.acts_for ≡ before.acts_for
  pub telling : (room : ℕ) → room ≤ before.book → is_some (after.told room) ≡ is_some (before.told room)
  pub live : (room : ℕ) → room < before.book → OthersStay worker (before.live room) (after.live room)
  pub live_told : (room : ℕ) → room < before.book → IfTold (before.told room) (λ was. IfTold (after.told room) (λ now. OthersStay worker (gate_of was).live (gate_of now).live))

-- the moves of a turn are those that its event calls for, by the values that the places have
abbrev pub HasMoved : {T S : Type 0} → (book : ℕ) → SessionView → (p q : Place) → Option ℕ → Result CodeEvent Stop → (moves now : List (Move (Value T S))) → Type 0
HasMoved book session p q lost (Ok event) moves now = now ≡ turn_moves book p.gates q.gates p.book q.book session.worker (gone_on session.at) session.opened lost (event_of event) moves
HasMoved book session p q lost (Err stop) moves now = StopMoves book p.gates q.gates p.book q.book stop (gone_on session.at).phase session.at.outcome.steps lost moves now

-- A turn: on some place that the rooms and the session stand on before it, and one after it. In the rooms that it entered, these are what
-- was handed out and what was left
pub record HasTurned {T S : Type 0} (op : Operator) (rooms_before rooms_after : RoomsView (Value T S)) (before after : SessionView) (result : Result CodeEvent Stop) : Type 0 where
  pub p : Place
  pub q : Place
  pub lost : Option ℕ
  pub stood : StandsOn rooms_before before p
  pub stands : StandsOn rooms_after after q
  pub found : IsLostIn rooms_before rooms_after before lost
  pub answers : Answers op rooms_before.book before after p q lost result
  pub moved : HasMoved rooms_before.book before p q lost result rooms_before.moves rooms_after.moves
  pub same_rooms : AreSameRooms rooms_before rooms_after before.worker
  pub same_worker : after.worker ≡ before.worker

-- a turn after which the session is fit for the next one
pub record TakesTurn {T S : Type 0} (op : Operator) (rooms_before rooms_after : RoomsView (Value T S)) (before after : SessionView) (result : Result CodeEvent Stop) : Type 0 where
  pub has_turned : HasTurned op rooms_before rooms_after before after result
  pub is_fit : IsFit op rooms_after after

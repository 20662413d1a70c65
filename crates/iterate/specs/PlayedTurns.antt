-- Turns in rooms that one caller enters for all workers, on the machine that the rooms and the sessions are.
use Rattle.std.specs.Prelude.{◌≡◌, ◌⊎◌, ℕ, true, false, Option, Some, None, List, [], ◌∷◌, ◌++◌, slice_get, Result, Ok, Err, ⊤}
use Rattle.gate_core.specs.Views.{IsLawfulGate}
use Rattle.commit_book.specs.LawfulBooks.{IsLawfulBook}
use Rattle.gx_base.specs.Meanings.{IsCall}
use Rattle.gx_base.specs.Plans.{Operator}
use Rattle.speculation.specs.Events.{Event, Turn, then_turn}
use Rattle.speculation.specs.Events as event
use Rattle.speculation.specs.Limits.{limit_in, limit_of_alone, limit_of_played}
use Rattle.speculation.specs.Machines.{Machine, place_of, turn_at, turn}
use Rattle.speculation.specs.Premises.{AsksCall, AloneAsk, AsksCalls}
use Rattle.speculation.specs.ScheduledRuns.{is_empty, Run, lone_run, played}
use Rattle.speculation.specs.Sessions.{Session}
use Rattle.rooms.specs.RoomsViews.{RoomsView}
use Rattle.rooms.specs.declared.values.Value.{Value}
use Rattle.rooms.specs.declared.values.Value.TheVariants.{Object, Book}
use Rattle.sessions.specs.declared.events.Event.{Event as CodeEvent}
use Rattle.sessions.specs.declared.events.Stop.{Stop}
use Rattle.sessions.specs.declared.events.Turn.{Turn as CodeTurn}
use Rattle.sessions.specs.declared.session.Session.{Session as CodeSession}
use Rattle.sessions.specs.EventViews.{turns_of}
use Rattle.sessions.specs.Places.{IsFit}
use Rattle.iterate.specs.Plays.{gate_in, book_in}
use Rattle.sessions.specs.SessionViews.{Rests, SessionView, view_of, begun_view}
use Rattle.sessions.specs.Turns.{event_of, is_conflict, TellsRight, IsCause, may_stop_at}

-- ---- machines

-- the machine of rooms that tell their values, and of so many sessions
abbrev pub machine_of : {T S : Type 0} → RoomsView (Value T S) → (ℕ → Session) → Machine
machine_of rooms sessions = record { gates = λ room. gate_in (rooms.told room); book = book_in (rooms.told rooms.book); sessions = sessions }

-- a worker past the last session has had no iteration
abbrev pub session_in : {O St : Type 0} → Rests St → Option (CodeSession O St) → Session
session_in rest None = (begun_view 0).at
session_in rest (Some session) = (view_of rest session).at

abbrev pub sessions_of : {O St : Type 0} → Rests St → List (CodeSession O St) → ℕ → Session
sessions_of rest sessions worker = session_in rest (slice_get sessions worker)

abbrev pub run_of : {T S : Type 0} → RoomsView (Value T S) → (ℕ → Session) → List CodeTurn → Run
run_of rooms sessions trace = record { machine = machine_of rooms sessions; trace = turns_of trace }

-- what holds of a value between any two calls
abbrev pub IsLawfulValue : {T S : Type 0} → Value T S → Type 0
IsLawfulValue (Object gate) = IsLawfulGate gate
IsLawfulValue (Book book) = IsLawfulBook book

-- ---- sessions that may take turns

-- the session of this worker may take a turn, and makes no commit over several turns
pub record MayTurn {T S : Type 0} (op : Operator) (rooms : RoomsView (Value T S)) (worker : ℕ) (session : SessionView) : Type 0 where
  pub worker_is : session.worker ≡ worker
  pub closed : session.opened ≡ None
  pub fit : IsFit op rooms session

-- so may each session
abbrev pub MayAllTurn : {T S O St : Type 0} → Operator → RoomsView (Value T S) → Rests St → List (CodeSession O St) → Type 0
MayAllTurn {T} {S} {O} {St} op rooms rest sessions = (worker : ℕ) (session : CodeSession O St) → slice_get sessions worker ≡ Some session → MayTurn op rooms worker (view_of rest session)

-- the sessions are those of the first workers, before their first turns
abbrev pub AreBegun : {O St : Type 0} → Rests St → List (CodeSession O St) → Type 0
AreBegun {O} {St} rest sessions = (worker : ℕ) (session : CodeSession O St) → slice_get sessions worker ≡ Some session → view_of rest session ≡ begun_view worker

-- ---- turns

-- the call that an event tells, if any, has numbers of 64 bits
abbrev pub TellsCall : Event → Type 0
TellsCall (event.Take item) = ⊤
TellsCall event.Idle = ⊤
TellsCall (event.Call room call reply) = IsCall call
TellsCall (event.Conflict room held call would) = IsCall call
TellsCall (event.Commit number) = ⊤
TellsCall event.Wait = ⊤
TellsCall event.Drop = ⊤
TellsCall (event.Undo room call) = ⊤
TellsCall event.Busy = ⊤

-- the turn is that of the machine. The call that it asks, if any, has numbers of 64 bits, and its commit, if it makes one, passes no limit
pub record IsTurn (op : Operator) (before after : Machine) (worker : ℕ) (event : Event) : Type 0 where
  pub event_is : event ≡ (turn_at op (place_of before worker) worker).event
  pub machine_is : after ≡ turn op before worker
  pub unlimited : limit_in op before worker ≡ None
  pub asks : AsksCall (before.sessions worker).phase

-- the turn stopped: for a limit only where its commit would pass that, and never while it undoes
pub record IsStoppedTurn (op : Operator) (before : Machine) (worker : ℕ) (stop : Stop) : Type 0 where
  pub cause : IsCause stop (limit_in op before worker)
  pub may : may_stop_at (before.sessions worker).phase ≡ true

abbrev pub TurnAnswers : Operator → (before after : Machine) → (worker : ℕ) → Result CodeEvent Stop → Type 0
TurnAnswers op before after worker (Ok event) = IsTurn op before after worker (event_of event) × TellsRight (place_of before worker) worker event
TurnAnswers op before after worker (Err stop) = IsStoppedTurn op before worker stop

-- the turn, which the trace has then
pub record IsTracedTurn (op : Operator) (before after : Run) (worker : ℕ) : Type 0 where
  pub event : Event
  pub turn_is : IsTurn op before.machine after.machine worker event
  pub trace_is : after.trace ≡ then_turn before.trace worker event

-- ---- runs

-- worker 0 alone has emptied the ready set, by calls with numbers of 64 bits and commits that passed no limit
pub record IsEmptiedAlone (op : Operator) (before after : Machine) : Type 0 where
  pub turns : ℕ
  pub machine_is : after ≡ lone_run op before turns
  pub ends : is_empty after.book.ready ≡ true
  pub unlimited : limit_of_alone op before turns ≡ None
  pub asks : AloneAsk op before turns

-- the turns are those of the scheduled run, of which no commit passed a limit; nothing is ready after it
pub record IsPlayedRun (op : Operator) (before : Machine) (workers : ℕ) (schedule : List ℕ) (last : Run) : Type 0 where
  pub turns : ℕ
  pub unlimited : limit_of_played op before workers schedule turns ≡ None
  pub ends : is_empty last.machine.book.ready ≡ true
  pub run_is : last ≡ played op before workers schedule turns
  pub asks : AsksCalls op before workers schedule turns

-- the turns with one more, where that is an undo
abbrev pub with_undo : List Turn → ℕ → Event → List Turn
with_undo turns worker (event.Undo room call) = then_turn turns worker (event.Undo room call)
with_undo turns worker _ = turns

-- ---- conflicts

-- the trace has one more turn, which tells right at the machine before it
pub record IsToldTurn (before : Machine) (old new : List CodeTurn) : Type 0 where
  pub turn : CodeTurn
  pub trace_is : new ≡ old ++ turn ∷ []
  pub right : TellsRight (place_of before turn.worker) turn.worker turn.event

-- each turn is an earlier one, or else no conflict
abbrev pub AddsNoConflict : List CodeTurn → List CodeTurn → Type 0
AddsNoConflict old new = (k : ℕ) (t : CodeTurn) → slice_get new k ≡ Some t → (slice_get old k ≡ Some t) ⊎ (is_conflict (event_of t.event) ≡ false)

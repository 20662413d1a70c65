-- Whole runs: what `play` asks of its rooms, and what it answers.
use Rattle.std.specs.Prelude.{◌≡◌, ℕ, ◌+◌, ◌<◌, ◌≤◌, ◌^◌, true, Option, Some, None, List, [], take, slice_get}
use Rattle.gate_core.specs.Views.{GateView}
use Rattle.gx_base.specs.Plans.{Operator}
use Rattle.commit_book.specs.BookViews.{BookView, new_book}
use Rattle.speculation.specs.Events.{Turn}
use Rattle.speculation.specs.Limits.{Limit, limit_of_played}
use Rattle.speculation.specs.Limits as limit
use Rattle.speculation.specs.Machines.{Machine, place_of}
use Rattle.speculation.specs.RunResults.{IsSerialInTheEnd}
use Rattle.speculation.specs.ScheduledRuns.{is_empty, scheduled, played}
use Rattle.speculation.specs.ScheduledRuns.{begun as no_turn}
use Rattle.rooms.specs.declared.values.Value.{Value}
use Rattle.rooms.specs.declared.values.Value.TheVariants.{Object, Book}
use Rattle.sessions.specs.Places.{no_gate, gate_of, book_of}
use Rattle.sessions.specs.SessionViews.{begun_view}
use Rattle.sessions.specs.Turns.{TellsRight}
use Rattle.sessions.specs.declared.events.Stop.{Stop}
use Rattle.sessions.specs.declared.events.Stop.TheVariants as stops
use Rattle.sessions.specs.declared.events.Turn.{Turn as CodeTurn}

-- ---- the machine at the start

-- the gate of a room, where it has one
abbrev pub gate_in : {T S : Type 0} → Option (Value T S) → GateView
gate_in None = no_gate
gate_in (Some value) = gate_of value

abbrev pub book_in : {T S : Type 0} → Option (Value T S) → BookView
book_in None = new_book true []
book_in (Some value) = book_of value

-- the machine of some values by their rooms, before its first turn. The book is in the room after the gates
abbrev pub begun_machine : {T S : Type 0} → ℕ → (ℕ → Option (Value T S)) → Machine
begun_machine rooms values = record { gates = λ room. gate_in (values room); book = book_in (values rooms); sessions = λ worker. (begun_view worker).at }

-- a gate that has no entry
pub record IsNewGateIn {T S : Type 0} (value : Option (Value T S)) : Type 0 where
  pub gate : GateView
  pub is_there : value ≡ Some (Object gate)
  pub no_done : gate.done ≡ []
  pub no_live : gate.live ≡ []

-- a book, ordered as the operator is, in which nothing is held and nothing has committed
pub record IsNewBookIn {T S : Type 0} (op : Operator) (value : Option (Value T S)) : Type 0 where
  pub book : BookView
  pub is_there : value ≡ Some (Book book)
  pub ordered : book.ordered ≡ op.ordered
  pub no_holds : book.holds ≡ []
  pub no_commits : book.commits ≡ []

-- the values are new for an operator: its gates, and then the book
pub record AreNewFor {T S : Type 0} (op : Operator) (values : ℕ → Option (Value T S)) : Type 0 where
  pub gates : (room : ℕ) → room < op.rooms → IsNewGateIn (values room)
  pub book : IsNewBookIn op (values op.rooms)
  pub no_more : (room : ℕ) → op.rooms < room → values room ≡ None
  pub few : op.rooms + 1 < 2 ^ 32

-- ---- the run

-- The turns are those of the scheduled run, after which nothing is ready, and the values are as it leaves them. None of its commits
-- passed a limit, and they are a serial run of the operator
pub record IsPlayed {T S : Type 0} (op : Operator) (begun : Machine) (workers : ℕ) (schedule : List ℕ) (trace : List Turn) (values : ℕ → Option (Value T S)) : Type 0 where
  pub turns : ℕ
  pub unlimited : limit_of_played op begun workers schedule turns ≡ None
  pub ends : is_empty (played op begun workers schedule turns).machine.book.ready ≡ true
  pub trace_is : trace ≡ (played op begun workers schedule turns).trace
  pub gates : (room : ℕ) → room < op.rooms → values room ≡ Some (Object ((played op begun workers schedule turns).machine.gates room))
  pub book : values op.rooms ≡ Some (Book (played op begun workers schedule turns).machine.book)
  pub no_more : (room : ℕ) → op.rooms < room → values room ≡ None
  pub no_others : (room : ℕ) → op.rooms ≤ room → (played op begun workers schedule turns).machine.gates room ≡ no_gate
  pub serial : IsSerialInTheEnd op begun (played op begun workers schedule turns).machine

-- each conflict in the trace tells the state functions right, at the machine of the scheduled run before its turn. So many turns lead there
abbrev pub ConflictsTellRight : Operator → Machine → List ℕ → List CodeTurn → Type 0
ConflictsTellRight op begun schedule trace = (k : ℕ) (t : CodeTurn) → slice_get trace k ≡ Some t → TellsRight (place_of (scheduled op (no_turn begun) (take k schedule)).machine t.worker) t.worker t.event

abbrev pub stop_of : Limit → Stop
stop_of limit.Spent = stops.Spent
stop_of limit.Kept = stops.Kept

-- the first of the scheduled run's commits that would pass a limit passes this one
abbrev pub PassesFirst : Operator → Machine → ℕ → List ℕ → Limit → Type 0
PassesFirst op begun workers schedule limit = (turns : ℕ) × (limit_of_played op begun workers schedule turns ≡ Some limit)

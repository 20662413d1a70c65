-- What every run of the speculative machine gives.
use Rattle.std.specs.Prelude.{◌≡◌, ◌⊎◌, ℕ, zero, suc, ◌≤◌, true, false, List, [], ◌∷◌, ◌++◌, length}
use Rattle.gx_base.specs.declared.acts.Entry.{Entry}
use Rattle.gx_base.specs.States.{State}
use Rattle.gx_base.specs.Plans.{Operator}
use Rattle.gx_base.specs.Outcomes.{outcomes_of, journal}
use Rattle.gx_base.specs.Replays.{part}
use Rattle.gx_base.specs.SerialIterations.{Ended}
use Rattle.gx_base.specs.SerialRuns.{IsSerialRun}
use Rattle.gate_core.specs.Entries.{mades_of, Each}
use Rattle.gate_core.specs.Replays.{LegalEntries}
use Rattle.gate_core.specs.Views.{live_start}
use Rattle.speculation.specs.Events.{Event, then_turn}
use Rattle.speculation.specs.EventRows.{Happens}
use Rattle.speculation.specs.Sessions.{Session, is_idle}
use Rattle.speculation.specs.Machines.{Machine}
use Rattle.speculation.specs.ScheduledRuns.{is_empty, Run, begun, drain, played}

-- the states of the objects
abbrev pub object_states : Machine → ℕ → State
object_states m room = (m.gates room).state

-- those before all uncommitted entries
abbrev pub committed_states : Machine → ℕ → State
committed_states m room = live_start (m.gates room)

-- where a serial iteration in the order of the book's commits has to end
abbrev pub end_in : Machine → (ℕ → State) → Ended
end_in m states = record { states = states; ready = m.book.ready; outcomes = outcomes_of m.book.commits }

-- from the first states and the first ready set, the commits are a serial run of the operator: the serial iteration of their items is
-- defined, and its bodies do what the commits record. Each gate's committed entries are the part of the journal in its room. Where
-- nothing is ready at the end, no gate has an uncommitted entry, and the serial run ends in the objects' states
pub record IsSerialInTheEnd (op : Operator) (before after : Machine) : Type 0 where
  pub run : IsSerialRun op (object_states before) before.book.ready after.book.commits (end_in after (committed_states after))
  pub past : (room : ℕ) → mades_of (after.gates room).done ≡ part room (journal after.book.commits)
  pub none_live : is_empty after.book.ready ≡ true → (room : ℕ) → (after.gates room).live ≡ []
  pub whole : is_empty after.book.ready ≡ true → IsSerialRun op (object_states before) before.book.ready after.book.commits (end_in after (object_states after))

-- after enough turns of worker 0 nothing is ready, or so many items have committed
abbrev pub EndsOrCommits : ℕ → Operator → Machine → ℕ → List ℕ → Type 0
EndsOrCommits count op m workers schedule =
    (turns : ℕ) × ((is_empty (played op m workers schedule turns).machine.book.ready ≡ true) ⊎ (count ≤ length (played op m workers schedule turns).machine.book.commits))

-- an entry is that of its worker's present iteration, which is live
pub record IsOfLiveIteration (sessions : ℕ → Session) (e : Entry) : Type 0 where
  pub live : is_idle (sessions e.worker).phase ≡ false
  pub iter : e.iter ≡ (sessions e.worker).iter
  pub item : e.item ≡ (sessions e.worker).item

-- each room's state is the replay, from the first one, of the committed entries and the uncommitted ones that are left. The former are
-- the part of the journal in the room, and the latter are of live iterations alone. So of an iteration that was given up nothing is left
pub record HasNoTraceOfAborted (before after : Machine) : Type 0 where
  pub replayed : (room : ℕ) → LegalEntries (before.gates room).state ((after.gates room).done ++ (after.gates room).live) (after.gates room).state
  pub committed : (room : ℕ) → mades_of (after.gates room).done ≡ part room (journal after.book.commits)
  pub uncommitted : (room : ℕ) → Each (IsOfLiveIteration after.sessions) (after.gates room).live

-- a run of scheduled turns, each of which is an event of the table, while an item is ready
abbrev pub IsScheduledRun : Operator → Run → List ℕ → Run → Type 0
IsScheduledRun op r [] last = last ≡ r
IsScheduledRun op r (worker ∷ schedule) last =
    ((is_empty r.machine.book.ready ≡ true) × (last ≡ r))
    ⊎ ((is_empty r.machine.book.ready ≡ false) × ((event : Event) × (next : Machine) × Happens op r.machine worker event next
    × IsScheduledRun op (record { machine = next; trace = then_turn r.trace worker event }) schedule last))

-- worker 0 alone: at most so many turns, each of which is an event of the table, while an item is ready
abbrev pub IsLoneRun : Operator → Machine → ℕ → Machine → Type 0
IsLoneRun op m zero last = last ≡ m
IsLoneRun op m (suc turns) last =
    ((is_empty m.book.ready ≡ true) × (last ≡ m)) ⊎ ((is_empty m.book.ready ≡ false) × ((event : Event) × (next : Machine) × Happens op m 0 event next × IsLoneRun op next turns last))

-- a whole run: the scheduled turns by the table, what the drain makes of them, and worker 0 alone by the table
abbrev pub IsWholeScheduledRun : Operator → Machine → ℕ → List ℕ → ℕ → Run → Type 0
IsWholeScheduledRun op m workers schedule turns last =
    (r : Run) × IsScheduledRun op (begun m) schedule r × IsLoneRun op (drain r workers).machine turns last.machine × (last.trace ≡ (drain r workers).trace)

-- Whole runs: the scheduled turns, the drain, and worker 0 alone.
use Rattle.std.specs.Prelude.{ℕ, zero, suc, ◌<◌, Bool, true, false, if◌then◌else◌, List, [], ◌∷◌, length, ⊤}
use Rattle.gx_base.specs.declared.items.Item.{Item}
use Rattle.gx_base.specs.Plans.{Operator}
use Rattle.speculation.specs.Events.{Turn, then_turn}
use Rattle.speculation.specs.Sessions.{is_idle, has_no_step}
use Rattle.speculation.specs.Machines.{Machine, place_of, settled, let_go, Turned, undo, turn_at, turn}

abbrev pub is_empty : List Item → Bool
is_empty [] = true
is_empty (x ∷ xs) = false

-- how far a run has come, and its turns up to there
pub record Run : Type 0 where
  pub machine : Machine
  pub trace : List Turn

-- before the first turn
abbrev pub begun : Machine → Run
begun m = record { machine = m; trace = [] }

-- a worker's turn, and the machine after it
abbrev pub then_turned : Run → ℕ → Turned → Run
then_turned r worker turned = record { machine = settled r.machine worker turned.place; trace = then_turn r.trace worker turned.event }

-- turn k is that of the k-th worker of the schedule. No further turn is made once nothing is ready
unfoldable pub scheduled : Operator → Run → List ℕ → Run
scheduled op r [] = r
scheduled op r (worker ∷ schedule) = if is_empty r.machine.book.ready then r else scheduled op (then_turned r worker (turn_at op (place_of r.machine worker) worker)) schedule

-- a live iteration undoes the last of its entries, or is over where it has none
abbrev pub drain_step : Run → ℕ → Run
drain_step r worker =
    if is_idle (r.machine.sessions worker).phase then r
    else (if has_no_step (r.machine.sessions worker).outcome.steps then record r { machine = settled r.machine worker (let_go (place_of r.machine worker) worker (r.machine.sessions worker)) }
    else then_turned r worker (undo (place_of r.machine worker) worker (r.machine.sessions worker)))

abbrev pub drain_steps : ℕ → Run → ℕ → Run
drain_steps zero r worker = r
drain_steps (suc n) r worker = drain_steps n (drain_step r worker) worker

-- a live iteration undoes its entries from the last to the first, and its item is held no more
unfoldable pub drain_worker : Run → ℕ → Run
drain_worker r worker = drain_steps (suc (length (r.machine.sessions worker).outcome.steps)) r worker

-- so do those of the first so many workers, by rising worker
unfoldable pub drain : Run → ℕ → Run
drain r zero = r
drain r (suc worker) = drain_worker (drain r worker) worker

-- worker 0 alone takes at most so many turns, until nothing is ready
unfoldable pub lone_run : Operator → Machine → ℕ → Machine
lone_run op m zero = m
lone_run op m (suc n) = if is_empty m.book.ready then m else lone_run op (turn op m 0) n

-- the scheduled turns and the drain, from a machine that has made no turn
unfoldable pub drained : Operator → Machine → ℕ → List ℕ → Run
drained op m workers schedule = drain (scheduled op (begun m) schedule) workers

-- then worker 0 alone. Its turns aren't traced
unfoldable pub played : Operator → Machine → ℕ → List ℕ → ℕ → Run
played op m workers schedule turns = record (drained op m workers schedule) { machine = lone_run op (drained op m workers schedule).machine turns }

-- each number of the schedule is below the number of workers
abbrev pub AllBelow : List ℕ → ℕ → Type 0
AllBelow [] workers = ⊤
AllBelow (worker ∷ schedule) workers = (worker < workers) × AllBelow schedule workers

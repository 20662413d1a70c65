-- The limits of a loop, on how many items commit and on how many steps they make.
use Rattle.std.specs.Prelude.{◌≡◌, ◌≢◌, ◌⊎◌, ℕ, zero, suc, true, if◌then◌else◌, Option, Some, None, List, [], ◌∷◌, length}
use Rattle.gx_base.specs.Plans.{Operator}
use Rattle.commit_book.specs.BookViews.{BookView, is_spent, is_past_journal}
use Rattle.speculation.specs.Events.{Event}
use Rattle.speculation.specs.Events as event
use Rattle.speculation.specs.Machines.{Machine, place_of, turn_at, turn}
use Rattle.speculation.specs.ScheduledRuns.{is_empty, Run, begun, then_turned, drained, played}

-- what a commit would pass. One that would pass both limits is spent
pub data Limit : Type 0 where
  Spent : Limit
  Kept : Limit

-- the limit that one more commit would pass, whose body has made so many steps
abbrev pub limit_of : BookView → ℕ → Option Limit
limit_of b steps = if is_spent b then Some Spent else (if is_past_journal b steps then Some Kept else None)

-- the limit that a turn with this event would pass: none, where it isn't a commit
abbrev pub limit_at : Event → BookView → ℕ → Option Limit
limit_at (event.Take item) b steps = None
limit_at event.Idle b steps = None
limit_at (event.Call room call reply) b steps = None
limit_at (event.Conflict room held call would) b steps = None
limit_at (event.Commit number) b steps = limit_of b steps
limit_at event.Wait b steps = None
limit_at event.Drop b steps = None
limit_at (event.Undo room call) b steps = None
limit_at event.Busy b steps = None

-- the limit that the worker's turn would pass
abbrev pub limit_in : Operator → Machine → ℕ → Option Limit
limit_in op m worker = limit_at (turn_at op (place_of m worker) worker).event m.book (length (m.sessions worker).outcome.steps)

abbrev pub or_later : Option Limit → Option Limit → Option Limit
or_later None later = later
or_later (Some limit) later = Some limit

-- the first limit that one of the scheduled turns would pass
unfoldable pub limit_of_scheduled : Operator → Run → List ℕ → Option Limit
limit_of_scheduled op r [] = None
limit_of_scheduled op r (worker ∷ schedule) =
    if is_empty r.machine.book.ready then None
    else or_later (limit_in op r.machine worker) (limit_of_scheduled op (then_turned r worker (turn_at op (place_of r.machine worker) worker)) schedule)

-- the first one that a turn of worker 0 alone would pass
unfoldable pub limit_of_alone : Operator → Machine → ℕ → Option Limit
limit_of_alone op m zero = None
limit_of_alone op m (suc n) = if is_empty m.book.ready then None else or_later (limit_in op m 0) (limit_of_alone op (turn op m 0) n)

-- the first one in a whole run
unfoldable pub limit_of_played : Operator → Machine → ℕ → List ℕ → ℕ → Option Limit
limit_of_played op m workers schedule turns = or_later (limit_of_scheduled op (begun m) schedule) (limit_of_alone op (drained op m workers schedule).machine turns)

-- after enough turns of worker 0 nothing is ready, or a commit would have passed a limit
abbrev pub EndsOrPasses : Operator → Machine → ℕ → List ℕ → Type 0
EndsOrPasses op m workers schedule =
    (turns : ℕ) × ((is_empty (played op m workers schedule turns).machine.book.ready ≡ true) ⊎ (limit_of_played op m workers schedule turns ≢ None))

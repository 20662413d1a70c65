-- Runs of a loop by virtual workers over gates, and the reports on them.
use Rattle.std.specs.Prelude.{◌≡◌, ℕ, nat_lt, if◌then◌else◌, Option, Some, None, List, [], ◌++◌}
use Rattle.gx_base.specs.declared.items.Item.{Item}
use Rattle.gx_base.specs.Outcomes.{WholeCommit, order_of, outcomes_of}
use Rattle.gx_base.specs.Plans.{Operator}
use Rattle.gx_base.specs.SerialRuns.{IsSerialRun}
use Rattle.gx_base.specs.States.{State}
use Rattle.gx_base.specs.Worklists.{with_items}
use Rattle.gate_core.specs.Views.{GateView}
use Rattle.commit_book.specs.BookViews.{new_book}
use Rattle.speculation.specs.Limits.{Limit, limit_of_played}
use Rattle.speculation.specs.Machines.{Machine}
use Rattle.speculation.specs.ScheduledRuns.{Run, played}
use Rattle.schedules.specs.Draws.{scheduled_turns}
use Rattle.sessions.specs.Places.{no_gate}
use Rattle.sessions.specs.SessionViews.{begun_view}
use Rattle.traces.specs.Traces.{trace_text}
use Rattle.run_words.specs.declared.options.RunOptions.{RunOptions}
use Rattle.loop_runs.specs.GateTables.{GateTables}

-- what is run: an operator, the states of its rooms at the start, and what is ready then; the report on an order and on the
-- states at the end; and what is shown besides of the commits of a whole run and of the states that it ends in
pub record Loop : Type 1 where
  pub operator : Operator
  pub states : ℕ → State
  pub ready : List Item
  pub report : List Item → (ℕ → State) → List ℕ
  pub comes_to : List WholeCommit → (ℕ → State) → Type 0

-- a gate without entries, with the table of its kind
abbrev pub new_gate : GateTables → State → GateView
new_gate tables state = record { kind = state.kind; table = tables state.kind; state = state; done = []; live = []; mark = 0 }

-- a gate in each room over its state at the start, a book in which the items are ready that are so at the start, and idle workers
abbrev pub loop_machine : Loop → GateTables → Machine
loop_machine loop tables = record {
  gates = λ room. if nat_lt room loop.operator.rooms then new_gate tables (loop.states room) else no_gate;
  book = new_book loop.operator.ordered loop.ready;
  sessions = λ worker. (begun_view worker).at;
}

-- the workers take the turns that the seed draws, and at the end worker 0 takes so many alone
abbrev pub loop_run : RunOptions → GateTables → Loop → ℕ → Run
loop_run options tables loop turns = played loop.operator (loop_machine loop tables) options.workers (scheduled_turns options.seed options.workers options.turns) turns

-- the limit that the first of its commits passes which passes one
abbrev pub loop_limit : RunOptions → GateTables → Loop → ℕ → Option Limit
loop_limit options tables loop turns = limit_of_played loop.operator (loop_machine loop tables) options.workers (scheduled_turns options.seed options.workers options.turns) turns

-- this is the loop's run by its schedule, to its end, and no commit of it passes a limit
pub record IsLoopRun (options : RunOptions) (tables : GateTables) (loop : Loop) (run : Run) : Type 0 where
  pub turns : ℕ
  pub is_run : run ≡ loop_run options tables loop turns
  pub ends : run.machine.book.ready ≡ []
  pub unlimited : loop_limit options tables loop turns ≡ None

-- the first commit of the loop's run that passes a limit passes this one
pub record IsRunPast (options : RunOptions) (tables : GateTables) (loop : Loop) (limit : Limit) : Type 0 where
  pub turns : ℕ
  pub passes : loop_limit options tables loop turns ≡ Some limit

-- The commits are a serial run of the loop from its start: each item was ready at its turn, and none is ready at the end. Their
-- order is that of the loop's run by its schedule. The report is that of this order and of the states at the end, and then the
-- lines that are wanted of the turns by the schedule and of the drain.
pub record IsReportOf (options : RunOptions) (tables : GateTables) (loop : Loop) (report : List ℕ) : Type 0 where
  pub commits : List WholeCommit
  pub after : ℕ → State
  pub serial : IsSerialRun loop.operator loop.states (with_items [] loop.ready) commits (record { states = after; ready = []; outcomes = outcomes_of commits })
  pub run : Run
  pub is_run : IsLoopRun options tables loop run
  pub in_order : run.machine.book.commits ≡ commits
  pub is_report : report ≡ loop.report (order_of commits) after ++ trace_text (record { turns = options.trace; told = options.told }) run.trace
  pub comes_to : loop.comes_to commits after

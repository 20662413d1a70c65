use Rattle.std.proofs.Common.{◌≡◌, ◌≤◌, length}
use Rattle.commit_book.specs.SerialRuns.{operator_of}
use Rattle.speculation.specs.ScheduledRuns.{drain}
use Rattle.rooms.specs.Values.{tells}
use Rattle.rooms.specs.Visits.{view_of as rooms_view}
use Rattle.iterate.specs.PlayedTurns.{sessions_of, run_of, MayAllTurn, AddsNoConflict}
use Rattle.iterate.proofs.draining.drain_first.Given as goal

abbrev pub invariant-loop-worker : goal.invariant-loop-worker
invariant-loop-worker g l = record {
  workers : l.workers ≤ length l.sessions;
  run : run_of (rooms_view tells l.rooms) (sessions_of (g.O.Operator.rest l.op) l.sessions) l.trace.items
      ≡ drain (run_of (rooms_view tells l.fn.rooms) (sessions_of (g.O.Operator.rest l.op) l.fn.sessions) l.fn.trace.items) l.worker;
  told : AddsNoConflict l.fn.trace.items l.trace.items;
  fit : MayAllTurn (operator_of g.O.Operator l.op) (rooms_view tells l.rooms) (g.O.Operator.rest l.op) l.sessions;
}

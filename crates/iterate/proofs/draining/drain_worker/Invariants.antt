use Rattle.std.proofs.Common.{◌≡◌, ◌<◌, length}
use Rattle.commit_book.specs.SerialRuns.{operator_of}
use Rattle.speculation.specs.ScheduledRuns.{drain_steps}
use Rattle.rooms.specs.Values.{tells}
use Rattle.rooms.specs.Visits.{view_of as rooms_view}
use Rattle.iterate.specs.PlayedTurns.{sessions_of, run_of, MayAllTurn, AddsNoConflict}
use Rattle.sessions.specs.SessionViews.{left_off}
use Rattle.iterate.proofs.Drains.{run_left}
use Rattle.iterate.proofs.draining.drain_worker.Given as goal

abbrev pub invariant-loop-done : goal.invariant-loop-done
invariant-loop-done g l = record {
  worker : l.worker < length l.sessions;
  run : run_of (rooms_view tells l.rooms) (sessions_of (g.O.Operator.rest l.op) l.sessions) l.trace.items
      ≡ drain_steps l._done (run_left (run_of (rooms_view tells l.fn.rooms) (sessions_of (g.O.Operator.rest l.op) l.fn.sessions) l.fn.trace.items) l.worker) l.worker;
  left : left_off (sessions_of (g.O.Operator.rest l.op) l.sessions l.worker).phase ≡ (sessions_of (g.O.Operator.rest l.op) l.sessions l.worker).phase;
  told : AddsNoConflict l.fn.trace.items l.trace.items;
  fit : MayAllTurn (operator_of g.O.Operator l.op) (rooms_view tells l.rooms) (g.O.Operator.rest l.op) l.sessions;
}

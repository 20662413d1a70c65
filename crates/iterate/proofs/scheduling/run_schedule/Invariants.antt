use Rattle.std.proofs.Common.{◌≡◌, length, take, drop}
use Rattle.commit_book.specs.SerialRuns.{operator_of}
use Rattle.speculation.specs.ScheduledRuns.{scheduled}
use Rattle.rooms.specs.Values.{tells}
use Rattle.rooms.specs.Visits.{view_of as rooms_view}
use Rattle.iterate.specs.PlayedTurns.{machine_of, sessions_of, run_of, MayAllTurn}
use Rattle.iterate.specs.Plays.{ConflictsTellRight}
use Rattle.iterate.proofs.Schedules.{LeadsOn}
use Rattle.iterate.proofs.scheduling.run_schedule.Given as goal

abbrev pub invariant-loop-worker : goal.invariant-loop-worker
invariant-loop-worker g l = record {
  count : length l.sessions ≡ length l.fn.sessions;
  leads : LeadsOn (operator_of g.O.Operator l.op) (run_of (rooms_view tells l.fn.rooms) (sessions_of (g.O.Operator.rest l.op) l.fn.sessions) l.fn.trace.items) l.schedule
      (run_of (rooms_view tells l.rooms) (sessions_of (g.O.Operator.rest l.op) l.sessions) l.trace.items) (drop l.worker-index l.schedule);
  reached : run_of (rooms_view tells l.rooms) (sessions_of (g.O.Operator.rest l.op) l.sessions) l.trace.items
      ≡ scheduled (operator_of g.O.Operator l.op) (run_of (rooms_view tells l.fn.rooms) (sessions_of (g.O.Operator.rest l.op) l.fn.sessions) l.fn.trace.items) (take l.worker-index l.schedule);
  turns : length l.trace.items ≡ l.worker-index;
  told : ConflictsTellRight (operator_of g.O.Operator l.op) (machine_of (rooms_view tells l.fn.rooms) (sessions_of (g.O.Operator.rest l.op) l.fn.sessions)) l.schedule l.trace.items;
  fit : MayAllTurn (operator_of g.O.Operator l.op) (rooms_view tells l.rooms) (g.O.Operator.rest l.op) l.sessions;
}

use Rattle.std.proofs.Common.{◌≡◌, length}
use Rattle.commit_book.specs.SerialRuns.{operator_of}
use Rattle.rooms.specs.Values.{tells}
use Rattle.rooms.specs.Visits.{view_of as rooms_view}
use Rattle.iterate.specs.PlayedTurns.{machine_of, sessions_of, MayAllTurn}
use Rattle.iterate.proofs.LoneRuns.{LeadsTo}
use Rattle.iterate.proofs.lone.run_alone.Given as goal

abbrev pub invariant-loop-turn : goal.invariant-loop-turn
invariant-loop-turn g l = record {
  count : length l.sessions ≡ length l.fn.sessions;
  leads : LeadsTo (operator_of g.O.Operator l.op) (machine_of (rooms_view tells l.fn.rooms) (sessions_of (g.O.Operator.rest l.op) l.fn.sessions)) (machine_of (rooms_view tells l.rooms) (sessions_of (g.O.Operator.rest l.op) l.sessions));
  fit : MayAllTurn (operator_of g.O.Operator l.op) (rooms_view tells l.rooms) (g.O.Operator.rest l.op) l.sessions;
}

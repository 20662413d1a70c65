use Rattle.commit_book.specs.SerialRuns.{operator_of}
use Rattle.sessions.specs.Places.{IsFit}
use Rattle.sessions.specs.SessionViews.{view_of}
use Rattle.session_cases.proofs.busy_cases.answers_so.Given as goal

abbrev pub invariant-loop-want : goal.invariant-loop-want
invariant-loop-want g l = IsFit (operator_of g.O.Operator l.op) (g.R.Rooms.view l.rooms) (view_of (g.O.Operator.rest l.op) l.session)

use Rattle.std.proofs.Common.{sym, subst}
use Rattle.commit_book.specs.SerialRuns.{operator_of}
use Rattle.sessions.specs.SessionViews.{view_of}
use Rattle.sessions.specs.Turns.{HasTurned}
use Rattle.sessions.proofs.session.Session.turn.Goals as goal

pub returns-clause-turned : goal.returns-clause-turned
returns-clause-turned g c =
    subst (λ r. HasTurned (operator_of g.O.Operator c.args.op.now) (g.R.Rooms.view c.args.rooms.now) (g.R.Rooms.view c.brief_turn-brief.new.rooms) (view_of (g.O.Operator.rest c.args.op.now) c.args.self.now) (view_of (g.O.Operator.rest c.args.op.now) c.brief_turn-brief.new.self) r) (sym c.answer.ensures)
    c.brief_turn-brief.ensures.turn.has_turned

pub returns-clause-fit : goal.returns-clause-fit
returns-clause-fit g c = c.brief_turn-brief.ensures.turn.is_fit

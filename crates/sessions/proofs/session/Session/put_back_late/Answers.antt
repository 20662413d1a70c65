use Rattle.std.proofs.Common.{◌∙◌, Ok}
use Rattle.commit_book.specs.SerialRuns.{operator_of}
use Rattle.sessions.specs.SessionViews.{core_of}
use Rattle.sessions.specs.declared.events.Event.TheVariants as events
use Rattle.sessions.specs.declared.session.Phase.TheVariants as code
use Rattle.sessions.proofs.ShownTurns.{shown}
use Rattle.sessions.proofs.UndoTurns.{over, put_back_late, put_back_lost}
use Rattle.sessions.proofs.session.Session.put_back_late.Goals as goal

pub returns-then-put_back-clause-turn : goal.returns-then-put_back-clause-turn
returns-then-put_back-clause-turn g c told =
    let visited = c.put_back.ensures.visited c.if-put_back.true in
    let over_is = c.put_back.ensures.over c.if-put_back.true in
    shown (operator_of g.O.Operator c.args._op.now) (g.R.Rooms.view c.args.rooms.now) (g.R.Rooms.view c.put_back.new.rooms) (g.O.Operator.rest c.args._op.now) (core_of c.args.self.now) (core_of c.put_back.new.self) (over (core_of c.args.self.now))
    c.args.self.now.phase code.Undoing c.put_back.new.self.phase code.Idle (Ok events.Idle) c.requires.phase over_is.0 over_is.1
    (λ fit. put_back_late (operator_of g.O.Operator c.args._op.now) (g.R.Rooms.view c.args.rooms.now) (g.R.Rooms.view c.put_back.new.rooms) (g.O.Operator.rest c.args._op.now) (core_of c.args.self.now) fit c.requires.none visited.0 visited.1)
    c.requires.fit

pub returns-else-put_back-clause-turn : goal.returns-else-put_back-clause-turn
returns-else-put_back-clause-turn g c told =
    let lost = c.put_back.ensures.lost c.if-put_back.false in
    shown (operator_of g.O.Operator c.args._op.now) (g.R.Rooms.view c.args.rooms.now) (g.R.Rooms.view c.put_back.new.rooms) (g.O.Operator.rest c.args._op.now) (core_of c.args.self.now) (core_of c.put_back.new.self) (core_of c.args.self.now)
    c.args.self.now.phase code.Undoing c.put_back.new.self.phase code.Undoing (Ok events.Busy) c.requires.phase lost.1 (lost.2 ∙ c.requires.phase)
    (λ fit. put_back_lost (operator_of g.O.Operator c.args._op.now) (g.R.Rooms.view c.args.rooms.now) (g.R.Rooms.view c.put_back.new.rooms) (g.O.Operator.rest c.args._op.now) (core_of c.args.self.now) fit c.requires.none lost.0)
    c.requires.fit

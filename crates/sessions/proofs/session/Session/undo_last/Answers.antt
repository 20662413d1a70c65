use Rattle.std.proofs.Common.{refl, Ok}
use Rattle.commit_book.specs.SerialRuns.{operator_of}
use Rattle.sessions.specs.SessionViews.{Core, core_of}
use Rattle.sessions.specs.declared.events.Event.TheVariants as events
use Rattle.sessions.specs.declared.session.Phase.TheVariants as code
use Rattle.sessions.proofs.ShownTurns.{shown}
use Rattle.sessions.proofs.UndoTurns.{less, in_range, undo_one, undo_one_lost, others_before}
use Rattle.sessions.proofs.session.Session.undo_last.Goals as goal

pub undo_in-requires-clause-in_range : goal.undo_in-requires-clause-in_range
undo_in-requires-clause-in_range g c = in_range (operator_of g.O.Operator c.args._op.now) (g.R.Rooms.view c.args.rooms.now) (g.R.Rooms.view c.args.rooms.now) (g.O.Operator.rest c.args._op.now) (core_of c.args.self.now) c.args.self.now.phase c.requires.phase c.requires.fit c.args.last c.requires.last

pub returns-then-not-undo_in-clause-turn : goal.returns-then-not-undo_in-clause-turn
returns-then-not-undo_in-clause-turn g c told =
    shown (operator_of g.O.Operator c.args._op.now) (g.R.Rooms.view c.args.rooms.now) (g.R.Rooms.view c.undo_in.new.rooms) (g.O.Operator.rest c.args._op.now) (core_of c.args.self.now) (core_of c.args.self.now) (core_of c.args.self.now) c.args.self.now.phase code.Undoing c.args.self.now.phase code.Undoing (Ok events.Busy) c.requires.phase refl c.requires.phase
    (λ fit. undo_one_lost (operator_of g.O.Operator c.args._op.now) (g.R.Rooms.view c.args.rooms.now) (g.R.Rooms.view c.undo_in.new.rooms) (g.O.Operator.rest c.args._op.now) (core_of c.args.self.now) fit c.args.last c.requires.last (others_before c.args.self.now.log.items c.args.last c.requires.last c.requires.others) (c.undo_in.ensures.lost c.if-not-undo_in.true))
    c.requires.fit

pub returns-clause-turn : goal.returns-clause-turn
returns-clause-turn g c told =
    let visited = c.undo_in.ensures.visited c.if-not-undo_in.false in
    let now : Core = record (core_of c.args.self.now) { log = c.drop_last.new.log.items; pushes = c.clear.new.self.items } in
    shown (operator_of g.O.Operator c.args._op.now) (g.R.Rooms.view c.args.rooms.now) (g.R.Rooms.view c.undo_in.new.rooms) (g.O.Operator.rest c.args._op.now) (core_of c.args.self.now) now (less (core_of c.args.self.now)) c.args.self.now.phase code.Undoing c.args.self.now.phase code.Undoing (Ok (events.Undo c.args.last.room c.args.last.call)) c.requires.phase
    (λ i. record (core_of c.args.self.now) { log = c.drop_last.ensures i; pushes = c.clear.ensures.items i }) c.requires.phase
    (λ fit. undo_one (operator_of g.O.Operator c.args._op.now) (g.R.Rooms.view c.args.rooms.now) (g.R.Rooms.view c.undo_in.new.rooms) (g.O.Operator.rest c.args._op.now) (core_of c.args.self.now) fit c.args.last c.requires.last (others_before c.args.self.now.log.items c.args.last c.requires.last c.requires.others) visited.0 visited.1)
    c.requires.fit

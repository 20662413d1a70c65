use Rattle.std.proofs.Common.{◌∙◌, refl, Ok}
use Rattle.commit_book.specs.SerialRuns.{operator_of}
use Rattle.rooms.specs.RoomsViews.{left}
use Rattle.rooms.specs.Values.{tells}
use Rattle.rooms.specs.declared.values.Value.TheVariants.{Book}
use Rattle.sessions.specs.SessionViews.{core_of}
use Rattle.sessions.specs.declared.events.Event.TheVariants as events
use Rattle.sessions.specs.declared.session.Phase.TheVariants as code
use Rattle.sessions.proofs.ShownTurns.{shown}
use Rattle.sessions.proofs.NestedVisits.{entered_free, entered_below}
use Rattle.sessions.proofs.UndoTurns.{over, in_range, nothing_held, undo_only, undo_only_lost, undo_only_busy, none_before_only}
use Rattle.sessions.proofs.session.Session.undo_only.Goals as goal

pub undo_in-requires-clause-in_range : goal.undo_in-requires-clause-in_range
undo_in-requires-clause-in_range g c =
    entered_below (g.R.Rooms.view c.args.rooms.now) (g.R.Rooms.view c.enter_book.new.rooms) (Book c.in-Some.book) c.args.last.room c.in-Some.ensures.some (in_range (operator_of g.O.Operator c.args._op.now) (g.R.Rooms.view c.args.rooms.now) (g.R.Rooms.view c.args.rooms.now) (g.O.Operator.rest c.args._op.now) (core_of c.args.self.now) c.args.self.now.phase c.requires.phase c.requires.fit c.args.last c.requires.last)

pub undo_in-requires-clause-free : goal.undo_in-requires-clause-free
undo_in-requires-clause-free g c =
    entered_free (g.R.Rooms.view c.args.rooms.now) (g.R.Rooms.view c.enter_book.new.rooms) (Book c.in-Some.book) c.args.last.room c.in-Some.ensures.some (in_range (operator_of g.O.Operator c.args._op.now) (g.R.Rooms.view c.args.rooms.now) (g.R.Rooms.view c.args.rooms.now) (g.O.Operator.rest c.args._op.now) (core_of c.args.self.now) c.args.self.now.phase c.requires.phase c.requires.fit c.args.last c.requires.last)
    (nothing_held (operator_of g.O.Operator c.args._op.now) (g.R.Rooms.view c.args.rooms.now) (g.R.Rooms.view c.args.rooms.now) (g.O.Operator.rest c.args._op.now) (core_of c.args.self.now) c.args.self.now.phase c.requires.phase c.requires.fit c.args.last.room)

pub returns-then-not-undo_in-clause-turn : goal.returns-then-not-undo_in-clause-turn
returns-then-not-undo_in-clause-turn g c told =
    shown (operator_of g.O.Operator c.args._op.now) (g.R.Rooms.view c.args.rooms.now) (g.R.Rooms.view c.leave_book.new.rooms) (g.O.Operator.rest c.args._op.now) (core_of c.args.self.now) (core_of c.args.self.now) (core_of c.args.self.now) c.args.self.now.phase code.Undoing c.args.self.now.phase code.Undoing (Ok events.Busy) c.requires.phase refl c.requires.phase
    (λ fit. undo_only_lost (operator_of g.O.Operator c.args._op.now) (g.R.Rooms.view c.args.rooms.now) (g.R.Rooms.view c.leave_book.new.rooms) (g.O.Operator.rest c.args._op.now) (core_of c.args.self.now) (g.R.Rooms.view c.enter_book.new.rooms) (g.R.Rooms.view c.undo_in.new.rooms) c.in-Some.book c.args.last fit c.requires.last (none_before_only c.args.self.now.log.items c.requires.only) c.in-Some.ensures.book c.in-Some.ensures.some
    (c.undo_in.ensures.lost c.if-not-undo_in.true) c.leave_book.ensures.view)
    c.requires.fit

pub returns-in-None-clause-turn : goal.returns-in-None-clause-turn
returns-in-None-clause-turn g c told =
    shown (operator_of g.O.Operator c.args._op.now) (g.R.Rooms.view c.args.rooms.now) (g.R.Rooms.view c.enter_book.new.rooms) (g.O.Operator.rest c.args._op.now) (core_of c.args.self.now) (core_of c.args.self.now) (core_of c.args.self.now) c.args.self.now.phase code.Undoing c.args.self.now.phase code.Undoing (Ok events.Busy) c.requires.phase refl c.requires.phase
    (λ fit. undo_only_busy (operator_of g.O.Operator c.args._op.now) (g.R.Rooms.view c.args.rooms.now) (g.R.Rooms.view c.enter_book.new.rooms) (g.O.Operator.rest c.args._op.now) (core_of c.args.self.now) fit (none_before_only c.args.self.now.log.items c.requires.only) c.in-None.ensures.none)
    c.requires.fit

pub returns-else-not-undo_in-clause-turn : goal.returns-else-not-undo_in-clause-turn
returns-else-not-undo_in-clause-turn g c told =
    let visited = c.undo_in.ensures.visited c.if-not-undo_in.false in
    shown (operator_of g.O.Operator c.args._op.now) (g.R.Rooms.view c.args.rooms.now) (g.R.Rooms.view c.leave_book-in-Some.new.rooms) (g.O.Operator.rest c.args._op.now) (core_of c.args.self.now) (core_of c.end.new.self) (over (core_of c.args.self.now)) c.args.self.now.phase code.Undoing c.end.new.self.phase code.Idle (Ok (events.Undo c.args.last.room c.args.last.call)) c.requires.phase
    c.end.ensures.core c.end.ensures.phase
    (λ fit. undo_only (operator_of g.O.Operator c.args._op.now) (g.R.Rooms.view c.args.rooms.now) (g.R.Rooms.view c.leave_book-in-Some.new.rooms) (g.O.Operator.rest c.args._op.now) (core_of c.args.self.now) (g.R.Rooms.view c.enter_book.new.rooms) (g.R.Rooms.view c.undo_in.new.rooms) c.in-Some.book c.args.last fit c.requires.last (none_before_only c.args.self.now.log.items c.requires.only)
    c.in-Some.ensures.book c.in-Some.ensures.some visited.0 visited.1 (c.leave_book-in-Some.ensures.view ∙ (λ i. left tells (g.R.Rooms.view c.undo_in.new.rooms) (g.R.Rooms.view c.undo_in.new.rooms).book (Book (c.put_back.ensures i)))))
    c.requires.fit

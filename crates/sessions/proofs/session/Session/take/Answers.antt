use Rattle.std.proofs.Common.{◌≡◌, Some, None, sym, ◌∙◌, refl, ap, Ok, Err}
use Rattle.commit_book.specs.BookViews.{free_item, next_free, give_found}
use Rattle.commit_book.specs.SerialRuns.{operator_of}
use Rattle.sessions.specs.SessionViews.{core_of, begins}
use Rattle.sessions.specs.declared.events.Event.TheVariants as events
use Rattle.sessions.specs.declared.events.Stop.TheVariants as stops
use Rattle.sessions.specs.declared.session.Phase.TheVariants as code
use Rattle.sessions.proofs.BookTurns.{book_visited}
use Rattle.sessions.proofs.ShownTurns.{shown}
use Rattle.sessions.proofs.TakeTurns.{take_lost, take_none, take_some, take_stops}
use Rattle.sessions.proofs.session.Session.take.Goals as goal

pub returns-in-None-clause-turn : goal.returns-in-None-clause-turn
returns-in-None-clause-turn g c told =
    shown (operator_of g.O.Operator c.args.op.now) (g.R.Rooms.view c.args.rooms.now) (g.R.Rooms.view c.enter_book.new.rooms) (g.O.Operator.rest c.args.op.now) (core_of c.args.self.now) (core_of c.args.self.now) (core_of c.args.self.now) c.args.self.now.phase code.Idle c.args.self.now.phase code.Idle (Ok events.Busy) c.requires.phase refl c.requires.phase
    (λ fit. take_lost (operator_of g.O.Operator c.args.op.now) (g.R.Rooms.view c.args.rooms.now) (g.R.Rooms.view c.enter_book.new.rooms) (g.O.Operator.rest c.args.op.now) (core_of c.args.self.now) fit c.in-None.ensures.none)
    c.requires.fit

pub returns-in-Err-clause-turn : goal.returns-in-Err-clause-turn
returns-in-Err-clause-turn g c told =
    shown (operator_of g.O.Operator c.args.op.now) (g.R.Rooms.view c.args.rooms.now) (g.R.Rooms.view c.leave_book.new.rooms) (g.O.Operator.rest c.args.op.now) (core_of c.args.self.now) (core_of c.args.self.now) (core_of c.args.self.now) c.args.self.now.phase code.Idle c.args.self.now.phase code.Idle (Err stops.NoMemory) c.requires.phase refl c.requires.phase
    (λ fit. take_stops (operator_of g.O.Operator c.args.op.now) (g.R.Rooms.view c.args.rooms.now) (g.R.Rooms.view c.leave_book.new.rooms) (g.O.Operator.rest c.args.op.now) (core_of c.args.self.now) fit c.in-Some.book
    (book_visited (g.R.Rooms.view c.args.rooms.now) (g.R.Rooms.view c.enter_book.new.rooms) (g.R.Rooms.view c.leave_book.new.rooms) c.in-Some.book c.next_free.new.self c.in-Some.book c.in-Some.ensures.book c.in-Some.ensures.some c.leave_book.ensures.view c.in-Err.ensures.err))
    c.requires.fit

pub returns-in-Ok-None-clause-turn : goal.returns-in-Ok-None-clause-turn
returns-in-Ok-None-clause-turn g c told =
    let none : free_item c.in-Some.book ≡ None = sym c.in-Ok-None.ensures.item ∙ c.in-Ok-None.field-0-is in
    shown (operator_of g.O.Operator c.args.op.now) (g.R.Rooms.view c.args.rooms.now) (g.R.Rooms.view c.leave_book-in-Ok-None.new.rooms) (g.O.Operator.rest c.args.op.now) (core_of c.args.self.now) (core_of c.args.self.now) (core_of c.args.self.now) c.args.self.now.phase code.Idle c.args.self.now.phase code.Idle (Ok events.Idle) c.requires.phase refl c.requires.phase
    (λ fit. take_none (operator_of g.O.Operator c.args.op.now) (g.R.Rooms.view c.args.rooms.now) (g.R.Rooms.view c.leave_book-in-Ok-None.new.rooms) (g.O.Operator.rest c.args.op.now) (core_of c.args.self.now) fit c.in-Some.book
    (book_visited (g.R.Rooms.view c.args.rooms.now) (g.R.Rooms.view c.enter_book.new.rooms) (g.R.Rooms.view c.leave_book-in-Ok-None.new.rooms) c.in-Some.book c.next_free.new.self c.in-Some.book c.in-Some.ensures.book c.in-Some.ensures.some c.leave_book-in-Ok-None.ensures.view (c.in-Ok-None.ensures.ok ∙ ap (give_found c.in-Some.book c.args.self.now.worker c.args.self.now.next_iter) none)) none)
    c.requires.fit

pub returns-in-Ok-Some-clause-turn : goal.returns-in-Ok-Some-clause-turn
returns-in-Ok-Some-clause-turn g c told =
    let found : free_item c.in-Some.book ≡ Some c.in-Ok-Some.item = sym c.in-Ok-Some.ensures.item ∙ c.in-Ok-Some.field-0-is in
    shown (operator_of g.O.Operator c.args.op.now) (g.R.Rooms.view c.args.rooms.now) (g.R.Rooms.view c.leave_book-in-Ok-Some.new.rooms) (g.O.Operator.rest c.args.op.now) (core_of c.args.self.now) (core_of c.begin.new.self) (begins (core_of c.args.self.now) c.in-Ok-Some.item) c.args.self.now.phase code.Idle c.begin.new.self.phase c.begin.new.self.phase (Ok (events.Take c.in-Ok-Some.item)) c.requires.phase
    c.begin.ensures.core refl
    (λ fit. take_some (operator_of g.O.Operator c.args.op.now) (g.R.Rooms.view c.args.rooms.now) (g.R.Rooms.view c.leave_book-in-Ok-Some.new.rooms) (g.O.Operator.rest c.args.op.now) (core_of c.args.self.now) fit c.in-Some.book c.in-Ok-Some.item c.begin.new.self.phase
    (book_visited (g.R.Rooms.view c.args.rooms.now) (g.R.Rooms.view c.enter_book.new.rooms) (g.R.Rooms.view c.leave_book-in-Ok-Some.new.rooms) c.in-Some.book c.next_free.new.self (next_free c.in-Some.book c.args.self.now.worker c.args.self.now.next_iter) c.in-Some.ensures.book c.in-Some.ensures.some c.leave_book-in-Ok-Some.ensures.view c.in-Ok-Some.ensures.ok) found c.begin.ensures.phase)
    c.requires.fit

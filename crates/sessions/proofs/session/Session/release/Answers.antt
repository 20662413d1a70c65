use Rattle.std.proofs.Common.{refl, ◌∙◌, Ok, []}
use Rattle.commit_book.specs.SerialRuns.{operator_of}
use Rattle.sessions.specs.SessionViews.{core_of}
use Rattle.sessions.specs.declared.events.Event.TheVariants as events
use Rattle.sessions.specs.declared.session.Phase.TheVariants as code
use Rattle.sessions.proofs.ShownTurns.{shown}
use Rattle.sessions.proofs.ReleaseTurns.{may_leave, commit_turn, cut_turn}
use Rattle.sessions.proofs.session.Session.release.Goals as goal

pub returns-then-not-release_all-clause-turn : goal.returns-then-not-release_all-clause-turn
returns-then-not-release_all-clause-turn g c told =
    cut_turn (operator_of g.O.Operator c.args._op.now) (g.R.Rooms.view c.args.rooms.now) (g.R.Rooms.view c.release_all.new.rooms) (g.O.Operator.rest c.args._op.now) (core_of c.args.self.now) c.args.book c.args.number c.args.left c.release_all.new.left c.requires.fit (c.release_all.ensures.cut c.if-not-release_all.true)

pub leave_book-requires : goal.leave_book-requires
leave_book-requires g c =
    may_leave (operator_of g.O.Operator c.args._op.now) (g.R.Rooms.view c.args.rooms.now) (g.R.Rooms.view c.args.rooms.now) (g.O.Operator.rest c.args._op.now) (core_of c.args.self.now) c.args.book c.args.number c.args.left (g.R.Rooms.view c.release_all.new.rooms) c.requires.fit (c.release_all.ensures.done c.if-not-release_all.false)

pub returns-clause-turn : goal.returns-clause-turn
returns-clause-turn g c told =
    shown (operator_of g.O.Operator c.args._op.now) (g.R.Rooms.view c.args.rooms.now) (g.R.Rooms.view c.leave_book.new.rooms) (g.O.Operator.rest c.args._op.now) (core_of c.args.self.now) (core_of c.end.new.self) (record (core_of c.args.self.now) { log = []; pushes = []; pushed = c.args.self.now.pushes.items }) (code.Committing c.args.book c.args.number c.args.left) (code.Committing c.args.book c.args.number c.args.left) c.end.new.self.phase code.Idle (Ok (events.Commit c.args.number)) refl
    (c.end.ensures.core ∙ (λ i. record (core_of c.args.self.now) { log = []; pushes = []; pushed = (c.swap.ensures.y_after i).items })) c.end.ensures.phase
    (λ fit. commit_turn (operator_of g.O.Operator c.args._op.now) (g.R.Rooms.view c.args.rooms.now) (g.R.Rooms.view c.leave_book.new.rooms) (g.O.Operator.rest c.args._op.now) (core_of c.args.self.now) c.args.book c.args.number c.args.left (g.R.Rooms.view c.release_all.new.rooms) fit (c.release_all.ensures.done c.if-not-release_all.false) c.leave_book.ensures.view)
    c.requires.fit

use Rattle.std.proofs.Common.{length, refl, ap, sym, ◌∙◌, subst, Ok}
use Rattle.commit_book.specs.BookViews.{put_back}
use Rattle.commit_book.specs.SerialRuns.{operator_of}
use Rattle.sessions.specs.Answers.{event_in}
use Rattle.sessions.specs.Places.{IsFit}
use Rattle.sessions.specs.SessionViews.{core_of, view_in, view_of}
use Rattle.sessions.specs.Turns.{TakesTurn}
use Rattle.sessions.specs.Visits.{answer_to}
use Rattle.sessions.specs.declared.session.Phase.{Phase as CodePhase}
use Rattle.sessions.specs.declared.events.Event.TheVariants as events
use Rattle.sessions.specs.declared.session.Phase.TheVariants as code
use Rattle.sessions.proofs.ShownTurns.{shown, fit_in_phase}
use Rattle.sessions.proofs.FinishTurns.{cause_of, free_of, finish_lost, refused_turn}
use Rattle.sessions.proofs.CommitTurns.{commit_fits, commit_begins}
use Rattle.sessions.proofs.session.Session.finish.Goals as goal

pub release-requires : goal.release-requires
release-requires g c = record {
  fit = subst (λ (f : CodePhase g.row.O-St.Denot). IsFit (operator_of g.O.Operator c.args.op.now) (g.R.Rooms.view c.enter_book.new.rooms) (view_in (g.O.Operator.rest c.args.op.now) (core_of c.args.self.now) f)) (sym (λ i. code.Committing (c.in-Ok.ensures.ok i) (c.in-Ok.ensures.number i) (c.in-Ok.ensures.left i)))
      (commit_fits (operator_of g.O.Operator c.args.op.now) (g.R.Rooms.view c.args.rooms.now) (g.R.Rooms.view c.args.rooms.now) (g.O.Operator.rest c.args.op.now) (core_of c.args.self.now) c.in-Some.book (fit_in_phase (operator_of g.O.Operator c.args.op.now) (g.R.Rooms.view c.args.rooms.now) (g.O.Operator.rest c.args.op.now) (core_of c.args.self.now) c.args.self.now.phase code.Finished c.requires.phase c.requires.fit) c.in-Some.ensures.book (g.R.Rooms.view c.enter_book.new.rooms) c.in-Some.ensures.some);
}

pub returns-in-None-clause-turn : goal.returns-in-None-clause-turn
returns-in-None-clause-turn g c told =
    shown (operator_of g.O.Operator c.args.op.now) (g.R.Rooms.view c.args.rooms.now) (g.R.Rooms.view c.enter_book.new.rooms) (g.O.Operator.rest c.args.op.now) (core_of c.args.self.now) (core_of c.args.self.now) (core_of c.args.self.now) c.args.self.now.phase code.Finished c.args.self.now.phase code.Finished (Ok events.Busy) c.requires.phase refl c.requires.phase
    (λ fit. finish_lost (operator_of g.O.Operator c.args.op.now) (g.R.Rooms.view c.args.rooms.now) (g.R.Rooms.view c.enter_book.new.rooms) (g.O.Operator.rest c.args.op.now) (core_of c.args.self.now) fit c.in-None.ensures.none)
    c.requires.fit

pub returns-in-Ok-clause-turn : goal.returns-in-Ok-clause-turn
returns-in-Ok-clause-turn g c told =
    shown (operator_of g.O.Operator c.args.op.now) (g.R.Rooms.view c.args.rooms.now) (g.R.Rooms.view c.release.new.rooms) (g.O.Operator.rest c.args.op.now) (core_of c.args.self.now) (core_of c.release.new.self) (core_of c.release.new.self) c.args.self.now.phase code.Finished c.release.new.self.phase c.release.new.self.phase (Ok (event_in c.release.result told)) c.requires.phase refl refl
    (λ fit. commit_begins (operator_of g.O.Operator c.args.op.now) (g.R.Rooms.view c.args.rooms.now) (g.R.Rooms.view c.release.new.rooms) (g.O.Operator.rest c.args.op.now) (core_of c.args.self.now) c.in-Some.book fit c.in-Some.ensures.book (c.nobody_is_named.ensures c.args.self.now.worker c.args.self.now.iter) (c.in-Some.ensures.book.suits.ordered_as refl ∙ c.requires.fit.ordered ∙ c.requires.unordered) (free_of c.in-Some.book c.args.self.now.item (length c.args.self.now.log.items) (c.in-Some.ensures.book.suits.ordered_as refl ∙ c.requires.fit.ordered ∙ c.requires.unordered) c.in-Ok.ensures.refused)
    (g.R.Rooms.view c.enter_book.new.rooms) (view_of (g.O.Operator.rest c.args.op.now) c.release.new.self) (event_in c.release.result told) c.in-Some.ensures.some
    (subst (λ (f : CodePhase g.row.O-St.Denot). TakesTurn (operator_of g.O.Operator c.args.op.now) (g.R.Rooms.view c.enter_book.new.rooms) (g.R.Rooms.view c.release.new.rooms) (view_in (g.O.Operator.rest c.args.op.now) (core_of c.args.self.now) f) (view_of (g.O.Operator.rest c.args.op.now) c.release.new.self) (Ok (event_in c.release.result told))) (λ i. code.Committing (c.in-Ok.ensures.ok i) (c.in-Ok.ensures.number i) (c.in-Ok.ensures.left i)) (c.release.ensures.turn told)))
    c.requires.fit

pub returns-in-Err-clause-turn : goal.returns-in-Err-clause-turn
returns-in-Err-clause-turn g c told =
    let unordered = c.in-Some.ensures.book.suits.ordered_as refl ∙ c.requires.fit.ordered ∙ c.requires.unordered in
    let before = c.in-Err.ensures.err in
    subst (λ r. TakesTurn (operator_of g.O.Operator c.args.op.now) (g.R.Rooms.view c.args.rooms.now) (g.R.Rooms.view c.leave_book.new.rooms) (view_of (g.O.Operator.rest c.args.op.now) c.args.self.now) (view_of (g.O.Operator.rest c.args.op.now) c.refused_in-result.new.self) r) (sym (c.refused_in-result.ensures.answer told))
    (shown (operator_of g.O.Operator c.args.op.now) (g.R.Rooms.view c.args.rooms.now) (g.R.Rooms.view c.leave_book.new.rooms) (g.O.Operator.rest c.args.op.now) (core_of c.args.self.now) (core_of c.refused_in-result.new.self) (core_of c.refused_in-result.new.self) c.args.self.now.phase code.Finished c.refused_in-result.new.self.phase c.refused_in-result.new.self.phase (answer_to c.in-Err.refuse) c.requires.phase refl refl
    (λ fit. refused_turn (operator_of g.O.Operator c.args.op.now) (g.R.Rooms.view c.args.rooms.now) (g.R.Rooms.view c.leave_book.new.rooms) (g.O.Operator.rest c.args.op.now) (core_of c.args.self.now) (g.R.Rooms.view c.enter_book.new.rooms) fit c.in-Some.book c.refused_in-result.new.book (core_of c.refused_in-result.new.self) c.refused_in-result.new.self.phase c.in-Err.refuse c.in-Some.ensures.book c.in-Some.ensures.some c.leave_book.ensures.view
    (c.nobody_is_named.ensures c.args.self.now.worker c.args.self.now.iter) unordered (cause_of c.in-Some.book c.args.self.now.item (length c.args.self.now.log.items) c.in-Err.refuse unordered c.in-Err.ensures.refused)
    (λ k e. let h = c.refused_in-result.ensures.calls k e in (h.0 ∙ before, h.1, h.2))
    (λ k e. let h = c.refused_in-result.ensures.over k e in (h.0 ∙ ap (λ b. put_back b c.args.self.now.worker c.args.self.now.iter) before, h.1, h.2)))
    c.requires.fit)

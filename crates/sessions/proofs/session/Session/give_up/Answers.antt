use Rattle.std.specs.Prelude.{◌≡◌, Bool, true, false, [], refl}
use Rattle.std.proofs.Common.{sym, ◌∙◌, ap}
use Rattle.commit_book.specs.BookViews.{BookView, put_back}
use Rattle.speculation.specs.Sessions.{has_no_step}
use Rattle.rooms.specs.HandedOut.{IsLost}
use Rattle.rooms.specs.RoomsViews.{RoomsView}
use Rattle.rooms.specs.declared.values.Value.{Value}
use Rattle.sessions.specs.SessionViews.{Core, core_of}
use Rattle.sessions.specs.Visits.{BookWasVisited, GaveUp, is_over, owes}
use Rattle.sessions.specs.declared.session.Phase.{Phase as CodePhase}
use Rattle.sessions.specs.declared.session.Phase.TheVariants as code
use Rattle.sessions.proofs.session.Session.give_up.Goals as goal

-- the item was put back, or not
gave_up : {T S St : Type 0} (a b : RoomsView (Value T S)) (old new : Core) (phase : CodePhase St) (r : Bool) → has_no_step old.log ≡ true
    → (r ≡ true → (was : BookView) × BookWasVisited a b was (put_back was old.worker old.iter)) → (r ≡ true → (new ≡ record old { log = []; pushes = [] }) × (phase ≡ code.Idle))
    → (r ≡ false → IsLost a b a.book × (new ≡ old) × (phase ≡ code.Undoing)) → GaveUp a b old new phase
gave_up a b old new phase true n visited over lost = is_over (visited refl).0 n (visited refl).1 (over refl).0 (over refl).1
gave_up a b old new phase false n visited over lost = owes n (lost refl).0 (lost refl).1 (lost refl).2

pub returns-then-has_no_step-clause-gave_up : goal.returns-then-has_no_step-clause-gave_up
returns-then-has_no_step-clause-gave_up g c =
    gave_up (g.R.Rooms.view c.args.rooms.now) (g.R.Rooms.view c.put_back.new.rooms) (core_of c.args.self.now) (core_of c.put_back.new.self) c.put_back.new.self.phase c.put_back.result (ap has_no_step (sym c.deref.ensures.value) ∙ sym c.has_no_step.ensures ∙ c.if-has_no_step.true) c.put_back.ensures.visited c.put_back.ensures.over (λ e. let h = c.put_back.ensures.lost e in (h.0, h.1, h.2 ∙ c.give_up.ensures))

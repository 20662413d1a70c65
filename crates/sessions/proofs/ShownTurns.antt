-- A turn of a session of the code, which stands in some phase with some core.
use Rattle.std.specs.Prelude.{◌≡◌, Result}
use Rattle.std.proofs.Common.{sym, subst}
use Rattle.gx_base.specs.Plans.{Operator}
use Rattle.rooms.specs.RoomsViews.{RoomsView}
use Rattle.rooms.specs.declared.values.Value.{Value}
use Rattle.sessions.specs.declared.events.Event.{Event as CodeEvent}
use Rattle.sessions.specs.declared.events.Stop.{Stop}
use Rattle.sessions.specs.declared.session.Phase.{Phase as CodePhase}
use Rattle.sessions.specs.Places.{IsFit}
use Rattle.sessions.specs.SessionViews.{Rests, Core, view_in}
use Rattle.sessions.specs.Turns.{TakesTurn}

module _ {T S St : Type 0} (op : Operator) (a b : RoomsView (Value T S)) (rest : Rests St) (c d e : Core) (f g h k : CodePhase St) (r : Result CodeEvent Stop) where
  -- what is known of a phase is known of the session in it
  pub shown : f ≡ g → d ≡ e → h ≡ k → (IsFit op a (view_in rest c g) → TakesTurn op a b (view_in rest c g) (view_in rest e k) r) → IsFit op a (view_in rest c f) → TakesTurn op a b (view_in rest c f) (view_in rest d h) r
  shown p q s turn fit =
      subst (λ x. TakesTurn op a b (view_in rest c x) (view_in rest d h) r) (sym p)
      (subst (λ x. TakesTurn op a b (view_in rest c g) (view_in rest x h) r) (sym q)
      (subst (λ x. TakesTurn op a b (view_in rest c g) (view_in rest e x) r) (sym s) (turn (subst (λ x. IsFit op a (view_in rest c x)) p fit))))

pub fit_in_phase : {T S St : Type 0} (op : Operator) (a : RoomsView (Value T S)) (rest : Rests St) (c : Core) (f g : CodePhase St) → f ≡ g → IsFit op a (view_in rest c f) → IsFit op a (view_in rest c g)
fit_in_phase op a rest c f g e fit = subst (λ x. IsFit op a (view_in rest c x)) e fit

use Rattle.std.proofs.Common.{List, subst}
use Rattle.gx_base.specs.declared.items.Item.{Item}
use Rattle.sessions.specs.SessionViews.{core_of}
use Rattle.sessions.specs.Visits.{GaveUp}
use Rattle.sessions.proofs.session.Session.stop.Goals as goal

pub returns-clause-gave_up : goal.returns-clause-gave_up
returns-clause-gave_up g c =
    subst (λ (pushes : List Item). GaveUp (g.R.Rooms.view c.args.rooms.now) (g.R.Rooms.view c.give_up.new.rooms) (record (core_of c.args.self.now) { pushes = pushes }) (core_of c.give_up.new.self) c.give_up.new.self.phase) c.clear.ensures.items c.give_up.ensures.gave_up

use Rattle.std.proofs.Common.{subst}
use Rattle.rooms.specs.Histories.{visits_of}
use Rattle.rooms.specs.Visits.{view_of, AreTold}
use Rattle.rooms.proofs.kept.ToldRooms.{are_told}
use Rattle.rooms.proofs.vec_rooms.VecRooms.tell.Goals as goal

pub returns : goal.returns
returns g c =
    let tells = g.V.Homed.told in
    subst (λ visits. AreTold tells (view_of tells visits)) c.self.view_is (are_told tells (view_of tells (visits_of c.self.inside.history)) c.self.inside.values.items c.self.invariant)

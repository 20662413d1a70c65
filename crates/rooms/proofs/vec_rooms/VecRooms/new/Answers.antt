use Rattle.std.proofs.Common.{sym, subst}
use Rattle.rooms.specs.Visits.{view_of, AreKeptValues}
use Rattle.rooms.proofs.kept.FirstRooms.{new_kept}
use Rattle.rooms.proofs.vec_rooms.VecRooms.new.Goals as goal

pub invariant_of-result : goal.invariant_of-result
invariant_of-result g c =
    subst (λ visits. AreKeptValues g.V.Homed.told (view_of g.V.Homed.told visits) c.args.values.items) (sym c.new-history.ensures)
    (new_kept g.V.Homed.told c.args.values.items c.requires.rooms c.requires.few)

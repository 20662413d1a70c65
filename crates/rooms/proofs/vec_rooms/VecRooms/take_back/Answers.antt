use Rattle.rooms.specs.Histories.{visits_of}
use Rattle.rooms.proofs.kept.LeftRooms.{take_back_kept}
use Rattle.rooms.proofs.vec_rooms.VecRooms.take_back.Goals as goal

pub invariant_of-self : goal.invariant_of-self
invariant_of-self g c =
    take_back_kept g.V.Homed.told (visits_of c.self.inside.history) c.args.self.now (visits_of c.and_left.result) c.self.inside.values.items c.exchange-vacant.new.values.items c.args.room c.args.value c.self.view_is c.self.invariant
    c.requires.held c.requires.value c.and_left.ensures c.exchange-vacant.ensures.put

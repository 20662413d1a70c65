use Rattle.rooms.specs.Histories.{visits_of}
use Rattle.rooms.proofs.kept.EnteredRooms.{value_may_go, hand_out_kept}
use Rattle.rooms.proofs.vec_rooms.VecRooms.hand_out.Goals as goal

pub invariant_of-self : goal.invariant_of-self
invariant_of-self g c =
    hand_out_kept g.V.Homed.told (visits_of c.self.inside.history) c.args.self.now c.self.view_is c.self.inside.values.items c.args.room c.exchange-value.result c.self.invariant c.requires.in_range c.requires.free c.exchange-value.ensures.value
    c.vacant-vacant.result (visits_of c.and_entered.result) c.exchange-value.new.values.items c.and_entered.ensures c.exchange-value.ensures.put

pub returns-clause-value : goal.returns-clause-value
returns-clause-value g c =
    value_may_go g.V.Homed.told (visits_of c.self.inside.history) c.args.self.now c.self.view_is c.self.inside.values.items c.args.room c.exchange-value.result c.self.invariant c.requires.in_range c.requires.free c.exchange-value.ensures.value

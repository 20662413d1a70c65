use Rattle.std.proofs.Common.{arith}
use Rattle.rooms.specs.HandedOut.{IsLost}
use Rattle.session_cases.specs.LostTakes.{lossy_view}
use Rattle.session_cases.proofs.LostTakes.{take_is_counted, none_is_lost, some_is_handed}
use Rattle.session_cases.proofs.lossy_rooms.LossyRoomsRooms.try_enter.Goals as goal

pub returns-then-is_next_lost-clause-none : goal.returns-then-is_next_lost-clause-none
returns-then-is_next_lost-clause-none g c =
    let before = c.args.self.now in
    let now = c.is_next_lost.new.self in
    take_is_counted g.V.Homed.told before.rooms now.rooms before.lost.items now.lost.items c.args.room c.index_mut-count.result.now c.saturating_add.result c.is_next_lost.ensures.rooms c.is_next_lost.ensures.lost before.sized c.requires.in_range
    (omega arith) c.index_mut-count.ensures.value c.saturating_add.ensures

pub returns-clause-none : goal.returns-clause-none
returns-clause-none g c =
    let before = c.args.self.now in
    let now = c.is_next_lost.new.self in
    none_is_lost g.V.Homed.told now.rooms c.try_enter.new.self c.args.room (IsLost (lossy_view g.V.Homed.told before.rooms before.lost.items) (lossy_view g.V.Homed.told c.try_enter.new.self now.lost.items) c.args.room) c.try_enter.result c.try_enter.ensures.none

pub returns-clause-value : goal.returns-clause-value
returns-clause-value g c =
    let before = c.args.self.now in
    let now = c.is_next_lost.new.self in
    some_is_handed g.V.Homed.told before.rooms now.rooms before.lost.items c.args.room c.try_enter.result c.is_next_lost.ensures.rooms c.try_enter.ensures.value

use Rattle.session_cases.proofs.LostTakes.{left_untold}
use Rattle.session_cases.proofs.lossy_rooms.LossyRoomsRooms.leave.Goals as goal

pub returns-clause-view : goal.returns-clause-view
returns-clause-view g c = left_untold g.V.Homed.told c.args.self.now.rooms c.leave.new.self c.args.self.now.lost.items c.args.room c.args.value c.leave.ensures.view

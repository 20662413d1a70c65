use Rattle.kd_points.proofs.calls.Turns.{removed_room}
use Rattle.kd_points.proofs.point_set.KdPoints.remove.Goals as goal

pub returns-clause-room : goal.returns-clause-room
returns-clause-room c = removed_room c.args.self.now.tree c.take_out.new.self c.args.call c.holds.result c.yes_or_no-2.result c.take_out.ensures.kept c.holds.ensures c.if-not-holds.false

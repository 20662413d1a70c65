use Rattle.kd_points.proofs.lists.Choosing.{none_yet}
use Rattle.kd_points.proofs.choosing.Chosen.with_capacity.Goals as goal

pub returns : goal.returns
returns c = none_yet (record { spots = c.in_ok-with_capacity.field-0; numbers = c.in_ok-with_capacity-2.field-0 }) c.in_ok-with_capacity.ensures.items c.in_ok-with_capacity-2.ensures.empty

use Rattle.kd_points.specs.NearestPoints.{nearest-is}
use Rattle.kd_points.proofs.laws.nearest_is_the_least.Goals as goal

pub returns : goal.returns
returns c = nearest-is

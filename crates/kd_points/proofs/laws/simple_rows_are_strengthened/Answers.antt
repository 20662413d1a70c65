use Rattle.kd_points.specs.PointValidity.{point_facts}
use Rattle.kd_points.proofs.laws.simple_rows_are_strengthened.Goals as goal

pub returns : goal.returns
returns c = point_facts.strengthened

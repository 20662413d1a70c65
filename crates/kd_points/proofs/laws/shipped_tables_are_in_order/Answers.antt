use Rattle.kind_tables.proofs.CallerLemmas.{simple-below}
use Rattle.kd_points.specs.PointTables.{point_tables}
use Rattle.kd_points.specs.PointValidity.{point_facts}
use Rattle.kd_points.proofs.laws.shipped_tables_are_in_order.Goals as goal

pub returns : goal.returns
returns c = record { simple = simple-below 3 point_tables point_facts; readers = point_facts.readers_below }

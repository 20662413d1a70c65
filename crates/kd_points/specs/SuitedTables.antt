-- Points may use what they ship. It stands here since they say it, and that takes nothing from this crate's proofs; so do
-- the laws of the tables on which it rests.
use Rattle.std.specs.Prelude.{IsTrue}
use Rattle.gx_base.specs.declared.kinds.Kind.{Kind}
use Rattle.gx_base.specs.declared.kinds.Kind.TheVariants.{Set, Cells, Flow, Points, Domains}
use Rattle.gx_base.specs.Kinds.{kind_number}
use Rattle.gx_base.specs.ShippedTables.{SuitKind}
use Rattle.kind_tables.proofs.CallerLemmas.{tables-SuitKind}
use Rattle.kd_points.specs.PointTables.{point_tables}
use Rattle.kd_points.specs.PointsState.{holds_points}
use Rattle.kd_points.specs.PointValidity.{point_facts}

pub point_tables-SuitKind : (kind : Kind) → IsTrue (holds_points kind) → SuitKind (kind_number kind) point_tables
point_tables-SuitKind Set held = absurd (cc)
point_tables-SuitKind Cells held = absurd (cc)
point_tables-SuitKind Flow held = absurd (cc)
point_tables-SuitKind Points held = tables-SuitKind (kind_number Points) point_tables point_facts
point_tables-SuitKind Domains held = absurd (cc)

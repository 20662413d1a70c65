-- What a room of a cloud stands for: points, or cells.
use Rattle.std.specs.Prelude.{◌≡◌, Bool, true, false, IsTrue}
use Rattle.gx_base.specs.declared.calls.Made.{Made}
use Rattle.gx_base.specs.declared.kinds.Kind.{Kind}
use Rattle.gx_base.specs.declared.kinds.Kind.TheVariants.{Set, Cells, Flow, Points, Domains}
use Rattle.gx_base.specs.Kinds.{kind_number}
use Rattle.gx_base.specs.Methods.{is_method}
use Rattle.gx_base.specs.ShippedTables.{KindTables, SuitKind}
use Rattle.gx_base.specs.States.{State}
use Rattle.gx_base.specs.Steps.{IsState}
use Rattle.shared_sets.specs.CellsState.{cells_state, has_cells_room, foreign-has_cells_room, cells_state-IsState}
use Rattle.shared_sets.specs.CellsTables.{cells_tables}
use Rattle.shared_sets.specs.SuitedTables.{cells_tables-SuitKind}
use Rattle.kd_points.specs.PointsState.{points_state, has_points_room, foreign-has_points_room, points_state-IsState}
use Rattle.kd_points.specs.PointTables.{point_tables}
use Rattle.kd_points.specs.SuitedTables.{point_tables-SuitKind}
use Rattle.clustering.specs.declared.cloud.Cloud.{Cloud}
use Rattle.clustering.specs.declared.cloud.Cloud.TheVariants as clouds

abbrev pub state_of : Cloud → State
state_of (clouds.Points points) = points_state points
state_of (clouds.Weights cells) = cells_state cells

abbrev pub has_room : Cloud → Made → Bool
has_room (clouds.Points points) made = has_points_room points made
has_room (clouds.Weights cells) made = has_cells_room cells made

-- both kinds
abbrev pub holds_clouds : Kind → Bool
holds_clouds Set = false
holds_clouds Cells = true
holds_clouds Flow = false
holds_clouds Points = true
holds_clouds Domains = false

-- the tables of each of them
abbrev pub cloud_tables : Kind → KindTables
cloud_tables Points = point_tables
cloud_tables _ = cells_tables

-- What follows is what the object says of every value. It stands here since that takes nothing from this crate's proofs.

pub state_of-IsState : (cloud : Cloud) → IsState (state_of cloud)
state_of-IsState (clouds.Points points) = points_state-IsState points
state_of-IsState (clouds.Weights cells) = cells_state-IsState cells

pub foreign-has_room : (cloud : Cloud) (made : Made) → is_method (state_of cloud).kind made.call.method ≡ false → IsTrue (has_room cloud made)
foreign-has_room (clouds.Points points) made foreign = foreign-has_points_room points made foreign
foreign-has_room (clouds.Weights cells) made foreign = foreign-has_cells_room cells made foreign

pub cloud_tables-SuitKind : (kind : Kind) → IsTrue (holds_clouds kind) → SuitKind (kind_number kind) (cloud_tables kind)
cloud_tables-SuitKind Set held = absurd (cc)
cloud_tables-SuitKind Cells held = cells_tables-SuitKind Cells held
cloud_tables-SuitKind Flow held = absurd (cc)
cloud_tables-SuitKind Points held = point_tables-SuitKind Points held
cloud_tables-SuitKind Domains held = absurd (cc)

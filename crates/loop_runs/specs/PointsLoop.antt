-- The work on the points of a file, as a loop.
use Rattle.std.specs.Prelude.{ℕ, ◌<◌, ◌==◌, if◌then◌else◌, List, length}
use Rattle.gx_base.specs.declared.calls.Spot.{Spot}
use Rattle.gx_base.specs.declared.kinds.Kind.TheVariants.{Points}
use Rattle.gx_base.specs.Kinds.{kind_number}
use Rattle.gx_base.specs.Outcomes.{order_of}
use Rattle.gx_base.specs.TableRows.{RowMap}
use Rattle.clustering.specs.PointFiles.{IsReadable}
use Rattle.clustering.specs.Starts.{start_states, start_ready}
use Rattle.clustering.specs.ClusterReports.{cluster_report}
use Rattle.cluster_laws.specs.ClusterRuns.{chain_operator, MergesMutualPairs, EndsInOne}
use Rattle.loop_runs.specs.declared.cloud_runs.CloudTables.{CloudTables}
use Rattle.loop_runs.specs.GateTables.{GateTables}
use Rattle.loop_runs.specs.LoopRuns.{Loop}

-- Two points that become one were each other's nearest, and where there is a point, one is left, whose weight is the number of the
-- points.
abbrev pub cluster_loop : List Spot → Loop
cluster_loop spots = record {
  operator = chain_operator (length spots);
  states = start_states spots;
  ready = start_ready spots;
  report = cluster_report (length spots);
  comes_to = λ commits after. MergesMutualPairs spots commits × (0 < length spots → EndsInOne (length spots) (order_of commits) after);
}

-- the points are those of a file, which may be read
pub record AreOfFile (spots : List Spot) : Type 0 where
  pub bytes : List ℕ
  pub is_readable : IsReadable bytes spots

-- gates are over points, or over cells
abbrev pub both_tables : RowMap → RowMap → GateTables
both_tables points cells kind = if kind == kind_number Points then points else cells

-- as code keeps the tables
abbrev pub tables_in : CloudTables → GateTables
tables_in tables = both_tables tables.points tables.cells

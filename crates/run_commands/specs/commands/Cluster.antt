-- What `cluster` runs, and on which files.
use Rattle.std.specs.Prelude.{◌≡◌, ◌⊎◌, ℕ, Option, Some, None, List, [], ◌∷◌}
use Rattle.gx_base.specs.declared.calls.Spot.{Spot}
use Rattle.gx_base.specs.declared.inputs.What.TheVariants as what
use Rattle.gx_base.specs.declared.kinds.Kind.{Kind}
use Rattle.gx_base.specs.declared.kinds.Kind.TheVariants.{Points, Cells}
use Rattle.gx_base.specs.declared.kinds.Choice.{Choice}
use Rattle.gx_base.specs.declared.kinds.Choice.TheVariants.{Precise}
use Rattle.gx_base.specs.TableRows.{RowMap}
use Rattle.cond_syntax.specs.TableTexts.{Fault, IsTableText, IsFirstFault}
use Rattle.table_choice.specs.RunTables.{IsAbove}
use Rattle.shared_sets.specs.CellsTables.{cells_tables}
use Rattle.kd_points.specs.PointTables.{point_tables}
use Rattle.clustering.specs.PointFiles.{CallsFor}
use Rattle.run_words.specs.declared.options.RunOptions.{RunOptions}
use Rattle.run_commands.specs.declared.run_faults.TableFault.{TableFault}
use Rattle.run_commands.specs.declared.run_faults.TableFault.TheVariants.{Line, Pair}
use Rattle.run_commands.specs.CommandMeaning.{CommandMeaning}
use Rattle.loop_runs.specs.GateTables.{GateTables}
use Rattle.loop_runs.specs.PointsLoop.{both_tables, cluster_loop}
use Rattle.run_commands.specs.LoopCommands.{LoopCommand, loop_meaning}
use Rattle.run_commands.specs.RunTables.{IsRunTable, IsTableFault}

-- ---- the tables of a run

-- a user's conditions are for one of these kinds
abbrev pub cloud_kinds : List Kind
cloud_kinds = Points ∷ Cells ∷ []

-- the bytes are the text of a table of this kind
pub record IsTextOf (bytes : List ℕ) (kind : Kind) : Type 0 where
  pub rows : RowMap
  pub is_table : IsTableText cloud_kinds bytes kind rows

-- they are no text of such a table, and have their first fault on this line
pub record IsFaultyConditions (bytes : List ℕ) (line : ℕ) : Type 0 where
  pub fault : Fault
  pub is_first : IsFirstFault cloud_kinds bytes line fault

-- that fault of the text
abbrev pub IsBadText : List ℕ → TableFault → Type 0
IsBadText bytes (Line line) = IsFaultyConditions bytes line
IsBadText bytes (Pair first second) = ⊥

-- the tables of both kinds, of which each may have a user's own
pub record AreRunTables (choice : Choice) (for_points for_cells : Option (List ℕ)) (points cells : RowMap) : Type 0 where
  pub of_points : IsRunTable Points point_tables choice for_points points
  pub of_cells : IsRunTable Cells cells_tables choice for_cells cells

-- shipped ones, but for the kind of a user's conditions; the other kind has the precise one then
abbrev pub AreChosen : Choice → Option (List ℕ) → RowMap → RowMap → Type 0
AreChosen choice None points cells = AreRunTables choice None None points cells
AreChosen choice (Some bytes) points cells = AreRunTables Precise (Some bytes) None points cells ⊎ AreRunTables Precise None (Some bytes) points cells

pub record AreCloudTables (choice : Choice) (conditions : Option (List ℕ)) (tables : GateTables) : Type 0 where
  pub points : RowMap
  pub cells : RowMap
  pub are_chosen : AreChosen choice conditions points cells
  pub are : tables ≡ both_tables points cells

-- conditions are refused at the first line that is at fault, or for the first pair of methods whose row isn't below the precise one
abbrev pub AreBadConditions : Option (List ℕ) → TableFault → Type 0
AreBadConditions None why = ⊥
AreBadConditions (Some bytes) (Line line) = IsFaultyConditions bytes line
AreBadConditions (Some bytes) (Pair first second) = IsAbove Points point_tables.precise bytes first second ⊎ IsAbove Cells cells_tables.precise bytes first second

-- the faults of conditions that may be told
abbrev pub IsConditionsFault : TableFault → Type 0
IsConditionsFault why = IsTableFault Points why ⊎ IsTableFault Cells why

-- ---- the command

abbrev pub cluster_command : LoopCommand
cluster_command = record {
  Input = List Spot;
  calls_for = CallsFor;
  loop = cluster_loop;
  are_tables = AreCloudTables;
  is_bad_table = AreBadConditions;
  faults = IsConditionsFault;
  limits = λ limit. limit ≡ what.Points;
}

abbrev pub cluster_meaning : RunOptions → CommandMeaning
cluster_meaning options = loop_meaning cluster_command options

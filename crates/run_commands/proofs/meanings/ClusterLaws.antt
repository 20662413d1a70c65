-- What is shown of `cluster`.
use Rattle.std.proofs.Common.{◌≡◌, inl, inr, ℕ, Err, List, [], ◌∷◌, Option, Some, None, refl, sym, ◌∙◌}
use Rattle.gx_base.specs.declared.inputs.What.{What}
use Rattle.gx_base.specs.declared.inputs.What.TheVariants.{File, Nodes, Arcs, Points as PointsLimit, Nets, Horizon, Size}
use Rattle.gx_base.specs.declared.inputs.InputFault.TheVariants.{Large}
use Rattle.gx_base.specs.declared.kinds.Choice.{Choice}
use Rattle.gx_base.specs.declared.kinds.Choice.TheVariants.{Precise}
use Rattle.gx_base.specs.declared.kinds.Kind.TheVariants.{Points, Cells}
use Rattle.gx_base.specs.TableRows.{RowMap}
use Rattle.kd_points.specs.PointTables.{point_tables}
use Rattle.shared_sets.specs.CellsTables.{cells_tables}
use Rattle.clustering.specs.PointFiles.{CallsFor}
use Rattle.clustering.proofs.CallerLemmas.{one_answer}
use Rattle.run_commands.specs.declared.run_faults.TableFault.{TableFault}
use Rattle.run_commands.specs.declared.run_faults.TableFault.TheVariants.{Line, Pair}
use Rattle.run_commands.specs.RunTables.{IsRunTable}
use Rattle.loop_runs.specs.PointsLoop.{both_tables}
use Rattle.run_commands.specs.commands.Cluster.{cluster_command, AreChosen, AreRunTables, AreBadConditions, IsConditionsFault}
use Rattle.run_commands.proofs.meanings.ClusterTables.{no_fault_in}
use Rattle.run_commands.proofs.meanings.ConditionTexts.{for_others, has_points, has_cells, not_both}
use Rattle.run_commands.proofs.meanings.LoopLaws.{LoopLaws}
use Rattle.run_commands.proofs.meanings.RunTables as tables

Same : RowMap → RowMap → RowMap → RowMap → Type 0
Same p c q d = (p ≡ q) × (c ≡ d)

same_run : (choice : Choice) (for_points for_cells : Option (List ℕ)) (p c q d : RowMap) → AreRunTables choice for_points for_cells p c → AreRunTables choice for_points for_cells q d → Same p c q d
unfolding Same
same_run choice for_points for_cells p c q d one two =
    (tables.one_table Points point_tables choice for_points p q one.of_points two.of_points, tables.one_table Cells cells_tables choice for_cells c d one.of_cells two.of_cells)

-- a user's conditions aren't for both kinds
clash : (bytes : List ℕ) (p c : RowMap) → IsRunTable Points point_tables Precise (Some bytes) p → IsRunTable Cells cells_tables Precise (Some bytes) c → ⊥
clash bytes p c one two = not_both bytes one.rows two.rows one.are_rows.is_table two.are_rows.is_table

same_chosen : (choice : Choice) (conditions : Option (List ℕ)) (p c q d : RowMap) → AreChosen choice conditions p c → AreChosen choice conditions q d → Same p c q d
same_chosen choice None p c q d one two = same_run choice None None p c q d one two
same_chosen choice (Some bytes) p c q d (inl one) (inl two) = same_run Precise (Some bytes) None p c q d one two
same_chosen choice (Some bytes) p c q d (inr one) (inr two) = same_run Precise None (Some bytes) p c q d one two
same_chosen choice (Some bytes) p c q d (inl one) (inr two) = absurd (clash bytes p d one.of_points two.of_cells)
same_chosen choice (Some bytes) p c q d (inr one) (inl two) = absurd (clash bytes q c two.of_points one.of_cells)

same_tables : (p c q d : RowMap) → Same p c q d → both_tables p c ≡ both_tables q d
unfolding Same
same_tables p c q d same = λ i. both_tables (same.0 i) (same.1 i)

accepted_by : (choice : Choice) (conditions : Option (List ℕ)) (p c : RowMap) (why : TableFault) → AreChosen choice conditions p c → AreBadConditions conditions why → ⊥
accepted_by choice None p c why chosen bad = bad
accepted_by choice (Some bytes) p c (Line line) (inl one) bad =
    no_fault_in bytes Points line (record { rows = one.of_points.rows; is_table = for_others (Points ∷ []) _ bytes Points one.of_points.rows has_points one.of_points.are_rows.is_table }) bad
accepted_by choice (Some bytes) p c (Line line) (inr one) bad =
    no_fault_in bytes Cells line (record { rows = one.of_cells.rows; is_table = for_others (Cells ∷ []) _ bytes Cells one.of_cells.rows has_cells one.of_cells.are_rows.is_table }) bad
accepted_by choice (Some bytes) p c (Pair f s) (inl one) (inl above) = tables.accepted Points point_tables Precise (Some bytes) p one.of_points (Pair f s) above
accepted_by choice (Some bytes) p c (Pair f s) (inr one) (inr above) = tables.accepted Cells cells_tables Precise (Some bytes) c one.of_cells (Pair f s) above
accepted_by choice (Some bytes) p c (Pair f s) (inl one) (inr above) = not_both bytes one.of_points.rows above.table one.of_points.are_rows.is_table above.is_table
accepted_by choice (Some bytes) p c (Pair f s) (inr one) (inl above) = not_both bytes above.table one.of_cells.rows above.is_table one.of_cells.are_rows.is_table

told_by : (conditions : Option (List ℕ)) (why : TableFault) → AreBadConditions conditions why → IsConditionsFault why
told_by None why bad = absurd bad
told_by (Some bytes) (Line line) bad = inl bad.is_first.from_one
told_by (Some bytes) (Pair f s) (inl above) = inl (tables.fault_is_told Points point_tables (Some bytes) (Pair f s) above)
told_by (Some bytes) (Pair f s) (inr above) = inr (tables.fault_is_told Cells cells_tables (Some bytes) (Pair f s) above)

limit_by : (bytes : List ℕ) (what : What) → CallsFor bytes (Err (Large what)) → what ≡ PointsLimit
limit_by bytes PointsLimit l = refl
limit_by bytes File l = absurd l
limit_by bytes Nodes l = absurd l
limit_by bytes Arcs l = absurd l
limit_by bytes Nets l = absurd l
limit_by bytes Horizon l = absurd l
limit_by bytes Size l = absurd l

pub cluster_laws : LoopLaws cluster_command
cluster_laws = record {
  one_answer = one_answer;
  one_set = λ choice conditions a b one two. one.are ∙ same_tables one.points one.cells two.points two.cells (same_chosen choice conditions one.points one.cells two.points two.cells one.are_chosen two.are_chosen) ∙ sym two.are;
  accepted = λ choice conditions all one why bad. accepted_by choice conditions one.points one.cells why one.are_chosen bad;
  fault_is_told = told_by;
  line_is_told = λ bytes line m. m.from_one;
  limit_is_told = limit_by;
}

use Rattle.std.proofs.Common.{◌≡◌, inl, inr, None, Some, subst}
use Rattle.gx_base.specs.declared.kinds.Choice.TheVariants.{Precise}
use Rattle.gx_base.specs.declared.kinds.Kind.TheVariants.{Cells}
use Rattle.loop_runs.specs.declared.cloud_runs.CloudTables.{CloudTables}
use Rattle.run_commands.specs.commands.Cluster.{AreRunTables, AreChosen, IsTextOf}
use Rattle.run_commands.proofs.meanings.ClusterTables.{of_points, of_cells, not_read}
use Rattle.loop_runs.proofs.CallerLemmas.{of_answer}
use Rattle.run_commands.proofs.cloud_tables.own_tables.Goals as goal

pub returns-in-Points-clause-bad_table : goal.returns-in-Points-clause-bad_table
returns-in-Points-clause-bad_table c = λ why. of_points c.args.conditions.now c.tables_of.result why (subst (IsTextOf c.args.conditions.now) c.in-Points.is c.in-Ok.ensures.kind) (c.tables_of.ensures.bad_table why)

pub returns-in_default : goal.returns-in_default
returns-in_default c = record {
  tables = of_answer
      (λ (tables : CloudTables). AreRunTables Precise None (Some c.args.conditions.now) tables.points tables.cells)
      (λ (tables : CloudTables). AreChosen Precise (Some c.args.conditions.now) tables.points tables.cells)
      c.tables_of-in_default.result (λ tables are. inr are) c.tables_of-in_default.ensures.tables;
  points = c.tables_of-in_default.ensures.points;
  cells = c.tables_of-in_default.ensures.cells;
  bad_table = λ why.
      let are_cells : c.in-Ok.kind ≡ Cells = elim c.in-Ok.ensures.wanted [ inl e ↦ absurd (c.in_default.not-Points e) | inr e ↦ e ] in
      of_cells c.args.conditions.now c.tables_of-in_default.result why (subst (IsTextOf c.args.conditions.now) are_cells c.in-Ok.ensures.kind) (c.tables_of-in_default.ensures.bad_table why);
  no_others = c.tables_of-in_default.ensures.no_others;
}

pub returns-in-Err-clause-bad_table : goal.returns-in-Err-clause-bad_table
returns-in-Err-clause-bad_table c = λ why. not_read c.args.conditions.now c.in-Err.fault why c.in-Err.ensures.no_others c.in-Err.ensures.bad_table

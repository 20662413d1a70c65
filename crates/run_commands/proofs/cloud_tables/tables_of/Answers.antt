use Rattle.std.proofs.Common.{option_map}
use Rattle.gx_base.specs.declared.tables.Table.{Table}
use Rattle.run_commands.proofs.meanings.ClusterTables.{points_refused}
use Rattle.run_commands.proofs.cloud_tables.tables_of.Goals as goal

pub returns-in-Err-clause-bad_table : goal.returns-in-Err-clause-bad_table
returns-in-Err-clause-bad_table c = λ why. points_refused {A = Table} (option_map (λ b. b.now) c.args.for_points) (option_map (λ b. b.now) c.args.for_cells) c.in-Err.fault why c.requires c.in-Err.ensures.no_others c.in-Err.ensures.bad_table

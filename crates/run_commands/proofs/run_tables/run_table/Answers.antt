use Rattle.std.proofs.Common.{Err, option_map, sym, subst}
use Rattle.gx_base.specs.declared.tables.Table.{Table}
use Rattle.run_commands.specs.RunFaults.{FaultsWhere}
use Rattle.run_commands.specs.RunTables.{IsBadTable}
use Rattle.run_commands.specs.declared.run_faults.RunFault.{RunFault}
use Rattle.run_commands.specs.declared.run_faults.RunFault.TheVariants.{BadTable}
use Rattle.run_commands.proofs.meanings.RunTables.{serves_gates, none_refused, refused_for}
use Rattle.run_commands.proofs.run_tables.run_table.Goals as goal

pub returns-in_ok-whole_table-in-Ok-clause-serves : goal.returns-in_ok-whole_table-in-Ok-clause-serves
returns-in_ok-whole_table-in-Ok-clause-serves g c =
    serves_gates c.args.kind (g.T.SeqType.tables c.args.kind) c.in-Ok.rows _ c.in-Ok.ensures.serves (c.in-Ok.ensures.class c.requires.scanned) c.in_ok-whole_table-in-Ok.ensures

pub returns-in_ok-whole_table-in-Ok-clause-bad_table : goal.returns-in_ok-whole_table-in-Ok-clause-bad_table
returns-in_ok-whole_table-in-Ok-clause-bad_table g c why =
    none_refused c.args.kind (g.T.SeqType.tables c.args.kind) c.args.choice (option_map (λ conditions. conditions.now) c.args.conditions) _ why _
    (record { rows = c.in-Ok.rows; are_rows = c.in-Ok.ensures.table; is_whole = c.in_ok-whole_table-in-Ok.ensures })

pub returns-in-Err-clause-bad_table : goal.returns-in-Err-clause-bad_table
returns-in-Err-clause-bad_table g c why =
    subst (λ (fault : RunFault). FaultsWhere {A = Table} (IsBadTable c.args.kind (g.T.SeqType.tables c.args.kind) (option_map (λ conditions. conditions.now) c.args.conditions) why) (BadTable why) (Err fault)) (sym c.from.ensures)
    (refused_for c.args.kind (g.T.SeqType.tables c.args.kind) {B = Table} (option_map (λ conditions. conditions.now) c.args.conditions) c.table_of_run.result c.in-Err.refused why c.in-Err.is c.table_of_run.ensures.line c.table_of_run.ensures.pair)

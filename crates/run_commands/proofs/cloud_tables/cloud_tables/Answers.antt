use Rattle.std.proofs.Common.{List, ℕ, Option, Bor, option_map, sym, subst}
use Rattle.run_commands.specs.declared.run_faults.RunFault.TheVariants.{BadTable}
use Rattle.run_commands.specs.RunFaults.{FaultsWhere}
use Rattle.run_commands.specs.commands.Cluster.{AreBadConditions}
use Rattle.run_commands.proofs.meanings.ClusterTables.{none_bad}
use Rattle.run_commands.proofs.cloud_tables.cloud_tables.Goals as goal

pub returns-in-None-clause-bad_table : goal.returns-in-None-clause-bad_table
returns-in-None-clause-bad_table c = λ why.
    subst (λ (o : Option (Bor (List ℕ))). FaultsWhere (AreBadConditions (option_map (λ conditions. conditions.now) o) why) (BadTable why) c.tables_of.result) (sym c.in-None.is) (none_bad c.tables_of.result why (c.tables_of.ensures.bad_table why))

-- What `flow` runs, and on which files.
use Rattle.std.specs.Prelude.{◌≡◌, ◌⊎◌, ℕ, Option, List}
use Rattle.gx_base.specs.declared.inputs.What.{What}
use Rattle.gx_base.specs.declared.inputs.What.TheVariants.{Nodes, Arcs}
use Rattle.gx_base.specs.declared.kinds.Kind.TheVariants.{Flow}
use Rattle.gx_base.specs.declared.kinds.Choice.{Choice}
use Rattle.gx_base.specs.TableRows.{RowMap}
use Rattle.kind_tables.specs.TablesOfKinds.{tables_of}
use Rattle.preflow_push.specs.Networks.{Net}
use Rattle.preflow_push.specs.FlowLimits.{CallsFor}
use Rattle.run_words.specs.declared.options.RunOptions.{RunOptions}
use Rattle.run_commands.specs.CommandMeaning.{CommandMeaning}
use Rattle.loop_runs.specs.GateTables.{GateTables}
use Rattle.loop_runs.specs.NetworkLoop.{network_loop, shard_tables}
use Rattle.run_commands.specs.LoopCommands.{LoopCommand, loop_meaning}
use Rattle.run_commands.specs.RunTables.{IsRunTable, IsBadTable, IsTableFault}

-- gates have the table of the run
pub record AreFlowTables (choice : Choice) (conditions : Option (List ℕ)) (tables : GateTables) : Type 0 where
  pub table : RowMap
  pub is_table : IsRunTable Flow (tables_of Flow) choice conditions table
  pub are : tables ≡ shard_tables table

-- networks have limits on their nodes and on their arcs
abbrev pub IsNetworkLimit : What → Type 0
IsNetworkLimit what = (what ≡ Nodes) ⊎ (what ≡ Arcs)

abbrev pub flow_command : LoopCommand
flow_command = record {
  Input = Net;
  calls_for = CallsFor;
  loop = network_loop;
  are_tables = AreFlowTables;
  is_bad_table = IsBadTable Flow (tables_of Flow);
  faults = IsTableFault Flow;
  limits = IsNetworkLimit;
}

abbrev pub flow_meaning : RunOptions → CommandMeaning
flow_meaning options = loop_meaning flow_command options

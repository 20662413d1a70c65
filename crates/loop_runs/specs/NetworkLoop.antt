-- The work on the nodes of a network, as a loop.
use Rattle.std.specs.Prelude.{⊤}
use Rattle.gx_base.specs.TableRows.{RowMap}
use Rattle.preflow_push.specs.Networks.{Net}
use Rattle.preflow_push.specs.Discharge.{discharge_operator}
use Rattle.preflow_push.specs.Starts.{start_states, start_ready}
use Rattle.preflow_push.specs.FlowReports.{flow_report}
use Rattle.loop_runs.specs.GateTables.{GateTables}
use Rattle.loop_runs.specs.LoopRuns.{Loop}

abbrev pub network_loop : Net → Loop
network_loop net = record {
  operator = discharge_operator net;
  states = start_states net;
  ready = start_ready net;
  report = flow_report net;
  comes_to = λ commits after. ⊤;
}

-- all gates are over flow shards
abbrev pub shard_tables : RowMap → GateTables
shard_tables table kind = table

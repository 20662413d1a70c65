use Rattle.std.specs.Prelude.{refl}
use Rattle.preflow_push.specs.FlowLimits.{answer_of}
use Rattle.preflow_push.specs.Networks.{view}
use Rattle.loop_runs.specs.NetworkLoop.{shard_tables}
use Rattle.run_commands.specs.commands.Flow.{flow_command}
use Rattle.run_commands.proofs.meanings.LoopAnswers.{is_read, is_refused, is_reported, is_faulty, is_large, not_past, no_table}
use Rattle.run_commands.proofs.commands.flow.file_text.Goals as goal

pub returns-in-Ok-clause-reported : goal.returns-in-Ok-clause-reported
returns-in-Ok-clause-reported c =
    is_reported flow_command c.args.bytes.now c.args.options (shard_tables c.args.table.now) (view c.in-Ok.net) c.network_text.result
    (is_read flow_command c.args.bytes.now answer_of c.read_max.result c.in-Ok.net (view c.in-Ok.net) c.in-Ok.is refl c.read_max.ensures.told) c.network_text.ensures.reported

pub returns-in-Ok-clause-past : goal.returns-in-Ok-clause-past
returns-in-Ok-clause-past c limit e = record {
  input = view c.in-Ok.net;
  is_read = is_read flow_command c.args.bytes.now answer_of c.read_max.result c.in-Ok.net (view c.in-Ok.net) c.in-Ok.is refl c.read_max.ensures.told;
  is_past = c.network_text.ensures.past limit e;
}

pub returns-in-Err-clause-malformed : goal.returns-in-Err-clause-malformed
returns-in-Err-clause-malformed c = λ line e.
    is_faulty flow_command c.args.bytes.now c.in-Err.refused c.from.result _ line (is_refused flow_command c.args.bytes.now answer_of c.read_max.result c.in-Err.refused c.in-Err.is refl c.read_max.ensures.told) c.from.ensures refl e

pub returns-in-Err-clause-too_large : goal.returns-in-Err-clause-too_large
returns-in-Err-clause-too_large c = λ what e.
    is_large flow_command c.args.bytes.now c.in-Err.refused c.from.result _ what (is_refused flow_command c.args.bytes.now answer_of c.read_max.result c.in-Err.refused c.in-Err.is refl c.read_max.ensures.told) c.from.ensures refl e

pub returns-in-Err-clause-past : goal.returns-in-Err-clause-past
returns-in-Err-clause-past c = λ limit e. absurd (not_past c.in-Err.refused c.from.result _ limit c.from.ensures refl e)

pub returns-in-Err-clause-accepted : goal.returns-in-Err-clause-accepted
returns-in-Err-clause-accepted c = λ why e. absurd (no_table c.in-Err.refused c.from.result _ why c.from.ensures refl e)

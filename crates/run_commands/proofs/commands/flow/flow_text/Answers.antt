use Rattle.std.proofs.Common.{refl}
use Rattle.loop_runs.specs.NetworkLoop.{shard_tables}
use Rattle.run_commands.specs.commands.Flow.{flow_command}
use Rattle.run_commands.proofs.meanings.FlowLaws.{flow_laws}
use Rattle.run_commands.proofs.meanings.LoopAnswers.{under_tables, not_refused}
use Rattle.run_commands.proofs.commands.flow.flow_text.Goals as goal

pub returns-in-Ok-clause-reported : goal.returns-in-Ok-clause-reported
returns-in-Ok-clause-reported c =
    under_tables flow_command c.args.options _ (shard_tables c.in-Ok.table) c.args.bytes.now c.file_text.result (record { table = c.in-Ok.table; is_table = c.in-Ok.ensures.table; are = refl }) c.file_text.ensures.reported

pub returns-in-Ok-clause-bad_table : goal.returns-in-Ok-clause-bad_table
returns-in-Ok-clause-bad_table c = λ why.
    not_refused flow_command flow_laws c.args.options.table _ (shard_tables c.in-Ok.table) c.file_text.result why (record { table = c.in-Ok.table; is_table = c.in-Ok.ensures.table; are = refl }) (c.file_text.ensures.accepted why)

pub returns-in-Ok-clause-malformed : goal.returns-in-Ok-clause-malformed
returns-in-Ok-clause-malformed c = λ line e.
    (flow_laws.accepted c.args.options.table _ (shard_tables c.in-Ok.table) (record { table = c.in-Ok.table; is_table = c.in-Ok.ensures.table; are = refl }), c.file_text.ensures.malformed line e)

pub returns-in-Ok-clause-too_large : goal.returns-in-Ok-clause-too_large
returns-in-Ok-clause-too_large c = λ what e.
    (flow_laws.accepted c.args.options.table _ (shard_tables c.in-Ok.table) (record { table = c.in-Ok.table; is_table = c.in-Ok.ensures.table; are = refl }), c.file_text.ensures.too_large what e)

pub returns-in-Ok-clause-past : goal.returns-in-Ok-clause-past
returns-in-Ok-clause-past c = λ limit e. record { tables = shard_tables c.in-Ok.table; are_tables = record { table = c.in-Ok.table; is_table = c.in-Ok.ensures.table; are = refl }; holds = c.file_text.ensures.past limit e }

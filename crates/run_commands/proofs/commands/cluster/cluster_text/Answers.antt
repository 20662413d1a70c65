use Rattle.std.proofs.Common.{refl}
use Rattle.loop_runs.specs.PointsLoop.{tables_in}
use Rattle.run_commands.specs.commands.Cluster.{cluster_command}
use Rattle.run_commands.proofs.meanings.ClusterLaws.{cluster_laws}
use Rattle.run_commands.proofs.meanings.LoopAnswers.{under_tables, not_refused}
use Rattle.run_commands.proofs.commands.cluster.cluster_text.Goals as goal

pub returns-in-Ok-clause-reported : goal.returns-in-Ok-clause-reported
returns-in-Ok-clause-reported c =
    under_tables cluster_command c.args.options _ (tables_in c.in-Ok.tables) c.args.bytes.now c.file_text.result (record { points = c.in-Ok.tables.points; cells = c.in-Ok.tables.cells; are_chosen = c.in-Ok.ensures.tables; are = refl }) c.file_text.ensures.reported

pub returns-in-Ok-clause-bad_table : goal.returns-in-Ok-clause-bad_table
returns-in-Ok-clause-bad_table c = λ why.
    not_refused cluster_command cluster_laws c.args.options.table _ (tables_in c.in-Ok.tables) c.file_text.result why (record { points = c.in-Ok.tables.points; cells = c.in-Ok.tables.cells; are_chosen = c.in-Ok.ensures.tables; are = refl }) (c.file_text.ensures.accepted why)

pub returns-in-Ok-clause-malformed : goal.returns-in-Ok-clause-malformed
returns-in-Ok-clause-malformed c = λ line e. (cluster_laws.accepted c.args.options.table _ (tables_in c.in-Ok.tables) (record { points = c.in-Ok.tables.points; cells = c.in-Ok.tables.cells; are_chosen = c.in-Ok.ensures.tables; are = refl }), c.file_text.ensures.malformed line e)

pub returns-in-Ok-clause-too_large : goal.returns-in-Ok-clause-too_large
returns-in-Ok-clause-too_large c = λ what e. (cluster_laws.accepted c.args.options.table _ (tables_in c.in-Ok.tables) (record { points = c.in-Ok.tables.points; cells = c.in-Ok.tables.cells; are_chosen = c.in-Ok.ensures.tables; are = refl }), c.file_text.ensures.too_large what e)

pub returns-in-Ok-clause-past : goal.returns-in-Ok-clause-past
returns-in-Ok-clause-past c = λ limit e. record { tables = tables_in c.in-Ok.tables; are_tables = (record { points = c.in-Ok.tables.points; cells = c.in-Ok.tables.cells; are_chosen = c.in-Ok.ensures.tables; are = refl }); holds = c.file_text.ensures.past limit e }

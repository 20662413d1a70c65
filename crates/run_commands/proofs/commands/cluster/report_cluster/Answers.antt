use Rattle.run_commands.specs.Inputs.{inputs_in}
use Rattle.run_commands.specs.commands.Cluster.{cluster_command}
use Rattle.run_commands.proofs.meanings.ClusterLaws.{cluster_laws}
use Rattle.run_commands.proofs.meanings.LoopAnswers.{loop_answers}
use Rattle.run_commands.proofs.commands.cluster.report_cluster.Goals as goal

pub returns : goal.returns
returns c =
    loop_answers cluster_command cluster_laws c.args.options (inputs_in c.args.inputs.now) _ c.main.result.now c.cluster_text.result c.conditions.ensures c.main.ensures c.cluster_text.ensures.reported c.cluster_text.ensures.bad_table
    c.cluster_text.ensures.malformed c.cluster_text.ensures.too_large c.cluster_text.ensures.past

use Rattle.run_commands.specs.Inputs.{inputs_in}
use Rattle.run_commands.specs.commands.Flow.{flow_command}
use Rattle.run_commands.proofs.meanings.FlowLaws.{flow_laws}
use Rattle.run_commands.proofs.meanings.LoopAnswers.{loop_answers}
use Rattle.run_commands.proofs.commands.flow.report_flow.Goals as goal

pub returns : goal.returns
returns c =
    loop_answers flow_command flow_laws c.args.options (inputs_in c.args.inputs.now) _ c.main.result.now c.flow_text.result c.conditions.ensures c.main.ensures c.flow_text.ensures.reported c.flow_text.ensures.bad_table
    c.flow_text.ensures.malformed c.flow_text.ensures.too_large c.flow_text.ensures.past

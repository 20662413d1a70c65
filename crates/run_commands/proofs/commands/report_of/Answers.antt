use Rattle.std.proofs.Common.{rules}
use Rattle.run_commands.specs.Inputs.{inputs_in}
use Rattle.run_commands.specs.RunFaults.{FaultAnswers}
use Rattle.run_commands.specs.commands.About.{help_text, version_text, told_meaning}
use Rattle.run_commands.proofs.commands.report_of.Goals as goal

pub returns-in-Help : goal.returns-in-Help
returns-in-Help c = let told : FaultAnswers (told_meaning help_text) (inputs_in c.args.inputs.now) c.report_help.result = c.report_help.ensures (inputs_in c.args.inputs.now) in search rules

pub returns-in-Version : goal.returns-in-Version
returns-in-Version c = let told : FaultAnswers (told_meaning version_text) (inputs_in c.args.inputs.now) c.report_version.result = c.report_version.ensures (inputs_in c.args.inputs.now) in search rules

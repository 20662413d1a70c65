use Rattle.run_commands.specs.CommandMeanings.{command_meaning}
use Rattle.run_commands.specs.Inputs.{inputs_of}
use Rattle.run_words.specs.Words.{planned}
use Rattle.galois_run.proofs.refusals.Refusals.{written_by_held}
use Rattle.galois_run.proofs.run.run_command.Goals as goal

pub returns-in-Ok-clause-caused : goal.returns-in-Ok-clause-caused
returns-in-Ok-clause-caused g c =
    written_by_held (command_meaning (planned c.args.plan.now)) (inputs_of (planned c.args.plan.now) (g.F.Files.holds c.args.files.now)) c.put_report.result c.put_report.ensures.writes c.in-Ok.ensures.caused

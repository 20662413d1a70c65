use Rattle.std.proofs.Common.{sym, subst}
use Rattle.run_commands.specs.CommandMeanings.{command_meaning}
use Rattle.run_commands.specs.Inputs.{inputs_of, OnInputs}
use Rattle.galois_run.specs.RunTurns.{Completes}
use Rattle.run_words.specs.Words.{planned}
use Rattle.galois_run.proofs.refusals.Refusals.{completes_by_held}
use Rattle.galois_run.proofs.run.run_turns.Goals as goal

pub returns-in-Ok-clause-complete : goal.returns-in-Ok-clause-complete
returns-in-Ok-clause-complete g c =
    let holds = g.F.Files.holds c.args.files.now in
    subst (λ wanted. OnInputs wanted holds (λ plan inputs. Completes (command_meaning plan) inputs c.run_command.result)) (sym c.in-Ok.ensures.planned)
    (completes_by_held c.in-Ok.plan.command c.in-Ok.plan.options (inputs_of (planned c.in-Ok.plan) holds) c.run_command.result c.run_command.ensures.understood c.run_command.ensures.caused c.run_command.ensures.answers)

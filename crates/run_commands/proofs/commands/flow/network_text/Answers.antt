use Rattle.std.proofs.Common.{◌≡◌, ◌∙◌, ap, sym, Err}
use Rattle.run_commands.specs.RunFaults.{fault_of_limit}
use Rattle.run_commands.proofs.meanings.LoopAnswers.{limit_told}
use Rattle.run_commands.proofs.commands.flow.network_text.Goals as goal

pub returns-in-Err-clause-past : goal.returns-in-Err-clause-past
returns-in-Err-clause-past c = λ limit e.
    c.in-Err.ensures.past limit (ap (λ stop. Err stop) (limit_told c.in-Err.stop limit (let told : c.from.result ≡ fault_of_limit limit = cc in sym c.from.ensures ∙ told)))

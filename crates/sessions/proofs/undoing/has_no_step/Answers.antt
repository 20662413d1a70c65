use Rattle.std.specs.Prelude.{◌≡◌, ◌==◌, List, [], ◌∷◌, length, refl}
use Rattle.std.proofs.Common.{◌∙◌, arith}
use Rattle.std.proofs.lemmas.Bool.Decides.{nat_tests}
use Rattle.gx_base.specs.declared.acts.Step.{Step}
use Rattle.speculation.specs.Sessions.{has_no_step}
use Rattle.sessions.proofs.undoing.has_no_step.Goals as goal

none_by_length : (log : List Step) → (length log == 0) ≡ has_no_step log
none_by_length [] = refl
none_by_length (x ∷ xs) = grind (arith, nat_tests)

pub returns : goal.returns
returns c = c.is_empty.ensures ∙ none_by_length c.args.log.now

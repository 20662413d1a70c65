use Rattle.std.proofs.Common.{Some, ◌∷◌, ◌∙◌, ap}
use Rattle.cond_terms.specs.Machine.{AndLeft, Operand, conjunction_read}
use Rattle.cond_terms.specs.CodeTokens.{token_seen}
use Rattle.cond_text.proofs.readers.take_done.Goals as goal

pub returns-in-AndKey : goal.returns-in-AndKey
returns-in-AndKey c kind base last frames outer is =
    let read = c.due.ensures kind base (AndLeft last ∷ frames) outer (c.after_and.ensures kind base last frames is) in
    (Operand (AndLeft last ∷ frames), read, ap (λ t. conjunction_read last frames (token_seen t)) c.in-AndKey.is)

pub returns-in_ok-level-in-OrKey : goal.returns-in_ok-level-in-OrKey
returns-in_ok-level-in-OrKey c kind base last frames outer is =
    let level = c.in_ok-level-in-OrKey.ensures kind base last frames is in
    let read = c.due-in-OrKey.ensures kind base level.0 outer level.1 in
    (Operand level.0, read, ap (λ t. conjunction_read last frames (token_seen t)) c.in-OrKey.is ∙ ap Some level.2)

pub returns-in-Close : goal.returns-in-Close
returns-in-Close c kind base last frames outer is = rw c.in-Close.is (c.after_close.ensures kind base last frames outer is)

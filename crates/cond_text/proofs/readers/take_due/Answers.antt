use Rattle.std.proofs.Common.{◌∷◌, ◌∙◌, ap}
use Rattle.std.proofs.lemmas.Result.{err_from_is_err_and}
use Rattle.gx_base.specs.Kinds.{kind_number}
use Rattle.cond_terms.specs.Machine.{Negation, Group, Operand, unit_done, operand_read}
use Rattle.cond_terms.specs.CodeTokens.{token_seen}
use Rattle.cond_terms.specs.Sources.{reading}
use Rattle.cond_text.proofs.reading.ReaderLemmas.{operand_read-other}
use Rattle.cond_text.proofs.readers.take_due.Goals as goal

pub returns-in_err-unit-in_default-clause-leads : goal.returns-in_err-unit-in_default-clause-leads
returns-in_err-unit-in_default-clause-leads c base frames outer level =
    let p = err_from_is_err_and c.from_residual-in_err-unit-in_default.result c.from_residual-in_err-unit-in_default.ensures.1 in
    rw (p.1, p.2, operand_read-other frames c.args.token c.in_default.not-NotKey c.in_default.not-Open) (c.in_err-unit-in_default.ensures.leads frames)

pub returns-in-NotKey-clause-leads : goal.returns-in-NotKey-clause-leads
returns-in-NotKey-clause-leads c base frames outer level =
    let kind = kind_number c.args.source.now.kind in
    let read = c.due.ensures kind base (Negation ∷ frames) outer (c.after_not.ensures kind base frames level) in
    (Operand (Negation ∷ frames), read, ap (λ t. reading (operand_read frames (token_seen t)) c.args.source.now) c.in-NotKey.is)

pub returns-in_ok-after_open-in-Open-clause-leads : goal.returns-in_ok-after_open-in-Open-clause-leads
returns-in_ok-after_open-in-Open-clause-leads c base frames outer level =
    let read = c.in_ok-after_open-in-Open.ensures (kind_number c.args.source.now.kind) base frames outer level in
    (Operand (Group ∷ frames), read, ap (λ t. reading (operand_read frames (token_seen t)) c.args.source.now) c.in-Open.is)

pub returns-in_ok-after_unit-in_default-clause-leads : goal.returns-in_ok-after_unit-in_default-clause-leads
returns-in_ok-after_unit-in_default-clause-leads c base frames outer level =
    let unit = c.in_ok-unit-in_default.ensures.leads in
    let read = c.in_ok-after_unit-in_default.ensures (kind_number c.args.source.now.kind) base frames unit.0 outer level unit.1 in
    let begun = operand_read-other frames c.args.token c.in_default.not-NotKey c.in_default.not-Open in
    (unit_done unit.0 frames, read, ap (λ s. reading s c.args.source.now) begun ∙ unit.2 frames)

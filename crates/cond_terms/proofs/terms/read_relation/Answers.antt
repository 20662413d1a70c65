use Rattle.std.proofs.Common.{refl}
use Rattle.std.proofs.lemmas.Result.{err_from_is_err_and}
use Rattle.cond_terms.specs.Machine.{OperatorDue}
use Rattle.cond_terms.proofs.reading.SourceLemmas.{token_stops, other_stops}
use Rattle.cond_terms.proofs.reading.TokenLemmas.{operator_read-other}
use Rattle.cond_terms.proofs.terms.read_relation.Goals as goal

pub returns-in_err-token-clause-leads : goal.returns-in_err-token-clause-leads
returns-in_err-token-clause-leads c x frames =
    let p = err_from_is_err_and c.from_residual.result c.from_residual.ensures.1 in
    rw (p.1, p.2) (token_stops c.args.source.now (OperatorDue x frames) c.in_err-token.field-0.0 refl (c.in_err-token.ensures.leads (OperatorDue x frames)))

pub returns-in_default-clause-leads : goal.returns-in_default-clause-leads
returns-in_default-clause-leads c x frames =
    let isnt = c.in_default in
    other_stops c.args.source.now c.token.new.self (OperatorDue x frames) _ (c.in_ok-token.ensures.leads (OperatorDue x frames)) (operator_read-other x frames c.in_ok-token.field-0 isnt.not-Equal isnt.not-Differ isnt.not-Less isnt.not-AtMost)

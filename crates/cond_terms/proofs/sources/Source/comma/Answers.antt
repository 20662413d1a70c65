use Rattle.std.proofs.Common.{◌∙◌}
use Rattle.std.proofs.lemmas.Result.{err_from_is_err_and}
use Rattle.cond_terms.specs.CodeTokens.{token_seen}
use Rattle.cond_terms.proofs.reading.SourceLemmas.{token_stops, other_stops}
use Rattle.cond_terms.proofs.reading.TokenLemmas.{comma_read-other}
use Rattle.cond_terms.proofs.sources.Source.comma.Goals as goal

pub returns-in_err-token-clause-leads : goal.returns-in_err-token-clause-leads
returns-in_err-token-clause-leads c state next part reads =
    let p = err_from_is_err_and c.from_residual.result c.from_residual.ensures.1 in
    rw (p.1, p.2) (token_stops c.args.self.now state c.in_err-token.field-0.0 part (c.in_err-token.ensures.leads state))

pub returns-in_default-clause-leads : goal.returns-in_default-clause-leads
returns-in_default-clause-leads c state next part reads =
    let token = c.in_ok-token.field-0 in
    other_stops c.args.self.now c.token.new.self state _ (c.in_ok-token.ensures.leads state) (reads (token_seen token) ∙ comma_read-other next token c.in_default.not-Comma)

use Rattle.std.proofs.Common.{◌∙◌}
use Rattle.std.proofs.lemmas.Result.{err_from_is_err_and}
use Rattle.cond_terms.specs.CodeTokens.{token_seen}
use Rattle.cond_terms.proofs.reading.SourceLemmas.{token_stops, other_stops}
use Rattle.cond_terms.proofs.reading.TokenLemmas.{word_read-other}
use Rattle.cond_terms.proofs.sources.Source.word.Goals as goal

pub returns-in_err-word-clause-leads : goal.returns-in_err-word-clause-leads
returns-in_err-word-clause-leads c state next part reads =
    let p = err_from_is_err_and c.from_residual.result c.from_residual.ensures.1 in
    rw (p.1, p.2) (token_stops c.args.self.now state c.in_err-word.field-0.0 part (c.in_err-word.ensures.leads state))

pub returns-in_default-clause-leads : goal.returns-in_default-clause-leads
returns-in_default-clause-leads c state next part reads =
    let token = c.in_ok-word.field-0 in
    other_stops c.args.self.now c.token.new.self state _ (c.in_ok-word.ensures.leads state) (reads (token_seen token) ∙ word_read-other next token c.in_default.not-Word)

use Rattle.std.proofs.Common.{◌∙◌, ap}
use Rattle.cond_terms.specs.Sources.{reading}
use Rattle.cond_terms.proofs.reading.SourceLemmas.{reading-none}
use Rattle.cond_terms.proofs.reading.TokenLemmas.{term_begun-other}
use Rattle.cond_terms.proofs.terms.read_term.Goals as goal

pub returns-in_default-clause-leads : goal.returns-in_default-clause-leads
returns-in_default-clause-leads c due frames =
    let source = c.args.source.now in
    ap (λ s. reading s source) (term_begun-other due frames c.args.token c.in_default.not-Word c.in_default.not-Number c.in_default.not-BeyondKey) ∙ reading-none source

pub returns-in-BeyondKey-clause-leads : goal.returns-in-BeyondKey-clause-leads
returns-in-BeyondKey-clause-leads c due frames = rw c.in-BeyondKey.is (c.read_beyond.ensures.leads due frames)

use Rattle.std.proofs.Common.{◌∙◌, ap, refl}
use Rattle.std.proofs.lemmas.Result.{err_from_is_err_and}
use Rattle.cond_terms.specs.Machine.{First, Second, TermDue}
use Rattle.cond_terms.specs.CodeTokens.{token_seen}
use Rattle.cond_terms.specs.Comparisons.{term_spelled, relation_spelled}
use Rattle.cond_terms.specs.Sources.{reading}
use Rattle.cond_terms.proofs.reading.SourceLemmas.{token_stops, part_stops}
use Rattle.cond_terms.proofs.reading.TokenLemmas.{term_read-begun}
use Rattle.cond_terms.proofs.terms.read_comparison.Goals as goal

pub returns-in_err-left-clause-leads : goal.returns-in_err-left-clause-leads
returns-in_err-left-clause-leads c frames =
    let p = err_from_is_err_and c.from_residual.result c.from_residual.ensures.1 in
    rw (p.1, p.2) (c.in_err-left.ensures.leads First frames)

pub returns-in_err-relation-clause-leads : goal.returns-in_err-relation-clause-leads
returns-in_err-relation-clause-leads c frames =
    let left = c.in_ok-left.ensures.leads First frames in
    let x = term_spelled c.in_ok-left.left in
    let p = err_from_is_err_and c.from_residual-in_err-relation.result c.from_residual-in_err-relation.ensures.1 in
    rw (p.1, p.2) (part_stops c.args.source.now c.read_term.new.source _ _ c.in_err-relation.field-0.0 left (c.in_err-relation.ensures.leads x frames))

pub returns-in_err-second-clause-leads : goal.returns-in_err-second-clause-leads
returns-in_err-second-clause-leads c frames =
    let left = c.in_ok-left.ensures.leads First frames in
    let x = term_spelled c.in_ok-left.left in
    let relation = c.in_ok-relation.ensures.leads x frames in
    let op = relation_spelled c.in_ok-relation.relation in
    let p = err_from_is_err_and c.from_residual-in_err-second.result c.from_residual-in_err-second.ensures.1 in
    let stops = token_stops c.read_relation.new.source (TermDue x op frames) c.in_err-second.field-0.0 refl (c.in_err-second.ensures.leads (TermDue x op frames)) in
    rw (p.1, p.2) (part_stops c.args.source.now c.read_relation.new.source _ _ c.in_err-second.field-0.0 (left ∙ relation) stops)

pub returns-in_err-right-clause-leads : goal.returns-in_err-right-clause-leads
returns-in_err-right-clause-leads c frames =
    let left = c.in_ok-left.ensures.leads First frames in
    let x = term_spelled c.in_ok-left.left in
    let relation = c.in_ok-relation.ensures.leads x frames in
    let op = relation_spelled c.in_ok-relation.relation in
    let second = c.in_ok-second.ensures.leads (TermDue x op frames) ∙ ap (λ s. reading s c.token.new.self) (term_read-begun x op frames (token_seen c.in_ok-second.second)) in
    let p = err_from_is_err_and c.from_residual-in_err-right.result c.from_residual-in_err-right.ensures.1 in
    rw (p.1, p.2) (part_stops c.args.source.now c.token.new.self _ _ c.in_err-right.field-0.0 (left ∙ relation ∙ second) (c.in_err-right.ensures.leads (Second x op) frames))

pub returns-clause-leads : goal.returns-clause-leads
returns-clause-leads c frames =
    let left = c.in_ok-left.ensures.leads First frames in
    let x = term_spelled c.in_ok-left.left in
    let relation = c.in_ok-relation.ensures.leads x frames in
    let op = relation_spelled c.in_ok-relation.relation in
    let second = c.in_ok-second.ensures.leads (TermDue x op frames) ∙ ap (λ s. reading s c.token.new.self) (term_read-begun x op frames (token_seen c.in_ok-second.second)) in
    left ∙ relation ∙ second ∙ c.in_ok-right.ensures.leads (Second x op) frames

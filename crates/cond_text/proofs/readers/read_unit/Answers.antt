use Rattle.std.proofs.Common.{List, ap, ◌∙◌}
use Rattle.std.proofs.lemmas.Result.{err_from_is_err_and}
use Rattle.gx_base.specs.Kinds.{kind_number}
use Rattle.cond_terms.specs.Machine.{Frame}
use Rattle.cond_terms.specs.Comparisons.{comparison_spelled}
use Rattle.cond_terms.specs.Sources.{reading}
use Rattle.cond_text.proofs.reading.ReaderLemmas.{unit_begun-other}
use Rattle.cond_text.proofs.readers.read_unit.Goals as goal

pub returns-in_err-comparison-in_default-clause-leads : goal.returns-in_err-comparison-in_default-clause-leads
returns-in_err-comparison-in_default-clause-leads c =
    let p = err_from_is_err_and c.from_residual.result c.from_residual.ensures.1 in
    rw (p.1, p.2) (λ frames. rw (unit_begun-other frames c.args.token c.in_default.not-TrueKey c.in_default.not-FalseKey) (c.in_err-comparison-in_default.ensures.leads frames))

pub returns-in_ok-comparison-in_default-clause-leads : goal.returns-in_ok-comparison-in_default-clause-leads
returns-in_ok-comparison-in_default-clause-leads c =
    let read = c.in_ok-comparison-in_default in
    let same = ap kind_number (c.kind.ensures ∙ read.ensures.later.kind) in
    let begun = λ (frames : List Frame). ap (λ s. reading s c.args.source.now) (unit_begun-other frames c.args.token c.in_default.not-TrueKey c.in_default.not-FalseKey) in
    (comparison_spelled read.comparison, rw (← same) c.draft_of.ensures, λ frames. begun frames ∙ read.ensures.leads frames)

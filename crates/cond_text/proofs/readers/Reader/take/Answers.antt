use Rattle.std.proofs.Common.{◌∙◌, ap}
use Rattle.gx_base.specs.Kinds.{kind_number}
use Rattle.cond_terms.specs.Machine.{step}
use Rattle.cond_terms.specs.CodeTokens.{token_seen}
use Rattle.cond_terms.specs.Sources.{reading}
use Rattle.cond_terms.proofs.CallerLemmas.{reading-none}
use Rattle.cond_text.proofs.reading.ReaderLemmas.{place_due, place_done, taken_some, taken_none}
use Rattle.cond_text.proofs.readers.Reader.take.Goals as goal

pub returns-in-Due-clause-leads : goal.returns-in-Due-clause-leads
returns-in-Due-clause-leads c state read =
    let due = place_due _ read.base c.args.self.place state c.in-Due.level read.place c.in-Due.is in
    rw due.2 (c.take_due.ensures.leads read.base due.0 read.outer due.1)

pub returns-in-Some-clause-leads : goal.returns-in-Some-clause-leads
returns-in-Some-clause-leads c state read =
    let done = place_done _ read.base c.args.self.place state c.in-Done.conjunction read.place c.in-Done.is in
    let taken = c.in_ok-reader-in-Done.ensures (kind_number c.args.source.now.kind) read.base done.0 done.1 read.outer done.2 in
    let next = taken_some _ _ c.in_ok-reader-in-Done.field-0 c.in-Some.reader taken c.in-Some.is in
    (next.0, next.1, ap (λ s. reading (step s (token_seen c.args.token)) c.args.source.now) done.3 ∙ ap (λ s. reading s c.args.source.now) next.2)

pub returns-in-None-clause-leads : goal.returns-in-None-clause-leads
returns-in-None-clause-leads c state read =
    let done = place_done _ read.base c.args.self.place state c.in-Done.conjunction read.place c.in-Done.is in
    let taken = c.in_ok-reader-in-Done.ensures (kind_number c.args.source.now.kind) read.base done.0 done.1 read.outer done.2 in
    let none = taken_none _ _ c.in_ok-reader-in-Done.field-0 taken c.in-None.is in
    ap (λ s. reading (step s (token_seen c.args.token)) c.args.source.now) done.3 ∙ ap (λ s. reading s c.args.source.now) none ∙ reading-none c.args.source.now

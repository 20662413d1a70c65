use Rattle.std.proofs.Common.{[], ◌∙◌, refl, arith}
use Rattle.std.proofs.lemmas.Result.{err_from_is_err_and}
use Rattle.gx_base.specs.Kinds.{kind_number}
use Rattle.cond_terms.specs.Machine.{Operand}
use Rattle.cond_text.specs.Readers.{HasReached}
use Rattle.cond_terms.proofs.CallerLemmas.{reading-next, reading-end, reading-cut, IsLater-then}
use Rattle.cond_text.proofs.reading.ReaderLemmas.{fails_whole, ended_whole}
use Rattle.cond_text.proofs.readers.read_tokens.Goals as goal

pub loop-token-init : goal.loop-token-init
loop-token-init c =
    (record { kind = refl; known = refl; cut = refl; shorter = omega arith }, (Operand [], c.new-reader.ensures (kind_number c.args.source.now.kind), refl))

pub loop-token-preserved : goal.loop-token-preserved
loop-token-preserved c =
    let before = c.loop-token.invariant in
    let kind = c.in-Read.ensures.later.kind ∙ before.0.kind in
    let read : HasReached (kind_number c.next.new.self.kind) c.loop-token.reader before.1.0 = rw kind before.1.1 in
    let led = c.in_ok-reader-in-Read.ensures.leads before.1.0 read in
    let later = IsLater-then _ _ _ (IsLater-then _ _ _ before.0 c.in-Read.ensures.later) c.in_ok-reader-in-Read.ensures.later in
    (later, (led.0, rw kind at led.1, before.1.2 ∙ reading-next _ _ _ c.in-Read.ensures.later c.in-Read.ensures.next before.1.0 ∙ led.2))

pub returns-in_err-reader-in-Read-clause-whole : goal.returns-in_err-reader-in-Read-clause-whole
returns-in_err-reader-in-Read-clause-whole c =
    let before = c.loop-token.invariant in
    let kind = c.in-Read.ensures.later.kind ∙ before.0.kind in
    let read : HasReached (kind_number c.next.new.self.kind) c.loop-token.reader before.1.0 = rw kind before.1.1 in
    let fails = c.in_err-reader-in-Read.ensures.leads before.1.0 read in
    let p = err_from_is_err_and c.from_residual.result c.from_residual.ensures.1 in
    rw (p.1, p.2) (fails_whole c.args.source.now c.next.new.self c.take.new.source _ c.in_err-reader-in-Read.field-0.0 (before.1.2 ∙ reading-next _ _ _ c.in-Read.ensures.later c.in-Read.ensures.next before.1.0) fails c.in_err-reader-in-Read.ensures.failed)

pub returns-in-End-clause-whole : goal.returns-in-End-clause-whole
returns-in-End-clause-whole c =
    let before = c.loop-token.invariant in
    let ended = c.end.ensures (kind_number c.args.source.now.kind) before.1.0 before.1.1 in
    ended_whole c.args.source.now c.next.new.self _ c.end.result (before.1.2 ∙ reading-end _ c.in-End.ensures.next.0 c.in-End.ensures.next.1 before.1.0) c.in-End.ensures.next.2 ended

pub returns-in-Cut-clause-whole : goal.returns-in-Cut-clause-whole
returns-in-Cut-clause-whole c =
    let before = c.loop-token.invariant in
    (before.1.2 ∙ reading-cut _ c.in-Cut.ensures.next.0 c.in-Cut.ensures.next.1 before.1.0, c.in-Cut.ensures.next.2)

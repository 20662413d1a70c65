use Rattle.std.proofs.Common.{◌≡◌, false, sym, ◌∙◌}
use Rattle.gx_base.specs.Kinds.{kind_number}
use Rattle.cond_syntax.specs.Tokens.{tokens_in}
use Rattle.cond_syntax.specs.Fronts.{front_of, all_known}
use Rattle.cond_syntax.proofs.CallerLemmas.{wrong_has_no_form}
use Rattle.cond_terms.proofs.CallerLemmas.{words_known-end, reading-start}
use Rattle.cond_text.specs.Drafts.{IsDraft}
use Rattle.cond_text.proofs.reading.ConditionLemmas.{cut_found, whole_found}
use Rattle.cond_text.proofs.conditions.read_condition.Goals as goal

pub returns-in-Ok : goal.returns-in-Ok
returns-in-Ok c =
    let start = c.new-source.ensures in
    let read = c.in-Ok.ensures.whole in
    let ts = tokens_in c.args.text.now in
    let kept : IsDraft (kind_number c.args.kind) read.0 c.in-Ok.draft = rw start.kind at read.1 in
    let known : all_known (kind_number c.args.kind) false (front_of ts) ≡ c.all_known.result = sym start.known ∙ c.in-Ok.ensures.later.known ∙ words_known-end _ read.3 ∙ sym c.all_known.ensures in
    rw c.answer.ensures (whole_found c.args.kind ts read.0 c.in-Ok.draft c.all_known.result (sym (reading-start c.args.kind c.args.text.now c.new-source.result start) ∙ read.2) kept known)

pub returns-in-Err-Stopped-Cut : goal.returns-in-Err-Stopped-Cut
returns-in-Err-Stopped-Cut c =
    let start = c.new-source.ensures in
    let read = rw (c.in-Err-Stopped-Cut.field-0-is, c.in-Err-Stopped-Cut.field-0-0-is) at c.in-Err-Stopped-Cut.ensures.whole in
    let ts = tokens_in c.args.text.now in
    let known : all_known (kind_number c.args.kind) false (front_of ts) ≡ c.all_known-in-Err-Stopped-Cut.result = sym start.known ∙ c.in-Err-Stopped-Cut.ensures.later.known ∙ words_known-end _ read.1 ∙ sym c.all_known-in-Err-Stopped-Cut.ensures in
    rw c.answer-in-Err-Stopped-Cut.ensures (cut_found c.args.kind ts c.all_known-in-Err-Stopped-Cut.result (sym (reading-start c.args.kind c.args.text.now c.new-source.result start) ∙ read.0) known)

pub returns-in-Err-Stopped-Wrong : goal.returns-in-Err-Stopped-Wrong
returns-in-Err-Stopped-Wrong c =
    let read = rw (c.in-Err-Stopped-Wrong.field-0-is, c.in-Err-Stopped-Wrong.field-0-0-is) at c.in-Err-Stopped-Wrong.ensures.whole in
    wrong_has_no_form (tokens_in c.args.text.now) (sym (reading-start c.args.kind c.args.text.now c.new-source.result c.new-source.ensures) ∙ read)

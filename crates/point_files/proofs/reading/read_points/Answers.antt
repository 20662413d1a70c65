use Rattle.std.proofs.Common.{Err, ◌∙◌, ap, inr}
use Rattle.std.proofs.lemmas.Result.{err_from_is_err_and}
use Rattle.point_files.proofs.files.FileAnswers.{told_stop, told_only, few_of, few_at_fault}
use Rattle.point_files.proofs.reading.read_points.Goals as goal

pub returns-in_err-seen-clause-only : goal.returns-in_err-seen-clause-only
returns-in_err-seen-clause-only c =
    let p = err_from_is_err_and c.from_residual.result c.from_residual.ensures.1 in
    told_only c.args.bytes.now c.from_residual.result (told_stop c.args.bytes.now c.in_err-seen.field-0.0 c.from_residual.result c.in_err-seen.ensures.stopped (p.1 ∙ ap (λ e. Err e) p.2))

pub returns-clause-only : goal.returns-clause-only
returns-clause-only c = told_only c.args.bytes.now c.finish.result (inr (c.finish.ensures c.args.bytes.now c.in_ok-seen.ensures.read))

pub returns-in_err-seen-clause-few : goal.returns-in_err-seen-clause-few
returns-in_err-seen-clause-few c =
    let p = err_from_is_err_and c.from_residual.result c.from_residual.ensures.1 in
    few_at_fault c.from_residual.result c.in_err-seen.field-0.0 (p.1 ∙ ap (λ e. Err e) p.2)

pub returns-clause-few : goal.returns-clause-few
returns-clause-few c = few_of c.args.bytes.now c.finish.result (c.finish.ensures c.args.bytes.now c.in_ok-seen.ensures.read)

use Rattle.std.proofs.Common.{Err, ◌∙◌, ap}
use Rattle.std.proofs.lemmas.Result.{err_from_is_err_and}
use Rattle.flow_files.proofs.files.FileAnswers.{Told, told_refusal, told_network, told_only}
use Rattle.flow_files.proofs.reading.read_max.Goals as goal

told_at_refusal : (c : goal.After-from_residual) → Told c.args.bytes.now c.from_residual.result
told_at_refusal c =
    let p = err_from_is_err_and c.from_residual.result c.from_residual.ensures.1 in
    told_refusal c.args.bytes.now c.read_lines.result c.from_residual.result c.in_err-net.field-0.0 c.read_lines.ensures c.in_err-net.was (p.1 ∙ ap (λ e. Err e) p.2)

told_at_end : (c : goal.After-within_limits) → Told c.args.bytes.now c.within_limits.result
told_at_end c = told_network c.args.bytes.now c.read_lines.result c.within_limits.result c.in_ok-net.net c.read_lines.ensures c.in_ok-net.was c.within_limits.ensures

pub returns-in_err-net-clause-told : goal.returns-in_err-net-clause-told
returns-in_err-net-clause-told c = told_at_refusal c

pub returns-in_err-net-clause-only : goal.returns-in_err-net-clause-only
returns-in_err-net-clause-only c = told_only c.args.bytes.now c.from_residual.result (told_at_refusal c)

pub returns-clause-told : goal.returns-clause-told
returns-clause-told c = told_at_end c

pub returns-clause-only : goal.returns-clause-only
returns-clause-only c = told_only c.args.bytes.now c.within_limits.result (told_at_end c)

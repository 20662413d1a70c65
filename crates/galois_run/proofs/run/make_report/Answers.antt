use Rattle.std.proofs.lemmas.Result.{err_from_is_err_and}
use Rattle.run_commands.specs.Inputs.{inputs_in, inputs_of}
use Rattle.run_words.specs.Words.{planned}
use Rattle.galois_run.proofs.refusals.Refusals.{report_by_held, refusal_by_held, fault_told}
use Rattle.galois_run.proofs.run.make_report.Goals as goal

pub returns-in_err-report_of-clause-answers : goal.returns-in_err-report_of-clause-answers
returns-in_err-report_of-clause-answers g c =
    let p = err_from_is_err_and c.from_residual-in_err-report_of.result c.from_residual-in_err-report_of.ensures.1 in
    rw (p.1, p.2) (fault_told c.args.plan.now.command c.args.plan.now.options (inputs_in c.in_ok-inputs.inputs) _ c.in_err-report_of.ensures)

pub returns-in_err-report_of-clause-caused : goal.returns-in_err-report_of-clause-caused
returns-in_err-report_of-clause-caused g c =
    let p = err_from_is_err_and c.from_residual-in_err-report_of.result c.from_residual-in_err-report_of.ensures.1 in
    rw (p.1, p.2) (refusal_by_held c.args.plan.now.command c.args.plan.now.options (inputs_of (planned c.args.plan.now) (g.F.Files.holds c.args.files.now)) (inputs_in c.in_ok-inputs.inputs) _
    c.in_ok-inputs.ensures.whole c.in_ok-inputs.ensures.within c.in_err-report_of.ensures)

pub returns-clause-caused : goal.returns-clause-caused
returns-clause-caused g c =
    report_by_held c.args.plan.now.command c.args.plan.now.options (inputs_of (planned c.args.plan.now) (g.F.Files.holds c.args.files.now)) (inputs_in c.in_ok-inputs.inputs) c.in_ok-report_of.field-0
    c.in_ok-inputs.ensures.whole c.in_ok-inputs.ensures.within c.in_ok-report_of.ensures

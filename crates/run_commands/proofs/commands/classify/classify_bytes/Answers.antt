use Rattle.cond_syntax.specs.TableTexts.{all_kinds}
use Rattle.run_commands.proofs.meanings.ClassifyAnswers.{text_refused, text_reported, class_report}
use Rattle.run_commands.proofs.commands.classify.classify_bytes.Goals as goal

pub returns-in-Err-clause-faulty : goal.returns-in-Err-clause-faulty
returns-in-Err-clause-faulty c line =
    text_refused c.args.bytes.now c.kinds.result all_kinds c.in-Err.refused line c.input_fault.result c.kinds.ensures c.input_fault.ensures c.in-Err.ensures.fault c.in-Err.ensures.only_fault

pub returns-in_ok-classify-in-Ok-clause-reported : goal.returns-in_ok-classify-in-Ok-clause-reported
returns-in_ok-classify-in-Ok-clause-reported c = class_report c.args.bytes.now c.kinds.result all_kinds c.in-Ok.kind c.in-Ok.table _ c.kinds.ensures c.in-Ok.ensures.table c.in_ok-classify-in-Ok.ensures

pub returns-in_ok-classify-in-Ok-clause-faulty : goal.returns-in_ok-classify-in-Ok-clause-faulty
returns-in_ok-classify-in-Ok-clause-faulty c line = text_reported c.args.bytes.now c.kinds.result all_kinds line _ c.kinds.ensures c.in-Ok.ensures.only_fault

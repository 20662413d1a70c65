use Rattle.std.proofs.Common.{◌+◌}
use Rattle.std.proofs.lemmas.Result.{err_from_is_err_and}
use Rattle.text_lines.specs.Lines.{lines_of}
use Rattle.cond_syntax.specs.TableTexts.{Untyped, AreRead, IsTableText}
use Rattle.cond_text.specs.declared.faults.TextFault.TheVariants.{Syntax}
use Rattle.cond_text.proofs.texts.LineSteps.{untyped_at_end}
use Rattle.cond_text.proofs.texts.OneAnswer.{told_of_table, told_of_fault, given_table, no_table_given}
use Rattle.cond_text.proofs.tables.read_table.Goals as goal

pub returns-in_err-reader-clause-only_table : goal.returns-in_err-reader-clause-only_table
returns-in_err-reader-clause-only_table c =
    let p = err_from_is_err_and c.from_residual.result c.from_residual.ensures.1 in
    rw (p.1, p.2) (told_of_table _ _ _ c.in_err-reader.ensures.fault)

pub returns-in_err-reader-clause-only_fault : goal.returns-in_err-reader-clause-only_fault
returns-in_err-reader-clause-only_fault c =
    let p = err_from_is_err_and c.from_residual.result c.from_residual.ensures.1 in
    rw (p.1, p.2) (told_of_fault _ _ _ c.in_err-reader.ensures.fault)

pub returns-in-Untyped-clause-only_table : goal.returns-in-Untyped-clause-only_table
returns-in-Untyped-clause-only_table c =
    let all : AreRead c.args.wanted.now Untyped (lines_of c.args.bytes.now) Untyped = rw c.in-Untyped.is at c.in_ok-reader.ensures.read in
    told_of_table c.args.wanted.now c.args.bytes.now (Syntax (c.in_ok-reader.lines + 1)) (untyped_at_end _ _ _ all c.in_ok-reader.ensures.count)

pub returns-in-Untyped-clause-only_fault : goal.returns-in-Untyped-clause-only_fault
returns-in-Untyped-clause-only_fault c =
    let all : AreRead c.args.wanted.now Untyped (lines_of c.args.bytes.now) Untyped = rw c.in-Untyped.is at c.in_ok-reader.ensures.read in
    told_of_fault c.args.wanted.now c.args.bytes.now (Syntax (c.in_ok-reader.lines + 1)) (untyped_at_end _ _ _ all c.in_ok-reader.ensures.count)

pub returns-in-Typed-clause-only_table : goal.returns-in-Typed-clause-only_table
returns-in-Typed-clause-only_table c =
    let all : IsTableText c.args.wanted.now c.args.bytes.now c.in-Typed.rows.kind c.in-Typed.rows.table = rw c.in-Typed.is at c.in_ok-reader.ensures.read in
    given_table c.args.wanted.now c.args.bytes.now _ _ all

pub returns-in-Typed-clause-only_fault : goal.returns-in-Typed-clause-only_fault
returns-in-Typed-clause-only_fault c =
    let all : IsTableText c.args.wanted.now c.args.bytes.now c.in-Typed.rows.kind c.in-Typed.rows.table = rw c.in-Typed.is at c.in_ok-reader.ensures.read in
    no_table_given c.args.wanted.now c.args.bytes.now _ _ all

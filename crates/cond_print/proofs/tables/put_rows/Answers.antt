use Rattle.std.proofs.Common.{rules, ◌≡◌, ◌++◌, string_bytes, sym}
use Rattle.gx_base.specs.Kinds.{kind_number}
use Rattle.gx_base.specs.Methods.{methods_of}
use Rattle.gx_base.specs.TableRows.{row_of}
use Rattle.gx_base.proofs.CallerLemmas.{methods_from}
use Rattle.cond_syntax.specs.Printing.{first_lines}
use Rattle.cond_print.proofs.methods.PrintedRows.{one_more_piece}
use Rattle.cond_print.proofs.tables.put_rows.Goals as goal

pub loop-first-preserved : goal.loop-first-preserved
loop-first-preserved c =
    let put : string_bytes c.put_rows_of.new.text ≡ string_bytes c.loop-first.text ++ first_lines c.args.kind (row_of c.args.table.now) c.in-Some.first = search rules in
    one_more_piece (first_lines c.args.kind (row_of c.args.table.now)) (methods_of (kind_number c.args.kind)) c.loop-first.place c.in-Some.first
    _ _ _ (methods_from (kind_number c.args.kind) c.loop-first.place c.in-Some.first (sym c.in-Some.ensures)) put c.loop-first.invariant

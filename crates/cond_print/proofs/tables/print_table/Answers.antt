use Rattle.std.proofs.Common.{rules, ◌≡◌, List, ℕ, string_bytes, sym, subst}
use Rattle.gx_base.specs.TableRows.{row_of}
use Rattle.cond_syntax.specs.Printing.{table_text}
use Rattle.cond_syntax.specs.Printable.{IsReadBack}
use Rattle.cond_syntax.proofs.CallerLemmas.{printed_table}
use Rattle.cond_print.proofs.tables.print_table.Goals as goal

pub returns-clause-reads_back : goal.returns-clause-reads_back
returns-clause-reads_back c = λ printable wanted wants.
    let printed : string_bytes c.put_rows.new.text ≡ table_text c.args.kind (row_of c.args.table.now) = search rules in
    subst (λ (text : List ℕ). IsReadBack wanted text c.args.kind (row_of c.args.table.now)) (sym printed)
    (printed_table c.args.kind (row_of c.args.table.now) printable wanted wants)

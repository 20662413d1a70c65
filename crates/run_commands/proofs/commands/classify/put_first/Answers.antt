use Rattle.std.proofs.Common.{rules, ◌≡◌, ◌++◌, sym}
use Rattle.gx_base.specs.Kinds.{kind_number}
use Rattle.gx_base.specs.Methods.{methods_of}
use Rattle.gx_base.specs.TableRows.{row_of}
use Rattle.gx_base.proofs.CallerLemmas.{methods_from}
use Rattle.run_commands.specs.commands.Classify.{class_line}
use Rattle.cond_print.proofs.CallerLemmas.{one_more_piece}
use Rattle.run_commands.proofs.commands.classify.put_first.Goals as goal

pub loop-second-preserved : goal.loop-second-preserved
loop-second-preserved c =
    let put : c.put_row.new.text.items ≡ c.loop-second.text.items ++ class_line (row_of c.args.table.now) c.args.first c.in-Some.second = search rules in
    one_more_piece (class_line (row_of c.args.table.now) c.args.first) (methods_of (kind_number c.args.kind)) c.loop-second.place c.in-Some.second
    _ _ _ (methods_from (kind_number c.args.kind) c.loop-second.place c.in-Some.second (sym c.in-Some.ensures)) put c.loop-second.invariant

use Rattle.std.proofs.Common.{sym}
use Rattle.gx_base.specs.Kinds.{kind_number}
use Rattle.gx_base.specs.Methods.{methods_of}
use Rattle.gx_base.specs.TableRows.{row_of}
use Rattle.gx_base.proofs.CallerLemmas.{methods_from}
use Rattle.run_commands.specs.commands.Classify.{class_lines}
use Rattle.cond_print.proofs.CallerLemmas.{one_more_piece}
use Rattle.run_commands.proofs.commands.classify.row_lines.Goals as goal

pub loop-first-preserved : goal.loop-first-preserved
loop-first-preserved c =
    one_more_piece (class_lines c.args.kind (row_of c.args.table.now)) (methods_of (kind_number c.args.kind)) c.loop-first.place c.in-Some.first
    _ _ _ (methods_from (kind_number c.args.kind) c.loop-first.place c.in-Some.first (sym c.in-Some.ensures)) c.in_ok-put_first.ensures c.loop-first.invariant

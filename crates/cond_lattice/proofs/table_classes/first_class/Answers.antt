use Rattle.std.proofs.Common.{sym}
use Rattle.gx_base.specs.Kinds.{kind_number}
use Rattle.gx_base.specs.Methods.{methods_of}
use Rattle.gx_base.specs.TableRows.{row_of}
use Rattle.gx_base.proofs.CallerLemmas.{methods_from}
use Rattle.cond_lattice.specs.Grades.{grade_of}
use Rattle.cond_lattice.proofs.tables.TableLemmas.{one_more_class}
use Rattle.cond_lattice.proofs.table_classes.first_class.Goals as goal

pub loop-second-preserved : goal.loop-second-preserved
loop-second-preserved c =
    one_more_class (λ second. grade_of (row_of c.args.table.now c.args.first second)) (methods_of (kind_number c.args.kind)) c.loop-second.second_place c.in-Some.second
    c.loop-second.grade c.greater-grade.result _ (methods_from (kind_number c.args.kind) c.loop-second.second_place c.in-Some.second (sym c.in-Some.ensures)) (cc) c.loop-second.invariant

use Rattle.std.proofs.Common.{◌≡◌, sym}
use Rattle.gx_base.specs.Kinds.{kind_number}
use Rattle.gx_base.specs.Methods.{methods_of}
use Rattle.gx_base.specs.TableRows.{row_of}
use Rattle.gx_base.proofs.CallerLemmas.{methods_from, methods_end}
use Rattle.cond_lattice.specs.Grades.{first_grade, table_grade}
use Rattle.cond_lattice.proofs.tables.Greatest.{table_grade-greatest, table_grade-simple}
use Rattle.cond_lattice.proofs.tables.TableLemmas.{one_more_class, all_classes}
use Rattle.cond_lattice.proofs.table_classes.table_class.Goals as goal

pub loop-first-preserved : goal.loop-first-preserved
loop-first-preserved c =
    one_more_class (first_grade (kind_number c.args.kind) (row_of c.args.table.now)) (methods_of (kind_number c.args.kind)) c.loop-first.place c.in-Some.first
    c.loop-first.grade c.greater-grade.result _ (methods_from (kind_number c.args.kind) c.loop-first.place c.in-Some.first (sym c.in-Some.ensures)) (cc) c.loop-first.invariant

pub returns-clause-greatest : goal.returns-clause-greatest
returns-clause-greatest c =
    let all : c.loop-first.grade ≡ table_grade (kind_number c.args.kind) (row_of c.args.table.now) =
    all_classes (first_grade (kind_number c.args.kind) (row_of c.args.table.now)) (methods_of (kind_number c.args.kind)) c.loop-first.place c.loop-first.grade _
    (methods_end (kind_number c.args.kind) c.loop-first.place (sym c.in_default.ensures)) c.loop-first.invariant in
    table_grade-greatest c.args.kind (row_of c.args.table.now) c.loop-first.grade all

pub returns-clause-simple : goal.returns-clause-simple
returns-clause-simple c =
    let all : c.loop-first.grade ≡ table_grade (kind_number c.args.kind) (row_of c.args.table.now) =
    all_classes (first_grade (kind_number c.args.kind) (row_of c.args.table.now)) (methods_of (kind_number c.args.kind)) c.loop-first.place c.loop-first.grade _
    (methods_end (kind_number c.args.kind) c.loop-first.place (sym c.in_default.ensures)) c.loop-first.invariant in
    table_grade-simple c.args.kind (row_of c.args.table.now) c.loop-first.grade all

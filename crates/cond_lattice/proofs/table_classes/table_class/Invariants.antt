use Rattle.std.proofs.Common.{◌≡◌, ◌-◌, drop, map}
use Rattle.gx_base.specs.Kinds.{kind_number}
use Rattle.gx_base.specs.Methods.{most_methods, methods_of}
use Rattle.gx_base.specs.TableRows.{row_of}
use Rattle.cond_lattice.specs.Grades.{greater, greatest, first_grade, table_grade}
use Rattle.cond_lattice.proofs.table_classes.table_class.Given as goal

-- with the rest of the methods it comes to the greatest class of all
abbrev pub invariant-loop-first : goal.invariant-loop-first
invariant-loop-first l =
    greater l.grade (greatest (map (first_grade (kind_number l.kind) (row_of l.table)) (drop l.place (methods_of (kind_number l.kind)))))
    ≡ table_grade (kind_number l.kind) (row_of l.table)

abbrev pub decreases-loop-first : goal.decreases-loop-first
decreases-loop-first l = most_methods - l.place

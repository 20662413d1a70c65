use Rattle.std.proofs.Common.{◌≡◌, ◌-◌, drop, map}
use Rattle.gx_base.specs.Kinds.{kind_number}
use Rattle.gx_base.specs.Methods.{most_methods, methods_of}
use Rattle.gx_base.specs.TableRows.{row_of}
use Rattle.cond_lattice.specs.Grades.{grade_of, greater, greatest, first_grade}
use Rattle.cond_lattice.proofs.table_classes.first_class.Given as goal

-- with the rest of the methods it comes to the greatest class of all
abbrev pub invariant-loop-second : goal.invariant-loop-second
invariant-loop-second l =
    greater l.grade (greatest (map (λ second. grade_of (row_of l.table l.first second)) (drop l.second_place (methods_of (kind_number l.kind)))))
    ≡ first_grade (kind_number l.kind) (row_of l.table) l.first

abbrev pub decreases-loop-second : goal.decreases-loop-second
decreases-loop-second l = most_methods - l.second_place

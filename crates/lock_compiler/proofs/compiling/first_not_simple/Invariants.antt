use Rattle.std.proofs.Common.{◌≡◌, ℕ, ◌+◌, ◌-◌, ◌<◌, true}
use Rattle.gx_base.specs.Kinds.{kind_number}
use Rattle.gx_base.specs.Methods.{most_methods, is_method, first_method}
use Rattle.gx_base.specs.TableRows.{row_of}
use Rattle.cond_lattice.specs.Grades.{is_simple}
use Rattle.lock_compiler.proofs.compiling.first_not_simple.Given as goal

-- the rows so far are simple
abbrev pub invariant-seconds : goal.invariant-seconds
invariant-seconds l =
    (n : ℕ) → is_method (kind_number l.kind) n ≡ true → n < first_method (kind_number l.kind) + l.place → is_simple (row_of l.table l.first n) ≡ true

abbrev pub decreases-seconds : goal.decreases-seconds
decreases-seconds l = most_methods - l.place

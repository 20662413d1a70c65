use Rattle.std.proofs.Common.{◌≡◌, ℕ, ◌+◌, ◌-◌, ◌<◌, true}
use Rattle.gx_base.specs.Kinds.{kind_number}
use Rattle.gx_base.specs.Methods.{most_methods, is_method, first_method}
use Rattle.gx_base.specs.TableRows.{row_of}
use Rattle.cond_lattice.specs.Grades.{is_simple}
use Rattle.lock_compiler.proofs.compiling.want_simple.Given as goal

-- the rows so far are simple
abbrev pub invariant-firsts : goal.invariant-firsts
invariant-firsts l =
    (m : ℕ) → is_method (kind_number l.kind) m ≡ true → m < first_method (kind_number l.kind) + l.place
    → (n : ℕ) → is_method (kind_number l.kind) n ≡ true → is_simple (row_of l.table m n) ≡ true

abbrev pub decreases-firsts : goal.decreases-firsts
decreases-firsts l = most_methods - l.place

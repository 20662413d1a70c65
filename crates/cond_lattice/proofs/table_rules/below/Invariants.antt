use Rattle.std.proofs.Common.{◌≡◌, ℕ, ◌+◌, ◌-◌, ◌<◌, true}
use Rattle.gx_base.specs.Kinds.{kind_number}
use Rattle.gx_base.specs.Methods.{most_methods, is_method, first_method}
use Rattle.gx_base.specs.TableRows.{row_of}
use Rattle.cond_lattice.specs.Derivations.{IsRowBelow}
use Rattle.cond_lattice.proofs.table_rules.below.Given as goal

-- the rows so far are below
abbrev pub invariant-loop-first : goal.invariant-loop-first
invariant-loop-first l =
    (m : ℕ) → is_method (kind_number l.kind) m ≡ true → m < first_method (kind_number l.kind) + l.place
    → (n : ℕ) → is_method (kind_number l.kind) n ≡ true → IsRowBelow (row_of l.c m n) (row_of l.d m n)

abbrev pub decreases-loop-first : goal.decreases-loop-first
decreases-loop-first l = most_methods - l.place

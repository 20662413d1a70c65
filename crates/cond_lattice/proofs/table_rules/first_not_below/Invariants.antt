use Rattle.std.proofs.Common.{◌≡◌, ℕ, ◌+◌, ◌-◌, ◌<◌, true}
use Rattle.gx_base.specs.Kinds.{kind_number}
use Rattle.gx_base.specs.Methods.{most_methods, is_method, first_method}
use Rattle.gx_base.specs.TableRows.{row_of}
use Rattle.cond_lattice.specs.Derivations.{IsRowBelow}
use Rattle.cond_lattice.proofs.table_rules.first_not_below.Given as goal

-- the rows so far are below
abbrev pub invariant-loop-second : goal.invariant-loop-second
invariant-loop-second l =
    (n : ℕ) → is_method (kind_number l.kind) n ≡ true → n < first_method (kind_number l.kind) + l.place → IsRowBelow (row_of l.c l.first n) (row_of l.d l.first n)

abbrev pub decreases-loop-second : goal.decreases-loop-second
decreases-loop-second l = most_methods - l.place

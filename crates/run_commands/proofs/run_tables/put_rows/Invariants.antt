use Rattle.std.proofs.Common.{◌≡◌, ◌==◌, ℕ, ◌+◌, ◌-◌, ◌<◌, true, false, Some}
use Rattle.std.specs.FinMap as map
use Rattle.gx_base.specs.Kinds.{kind_number}
use Rattle.gx_base.specs.Methods.{most_methods, first_method, is_method}
use Rattle.gx_base.specs.TableRows.{row_of}
use Rattle.run_commands.proofs.run_tables.put_rows.Given as goal

-- the rows of the methods so far are there, and else nothing has changed
abbrev pub invariant-seconds : goal.invariant-seconds
invariant-seconds l =
    ((n : ℕ) → is_method (kind_number l.kind) n ≡ true → n < first_method (kind_number l.kind) + l.place → map.get l.table (l.first, n) ≡ Some (row_of l.rows l.first n))
    × ((n : ℕ) → is_method (kind_number l.kind) n ≡ false → map.get l.table (l.first, n) ≡ map.get l.fn.table (l.first, n))
    × ((m n : ℕ) → (m == l.first) ≡ false → map.get l.table (m, n) ≡ map.get l.fn.table (m, n))

abbrev pub decreases-seconds : goal.decreases-seconds
decreases-seconds l = most_methods - l.place

use Rattle.std.proofs.Common.{◌≡◌, ℕ, ◌+◌, ◌-◌, ◌<◌, ◌&&◌, true, false, Some, None}
use Rattle.std.specs.FinMap as map
use Rattle.gx_base.specs.Kinds.{kind_number}
use Rattle.gx_base.specs.Methods.{most_methods, first_method, is_method}
use Rattle.gx_base.specs.TableRows.{row_of}
use Rattle.run_commands.proofs.run_tables.whole_table.Given as goal

-- the rows with the methods so far first are there, and none of other pairs
abbrev pub invariant-firsts : goal.invariant-firsts
invariant-firsts l =
    ((m : ℕ) → is_method (kind_number l.kind) m ≡ true → m < first_method (kind_number l.kind) + l.place → (n : ℕ) → is_method (kind_number l.kind) n ≡ true → map.get l.table (m, n) ≡ Some (row_of l.rows m n))
    × ((m n : ℕ) → (is_method (kind_number l.kind) m && is_method (kind_number l.kind) n) ≡ false → map.get l.table (m, n) ≡ None)

abbrev pub decreases-firsts : goal.decreases-firsts
decreases-firsts l = most_methods - l.place

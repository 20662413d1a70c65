-- What a `NumberRows` stands for.
use Rattle.std.specs.Prelude.{ℕ, ◌*◌, ◌≤◌, ℤ, length}
use Rattle.std.specs.Ordering.{int_cmp}
use Rattle.std.specs.FinMap as map
use Rattle.number_rows.specs.declared.rows.NumberRows.{NumberRows}
use Rattle.number_rows.specs.declared.rows.TheConstants.{LEAST_TIDIED}
use Rattle.number_rows.specs.Entries.{dead_in}

-- the keys that have rows, with their numbers
abbrev pub number_rows_of : NumberRows → map.FinMap int_cmp ℤ
number_rows_of rows = map.from_entries rows.numbers.entries

-- how many rows hold 0
abbrev pub dead_rows : NumberRows → ℕ
dead_rows rows = dead_in rows.numbers.entries

abbrev pub row_count : NumberRows → ℕ
row_count rows = length rows.numbers.entries

-- the rows are fewer than `LEAST_TIDIED`, or at most half of them hold 0
abbrev pub IsLean : NumberRows → Type 0
IsLean rows = LEAST_TIDIED ≤ row_count rows → 2 * dead_rows rows ≤ row_count rows

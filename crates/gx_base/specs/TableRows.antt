-- What contracts see of a table: a finite map from pairs of methods to conditions.
use Rattle.std.specs.Prelude.{ℕ, Option, Some, None}
use Rattle.std.specs.Coded.{Coded, coded×, coded_ℕ}
use Rattle.std.specs.FinMap as map
use Rattle.std.specs.Ordering.{nat_cmp, ordering_then}
use Rattle.std.specs.declared.cmp.Ordering.{Ordering}
use Rattle.gx_base.specs.Conditions.{Condition, False}
use Rattle.gx_base.specs.ConditionCodes.{condition_code}

-- pairs of methods are ordered by the first method, and then by the second
abbrev pub pair_cmp : (ℕ × ℕ) → (ℕ × ℕ) → Ordering
pair_cmp x y = ordering_then (nat_cmp x.0 y.0) (nat_cmp x.1 y.1)

-- the rows that stand in a table
abbrev pub RowMap : Type 0
RowMap = map.FinMap pair_cmp Condition

-- a table is stored as its rows with the tokens of their conditions
abbrev pub row_map_code : Coded RowMap
row_map_code = map.code (coded× coded_ℕ coded_ℕ) condition_code

-- a row that stands in the table, and else false
abbrev pub row_or_false : Option Condition → Condition
row_or_false None = False
row_or_false (Some condition) = condition

-- the row of two methods, of which the first ran first. A row that doesn't stand in the table is false
abbrev pub row_of : RowMap → ℕ → ℕ → Condition
row_of rows first second = row_or_false (map.get rows (first, second))

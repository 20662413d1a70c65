-- The rows of a table as the code keeps them: buckets, in which a row is found by its pair of methods.
use Rattle.std.specs.Prelude.{◌≡◌, ℕ, ◌+◌, ◌*◌, ◌%◌, Bool, ◌==◌, ◌&&◌, List, [], ◌∷◌, ◌++◌, map, length, Vec}
use Rattle.std.specs.FinMap as finite
use Rattle.std.specs.declared.alloc.Global.{Global}
use Rattle.gx_base.specs.declared.tables.Row.{Row}
use Rattle.gx_base.specs.Conditions.{Condition, condition_of}
use Rattle.gx_base.specs.Methods.{most_methods}
use Rattle.gx_base.specs.TableRows.{pair_cmp, RowMap, row_of}

-- a pair of methods with its condition
abbrev pub TableRow : Type 0
TableRow = (ℕ × ℕ) × Condition

-- the row is the one of these methods
abbrev pub is_row_of : ℕ → ℕ → Row → Bool
is_row_of first second row = (row.first == first) && (row.second == second)

-- a row with its pair of methods
abbrev pub table_row_of : Row → TableRow
table_row_of row = ((row.first, row.second), condition_of row.cond)

-- rows with their pairs of methods
abbrev pub table_rows_of : List Row → List TableRow
table_rows_of rows = map table_row_of rows

-- the buckets with the entries of their rows
abbrev pub buckets_of : List (Vec Row Global) → List (List TableRow)
buckets_of buckets = map (λ (bucket : Vec Row Global). table_rows_of bucket.items) buckets

-- the entries of all buckets
abbrev pub table_rows_in : List (List TableRow) → List TableRow
table_rows_in [] = []
table_rows_in (bucket ∷ buckets) = bucket ++ table_rows_in buckets

-- the rows of all buckets as a map
abbrev pub row_map_of : List (List TableRow) → RowMap
row_map_of buckets = finite.from_entries (table_rows_in buckets)

-- the number of the bucket of two methods. No two pairs of methods of one kind share a bucket
abbrev pub bucket_number : (ℕ × ℕ) → ℕ
bucket_number pair = (pair.0 % most_methods) * most_methods + pair.1 % most_methods

-- the bucket with this number is the one of each entry
abbrev pub AllBelong : ℕ → List TableRow → Type 0
AllBelong number [] = Unit
AllBelong number (entry ∷ entries) = (bucket_number entry.0 ≡ number) × AllBelong number entries

-- no two entries are of one pair of methods
abbrev pub AreApart : List TableRow → Type 0
AreApart entries = finite.len (finite.from_entries {R = pair_cmp} entries) ≡ length entries

-- the bucket with this number has its own entries alone, one for each pair of methods
pub record IsBucket (number : ℕ) (entries : List TableRow) : Type 0 where
  pub belong : AllBelong number entries
  pub apart : AreApart entries

-- so do all buckets, of which the first has this number
abbrev pub AreBuckets : ℕ → List (List TableRow) → Type 0
AreBuckets number [] = Unit
AreBuckets number (bucket ∷ buckets) = IsBucket number bucket × AreBuckets (number + 1) buckets

-- the row stands in the new list in place of any other for the same methods
pub record IsRowPut (old : List Row) (row : Row) (new : List Row) : Type 0 where
  pub rows : finite.from_entries (table_rows_of new) ≡ finite.insert (finite.from_entries {R = pair_cmp} (table_rows_of old)) (table_row_of row).0 (table_row_of row).1
  pub bucket : (number : ℕ) → bucket_number (table_row_of row).0 ≡ number → IsBucket number (table_rows_of old) → IsBucket number (table_rows_of new)

-- two tables have the same rows for the methods of these entries
abbrev pub AgreeOn : RowMap → RowMap → List TableRow → Type 0
AgreeOn one other [] = Unit
AgreeOn one other (entry ∷ entries) = (row_of one entry.0.0 entry.0.1 ≡ row_of other entry.0.0 entry.0.1) × AgreeOn one other entries

-- What reads and writes of one number are in the state of cells.
use Rattle.std.specs.Prelude.{◌≡◌, ℤ, Bool, List, IsTrue}
use Rattle.std.proofs.Common.{sym, ◌∙◌, ap}
use Rattle.std.specs.Ordering.{int_cmp}
use Rattle.std.specs.FinMap as map
use Rattle.gx_base.specs.declared.calls.Made.{Made}
use Rattle.gx_base.specs.declared.kinds.Kind.TheVariants.{Cells as CellsKind}
use Rattle.gx_base.specs.CellsKind.{cells_use}
use Rattle.gx_base.specs.Kinds.{kind_number}
use Rattle.gx_base.specs.RegisterDeeds.{Use, Nothing, On, Reads, Adds, Sets}
use Rattle.gx_base.specs.States.{State, row_cmp, number_at, with_number}
use Rattle.number_rows.specs.declared.rows.NumberRows.{NumberRows}
use Rattle.number_rows.specs.NumbersAsRows.{number_in, rows_onto}
use Rattle.number_rows.proofs.CallerLemmas.{IsFree, number-rows_onto, rows_onto-insert, rows_onto-same, rows_onto-empty, KeepsRows, put_at}
use Rattle.shared_sets.specs.declared.numbered_cells.Cells.{Cells}
use Rattle.shared_sets.specs.CellsState.{has_cell, room_in_cells, has_cells_room}

-- numbers by key
abbrev pub Numbers : Type 0
Numbers = map.FinMap int_cmp ℤ

-- the state of cells with these rows
abbrev pub with_rows : map.FinMap row_cmp (List ℤ) → State
with_rows rows = record { kind = kind_number CellsKind; rows = rows }

abbrev pub cells_with : Numbers → State
cells_with m = with_rows (rows_onto map.empty 0 m)

free : IsFree map.empty 0
free k = map.get-empty row_cmp (0, k)

-- a number that is read
pub read_cell : (m : Numbers) (k kk x y : ℤ) → kk ≡ k → y ≡ x → x ≡ number_in m kk → y ≡ number_at (cells_with m) (0, k)
read_cell m k kk x y ek ey r = ey ∙ r ∙ ap (number_in m) ek ∙ sym (number-rows_onto map.empty 0 m k free)

-- a number that is written
pub wrote_cell : (m n : Numbers) (k kk x xx : ℤ) → kk ≡ k → xx ≡ x → n ≡ map.insert m kk xx → cells_with n ≡ with_number (cells_with m) (0, k) x
wrote_cell m n k kk x xx ek ex w = ap cells_with (put_at m n k kk x xx ek ex w) ∙ ap with_rows (rows_onto-insert map.empty 0 m k x)

-- the same numbers are the same state
pub cells_with-same : (m n : Numbers) → ((k : ℤ) → number_in m k ≡ number_in n k) → cells_with m ≡ cells_with n
cells_with-same m n h = ap with_rows (rows_onto-same map.empty 0 m n free h)

pub cells_with-empty : cells_with map.empty ≡ with_rows map.empty
cells_with-empty = ap with_rows (rows_onto-empty map.empty 0)

room-kept : (u : Use) (a b : Bool) → (IsTrue a → IsTrue b) → IsTrue (room_in_cells u a) → IsTrue (room_in_cells u b)
room-kept Nothing a b h t = t
room-kept (On sort Reads) a b h t = t
room-kept (On sort Adds) a b h t = h t
room-kept (On sort Sets) a b h t = h t

-- where the rows stay, each call keeps its room
pub cells_kept : (s : Cells) (n : NumberRows) → KeepsRows s.numbers n → (made : Made) → IsTrue (has_cells_room s made) → IsTrue (has_cells_room (record s { numbers = n }) made)
cells_kept s n h made t = room-kept (cells_use made.call.method) (has_cell s made.call.a) (has_cell (record s { numbers = n }) made.call.a) (h made.call.a) t

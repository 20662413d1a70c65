-- What cells stand for.
use Rattle.std.specs.Prelude.{◌≡◌, ℤ, Bool, true, false, IsTrue, refl}
use Rattle.std.proofs.Common.{sym, subst}
use Rattle.std.specs.FinMap as map
use Rattle.gx_base.specs.declared.calls.Made.{Made}
use Rattle.gx_base.specs.declared.kinds.Kind.{Kind}
use Rattle.gx_base.specs.declared.kinds.Kind.TheVariants.{Cells as CellsKind}
use Rattle.gx_base.specs.CellsKind.{cells_use}
use Rattle.gx_base.specs.Kinds.{kind_number}
use Rattle.gx_base.specs.Methods.{is_method}
use Rattle.gx_base.specs.RegisterDeeds.{Use, Nothing, On, Reads, Adds, Sets}
use Rattle.gx_base.specs.States.{State, row_cmp, IsNumberRow}
use Rattle.gx_base.specs.Steps.{IsState}
use Rattle.gx_base.proofs.CallerLemmas.{cells_use-foreign}
use Rattle.number_rows.specs.NumberRows.{number_rows_of}
use Rattle.number_rows.specs.NumbersAsRows.{rows_onto}
use Rattle.number_rows.proofs.CallerLemmas.{number-fits, HoldNumbers-rows_onto}
use Rattle.shared_sets.specs.declared.numbered_cells.Cells.{Cells}

-- the state of cells
abbrev pub cells_state : Cells → State
cells_state cells = record { kind = kind_number CellsKind; rows = rows_onto map.empty 0 (number_rows_of cells.numbers) }

-- the key has its row
abbrev pub has_cell : Cells → ℤ → Bool
has_cell cells k = map.contains_key (number_rows_of cells.numbers) k

abbrev pub room_in_cells : Use → Bool → Bool
room_in_cells Nothing there = true
room_in_cells (On sort Reads) there = true
room_in_cells (On sort Adds) there = there
room_in_cells (On sort Sets) there = there

-- a call that writes has its row, so it is undone and done again in that row
abbrev pub has_cells_room : Cells → Made → Bool
has_cells_room cells made = room_in_cells (cells_use made.call.method) (has_cell cells made.call.a)

abbrev pub holds_cells : Kind → Bool
holds_cells CellsKind = true
holds_cells _ = false

-- What follows is what the object says of every value. It stands here since that takes nothing from this crate's proofs.

pub foreign-has_cells_room : (cells : Cells) (made : Made) → is_method (cells_state cells).kind made.call.method ≡ false → IsTrue (has_cells_room cells made)
foreign-has_cells_room cells made foreign = subst (λ u. IsTrue (room_in_cells u (has_cell cells made.call.a))) (sym (cells_use-foreign made.call.method foreign)) refl

pub cells_state-IsState : (cells : Cells) → IsState (cells_state cells)
cells_state-IsState cells = HoldNumbers-rows_onto map.empty 0 (number_rows_of cells.numbers) (λ key. subst IsNumberRow (sym (map.get-empty row_cmp key)) tt) (number-fits cells.numbers)

-- Two workers read one cell, and then each is to set it.
use Rattle.std.specs.Prelude.{ℕ, ◌+◌, ℤ, pos, true, None, List, [], ◌∷◌}
use Rattle.gx_base.specs.declared.calls.Call.{Call as CallOf}
use Rattle.gx_base.specs.declared.items.Item.{Item}
use Rattle.gx_base.specs.declared.acts.Entry.{Entry}
use Rattle.gx_base.specs.declared.kinds.Kind.TheVariants.{Cells}
use Rattle.gx_base.specs.CellsKind.{cells_first}
use Rattle.gx_base.specs.Meanings.{number_reply}
use Rattle.gx_base.specs.Plans.{Operator, Call, Done}
use Rattle.gx_base.specs.TableRows.{RowMap}
use Rattle.speculation.specs.Events.{Turn}
use Rattle.speculation.specs.Events as event
use Rattle.speculation.specs.Machines.{Machine}
use Rattle.speculation_cases.specs.Beginnings.{written_gate, starting, turn_0, turn_1}

abbrev pub numbered_item : ℕ → Item
numbered_item n = record { k0 = pos n; k1 = pos 0; k2 = pos 0; k3 = pos 0 }

abbrev pub read_cell : CallOf
read_cell = record { method = cells_first; a = pos 0; b = pos 0; c = pos 0; d = pos 0 }

abbrev pub set_cell : ℤ → CallOf
set_cell x = record { method = cells_first + 2; a = pos 0; b = x; c = pos 0; d = pos 0 }

-- each body reads the cell and sets it to the number of its item; the items have to commit in their order
abbrev pub setters : Operator
setters = record { ordered = true; rooms = 1; plan = λ item. Call 0 read_cell (λ _. Call 0 (set_cell item.k0) (λ _. Done)) }

abbrev pub two_setters : RowMap → Machine
two_setters table = starting (λ room. written_gate Cells table []) true (numbered_item 1 ∷ numbered_item 2 ∷ [])

-- the uncommitted entry of a first iteration, whose call replied 0
abbrev pub entry_by : ℕ → Item → CallOf → Entry
entry_by worker item call = record { worker = worker; iter = 0; item = item; call = call; reply = number_reply (pos 0); seen = pos 0; done = None }

abbrev pub setters_schedule : List ℕ
setters_schedule = 0 ∷ 1 ∷ 0 ∷ 1 ∷ 0 ∷ 1 ∷ 1 ∷ 0 ∷ 1 ∷ 1 ∷ 0 ∷ 1 ∷ 1 ∷ 1 ∷ 1 ∷ []

abbrev pub turns_of_setters : List Turn
turns_of_setters =
    turn_0 0 (event.Take (numbered_item 1))
    ∷ turn_1 1 (event.Take (numbered_item 2))
    ∷ turn_0 2 (event.Call 0 read_cell (number_reply (pos 0)))
    ∷ turn_1 3 (event.Call 0 read_cell (number_reply (pos 0)))
    ∷ turn_0 4 (event.Conflict 0 (entry_by 1 (numbered_item 2) read_cell) (set_cell (pos 1)) (number_reply (pos 0)))
    ∷ turn_1 5 (event.Conflict 0 (entry_by 0 (numbered_item 1) read_cell) (set_cell (pos 2)) (number_reply (pos 0)))
    ∷ turn_1 6 (event.Undo 0 read_cell)
    ∷ turn_0 7 (event.Call 0 (set_cell (pos 1)) (number_reply (pos 0)))
    ∷ turn_1 8 (event.Take (numbered_item 2))
    ∷ turn_1 9 (event.Conflict 0 (entry_by 0 (numbered_item 1) (set_cell (pos 1))) read_cell (number_reply (pos 1)))
    ∷ turn_0 10 (event.Commit 0)
    ∷ turn_1 11 (event.Take (numbered_item 2))
    ∷ turn_1 12 (event.Call 0 read_cell (number_reply (pos 1)))
    ∷ turn_1 13 (event.Call 0 (set_cell (pos 2)) (number_reply (pos 1)))
    ∷ turn_1 14 (event.Commit 1)
    ∷ []

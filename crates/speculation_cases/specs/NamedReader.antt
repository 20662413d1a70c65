-- A body that is finished waits for a smaller item, whose body names it.
use Rattle.std.specs.Prelude.{ℕ, zero, suc, ℤ, pos, true, List, [], ◌∷◌}
use Rattle.gx_base.specs.declared.kinds.Kind.TheVariants.{Cells}
use Rattle.gx_base.specs.Meanings.{number_reply}
use Rattle.gx_base.specs.Plans.{Plan, Operator, Call, Done}
use Rattle.gx_base.specs.TableRows.{RowMap}
use Rattle.speculation.specs.Events.{Turn}
use Rattle.speculation.specs.Events as event
use Rattle.speculation.specs.Machines.{Machine}
use Rattle.speculation_cases.specs.Beginnings.{written_gate, starting, turn_0, turn_1}
use Rattle.speculation_cases.specs.SmallConflict.{numbered_item, read_cell, set_cell, entry_by}

-- item 1 sets the cell to 1, and the others leave it
abbrev pub after_reading : ℤ → Plan
after_reading (pos (suc zero)) = Call 0 (set_cell (pos 1)) (λ _. Done)
after_reading number = Done

-- each body reads the cell first; the items have to commit in their order
abbrev pub setter_and_reader : Operator
setter_and_reader = record { ordered = true; rooms = 1; plan = λ item. Call 0 read_cell (λ _. after_reading item.k0) }

abbrev pub one_setter : RowMap → Machine
one_setter table = starting (λ room. written_gate Cells table []) true (numbered_item 1 ∷ numbered_item 2 ∷ [])

abbrev pub reader_schedule : List ℕ
reader_schedule = 0 ∷ 1 ∷ 1 ∷ 1 ∷ 0 ∷ 0 ∷ 1 ∷ 0 ∷ 1 ∷ 0 ∷ 1 ∷ 1 ∷ []

-- worker 1 waits in turn 3, is named in turn 5, and so undoes its read in turn 6
abbrev pub turns_of_reader : List Turn
turns_of_reader =
    turn_0 0 (event.Take (numbered_item 1))
    ∷ turn_1 1 (event.Take (numbered_item 2))
    ∷ turn_1 2 (event.Call 0 read_cell (number_reply (pos 0)))
    ∷ turn_1 3 event.Wait
    ∷ turn_0 4 (event.Call 0 read_cell (number_reply (pos 0)))
    ∷ turn_0 5 (event.Conflict 0 (entry_by 1 (numbered_item 2) read_cell) (set_cell (pos 1)) (number_reply (pos 0)))
    ∷ turn_1 6 (event.Undo 0 read_cell)
    ∷ turn_0 7 (event.Call 0 (set_cell (pos 1)) (number_reply (pos 0)))
    ∷ turn_1 8 (event.Take (numbered_item 2))
    ∷ turn_0 9 (event.Commit 0)
    ∷ turn_1 10 (event.Call 0 read_cell (number_reply (pos 1)))
    ∷ turn_1 11 (event.Commit 1)
    ∷ []

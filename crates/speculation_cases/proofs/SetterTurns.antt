-- The turns of the two setters follow from the definitions of the machine.
use Rattle.std.specs.Prelude.{◌≡◌, ℕ, ℤ, pos, Option, Some, None, List, [], ◌∷◌, refl}
use Rattle.std.proofs.Common.{ap}
use Rattle.gx_base.specs.declared.kinds.Kind.TheVariants.{Cells}
use Rattle.gx_base.specs.declared.kinds.Choice.TheVariants.{Precise}
use Rattle.gx_base.specs.Meanings.{number_reply}
use Rattle.gx_base.specs.Steps.{next_state, reply_to, inverse, observed}
use Rattle.gx_base.specs.TableRows.{RowMap, row_of}
use Rattle.gx_base.specs.Tables.{Rows}
use Rattle.gx_base.specs.Worklists.{item_cmp, has_item, without_item, with_item, without_items, with_items, is_least}
use Rattle.gx_base.specs.ShippedTables.{rows_chosen}
use Rattle.shared_sets.specs.CellsTables.{cells_tables}
use Rattle.speculation.specs.ScheduledRuns.{begun, scheduled}
use Rattle.speculation_cases.specs.Beginnings.{WrittenNumbers, HasPreciseRows}
use Rattle.speculation_cases.specs.SmallConflict.{setters, two_setters, setters_schedule, turns_of_setters}
use Rattle.speculation_cases.proofs.WrittenRows.{reads}
use Rattle.speculation_cases.proofs.GivenTurns.{Given, AllRight, given_run}

abbrev given_turn : ℕ → Option ℕ → ℤ → Given
given_turn worker way x = record { worker = worker; way = way; reply = number_reply x }

-- the cell once it was set to 1
abbrev set_1 : WrittenNumbers
set_1 = ((0, pos 0), pos 1) ∷ []

abbrev cell_rows : Rows
cell_rows = rows_chosen cells_tables Precise

abbrev given : List Given
given =
    given_turn 0 None (pos 0)
    ∷ given_turn 1 None (pos 0)
    ∷ given_turn 0 None (pos 0)
    ∷ given_turn 1 None (pos 0)
    ∷ given_turn 0 (Some 1) (pos 0)
    ∷ given_turn 1 (Some 0) (pos 0)
    ∷ given_turn 1 None (pos 0)
    ∷ given_turn 0 None (pos 0)
    ∷ given_turn 1 None (pos 0)
    ∷ given_turn 1 (Some 1) (pos 1)
    ∷ given_turn 0 None (pos 0)
    ∷ given_turn 1 None (pos 0)
    ∷ given_turn 1 None (pos 1)
    ∷ given_turn 1 None (pos 1)
    ∷ given_turn 1 None (pos 0)
    ∷ []

right : (table : RowMap) → row_of table ≡ cell_rows → AllRight cell_rows setters (begun (two_setters table)) given
unfolding next_state reply_to inverse observed item_cmp has_item without_item with_item without_items with_items is_least
right table h = (
  (refl, tt),
  (
    (refl, tt),
    (
      (refl, record { has_rows = h; first = refl; replies = ap number_reply (reads Cells [] (0, pos 0)) }),
      (
        (refl, record { has_rows = h; first = refl; replies = ap number_reply (reads Cells [] (0, pos 0)) }),
        (
          (refl, record { has_rows = h; first = refl; replies = ap number_reply (reads Cells [] (0, pos 0)) }),
          (
            (refl, record { has_rows = h; first = refl; replies = ap number_reply (reads Cells [] (0, pos 0)) }),
            (
              (refl, tt),
              (
                (refl, record { has_rows = h; first = refl; replies = ap number_reply (reads Cells [] (0, pos 0)) }),
                (
                  (refl, tt),
                  (
                    (refl, record { has_rows = h; first = refl; replies = ap number_reply (reads Cells set_1 (0, pos 0)) }),
                    (
                      (refl, tt),
                      (
                        (refl, tt),
                        (
                          (refl, record { has_rows = h; first = refl; replies = ap number_reply (reads Cells set_1 (0, pos 0)) }),
                          (
                            (refl, record { has_rows = h; first = refl; replies = ap number_reply (reads Cells set_1 (0, pos 0)) }),
                            (
                              (refl, tt),
                              tt,
                            ),
                          ),
                        ),
                      ),
                    ),
                  ),
                ),
              ),
            ),
          ),
        ),
      ),
    ),
  ),
)

pub setters_in_turn : (table : RowMap) → HasPreciseRows cells_tables table → (scheduled setters (begun (two_setters table)) setters_schedule).trace ≡ turns_of_setters
unfolding next_state reply_to inverse observed item_cmp has_item without_item with_item without_items with_items is_least scheduled
setters_in_turn table h = ap (λ r. r.trace) (given_run cell_rows setters given [] (begun (two_setters table)) (right table (λ i first second. h first second i)))

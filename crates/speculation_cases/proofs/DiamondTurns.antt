-- The turns of the diamond follow from the definitions of the machine.
use Rattle.std.specs.Prelude.{◌≡◌, ℤ, pos, None, List, [], ◌∷◌, refl}
use Rattle.std.proofs.Common.{ap}
use Rattle.gx_base.specs.declared.kinds.Kind.TheVariants.{Flow}
use Rattle.gx_base.specs.declared.kinds.Choice.TheVariants.{Precise}
use Rattle.gx_base.specs.Meanings.{number_reply}
use Rattle.gx_base.specs.Steps.{next_state, reply_to, inverse, observed}
use Rattle.gx_base.specs.TableRows.{RowMap, row_of}
use Rattle.gx_base.specs.Tables.{Rows}
use Rattle.gx_base.specs.Worklists.{item_cmp, has_item, without_item, with_item, without_items, with_items, is_least}
use Rattle.gx_base.specs.ShippedTables.{rows_chosen}
use Rattle.kind_tables.specs.FlowTables.{flow_tables}
use Rattle.preflow_push.specs.Discharge.{discharge_operator}
use Rattle.speculation.specs.ScheduledRuns.{begun, scheduled, drain, drain_worker, drained}
use Rattle.speculation_cases.specs.Beginnings.{WrittenNumbers, HasPreciseRows}
use Rattle.speculation_cases.specs.Diamond.{net, first_numbers, diamond, alternating, turns_of_both, turns_with_drain}
use Rattle.speculation_cases.proofs.WrittenRows.{reads}
use Rattle.speculation_cases.proofs.GivenTurns.{Given, AllRight, given_run}

-- the rooms of nodes 2 and 3 once these have risen
abbrev risen_2 : WrittenNumbers
risen_2 = ((0, pos 2), pos 1) ∷ first_numbers 2

abbrev risen_3 : WrittenNumbers
risen_3 = ((0, pos 3), pos 1) ∷ first_numbers 3

-- ---- the turns, with the replies to their calls

abbrev moved_0 : Given
moved_0 = record { worker = 0; way = None; reply = number_reply (pos 0) }

abbrev moved_1 : Given
moved_1 = record { worker = 1; way = None; reply = number_reply (pos 0) }

abbrev called_0 : ℤ → Given
called_0 x = record { worker = 0; way = None; reply = number_reply x }

abbrev called_1 : ℤ → Given
called_1 x = record { worker = 1; way = None; reply = number_reply x }

abbrev pub flow_rows : Rows
flow_rows = rows_chosen flow_tables Precise

abbrev given_six : List Given
given_six =
    moved_0 ∷ moved_1 ∷ called_0 (pos 1) ∷ called_1 (pos 1) ∷ called_0 (pos 0) ∷ called_1 (pos 0) ∷ []

right_six : (table : RowMap) → row_of table ≡ flow_rows → AllRight flow_rows (discharge_operator net) (begun (diamond table)) given_six
unfolding next_state reply_to inverse observed item_cmp has_item without_item with_item without_items with_items is_least
right_six table h = (
  (refl, tt),
  (
    (refl, tt),
    (
      (refl, record { has_rows = h; first = refl; replies = ap number_reply (reads Flow (first_numbers 2) (1, pos 2)) }),
      (
        (refl, record { has_rows = h; first = refl; replies = ap number_reply (reads Flow (first_numbers 3) (1, pos 3)) }),
        (
          (refl, record { has_rows = h; first = refl; replies = ap number_reply (reads Flow (first_numbers 2) (0, pos 2)) }),
          (
            (refl, record { has_rows = h; first = refl; replies = ap number_reply (reads Flow (first_numbers 3) (0, pos 3)) }),
            tt,
          ),
        ),
      ),
    ),
  ),
)

pub drained_diamond : (table : RowMap) → HasPreciseRows flow_tables table → (drained (discharge_operator net) (diamond table) 2 (alternating 3)).trace ≡ turns_with_drain
unfolding next_state reply_to inverse observed item_cmp has_item without_item with_item without_items with_items is_least drained drain drain_worker scheduled
drained_diamond table h =
    ap (λ r. (drain r 2).trace) (given_run flow_rows (discharge_operator net) given_six [] (begun (diamond table)) (right_six table (λ i first second. h first second i)))

abbrev pub given_both : List Given
given_both =
    moved_0 ∷ moved_1 ∷ called_0 (pos 1) ∷ called_1 (pos 1) ∷ called_0 (pos 0) ∷ called_1 (pos 0) ∷ called_0 (pos 1) ∷ called_1 (pos 1) ∷ called_0 (pos 4) ∷ called_1 (pos 4) ∷ called_0 (pos 0) ∷ called_1 (pos 0) ∷ called_0 (pos 0) ∷ called_1 (pos 0) ∷ called_0 (pos 0) ∷ called_1 (pos 0) ∷ moved_0 ∷ moved_1 ∷ moved_0 ∷ moved_1 ∷ called_0 (pos 1) ∷ called_1 (pos 1) ∷ called_0 (pos 1) ∷ called_1 (pos 1) ∷ called_0 (pos 1) ∷ called_1 (pos 1) ∷ called_0 (pos 4) ∷ called_1 (pos 4) ∷ called_0 (pos 0) ∷ called_1 (pos 0) ∷ called_0 (pos 0) ∷ called_1 (pos 0) ∷ called_0 (pos 0) ∷ called_1 (pos 0) ∷ called_0 (pos 0) ∷ called_1 (pos 0) ∷ called_0 (pos 0) ∷ called_1 (pos 0) ∷ moved_0 ∷ moved_1 ∷ []

pub right_both : (table : RowMap) → row_of table ≡ flow_rows → AllRight flow_rows (discharge_operator net) (begun (diamond table)) given_both
unfolding next_state reply_to inverse observed item_cmp has_item without_item with_item without_items with_items is_least
right_both table h = (
  (refl, tt),
  (
    (refl, tt),
    (
      (refl, record { has_rows = h; first = refl; replies = ap number_reply (reads Flow (first_numbers 2) (1, pos 2)) }),
      (
        (refl, record { has_rows = h; first = refl; replies = ap number_reply (reads Flow (first_numbers 3) (1, pos 3)) }),
        (
          (refl, record { has_rows = h; first = refl; replies = ap number_reply (reads Flow (first_numbers 2) (0, pos 2)) }),
          (
            (refl, record { has_rows = h; first = refl; replies = ap number_reply (reads Flow (first_numbers 3) (0, pos 3)) }),
            (
              (refl, record { has_rows = h; first = refl; replies = ap number_reply (reads Flow (first_numbers 1) (2, pos 1)) }),
              (
                (refl, record { has_rows = h; first = refl; replies = ap number_reply (reads Flow (first_numbers 2) (2, pos 2)) }),
                (
                  (refl, record { has_rows = h; first = refl; replies = ap number_reply (reads Flow (first_numbers 1) (0, pos 1)) }),
                  (
                    (refl, record { has_rows = h; first = refl; replies = ap number_reply (reads Flow (first_numbers 1) (0, pos 1)) }),
                    (
                      (refl, record { has_rows = h; first = refl; replies = ap number_reply (reads Flow (first_numbers 3) (2, pos 3)) }),
                      (
                        (refl, record { has_rows = h; first = refl; replies = ap number_reply (reads Flow (first_numbers 4) (2, pos 4)) }),
                        (
                          (refl, record { has_rows = h; first = refl; replies = ap number_reply (reads Flow (first_numbers 4) (0, pos 4)) }),
                          (
                            (refl, record { has_rows = h; first = refl; replies = ap number_reply (reads Flow (first_numbers 4) (0, pos 4)) }),
                            (
                              (refl, record { has_rows = h; first = refl; replies = ap number_reply (reads Flow (first_numbers 2) (0, pos 2)) }),
                              (
                                (refl, record { has_rows = h; first = refl; replies = ap number_reply (reads Flow (first_numbers 3) (0, pos 3)) }),
                                (
                                  (refl, tt),
                                  (
                                    (refl, tt),
                                    (
                                      (refl, tt),
                                      (
                                        (refl, tt),
                                        (
                                          (refl, record { has_rows = h; first = refl; replies = ap number_reply (reads Flow (risen_2) (1, pos 2)) }),
                                          (
                                            (refl, record { has_rows = h; first = refl; replies = ap number_reply (reads Flow (risen_3) (1, pos 3)) }),
                                            (
                                              (refl, record { has_rows = h; first = refl; replies = ap number_reply (reads Flow (risen_2) (0, pos 2)) }),
                                              (
                                                (refl, record { has_rows = h; first = refl; replies = ap number_reply (reads Flow (risen_3) (0, pos 3)) }),
                                                (
                                                  (refl, record { has_rows = h; first = refl; replies = ap number_reply (reads Flow (first_numbers 1) (2, pos 1)) }),
                                                  (
                                                    (refl, record { has_rows = h; first = refl; replies = ap number_reply (reads Flow (risen_2) (2, pos 2)) }),
                                                    (
                                                      (refl, record { has_rows = h; first = refl; replies = ap number_reply (reads Flow (first_numbers 1) (0, pos 1)) }),
                                                      (
                                                        (refl, record { has_rows = h; first = refl; replies = ap number_reply (reads Flow (first_numbers 1) (0, pos 1)) }),
                                                        (
                                                          (refl, record { has_rows = h; first = refl; replies = ap number_reply (reads Flow (risen_3) (2, pos 3)) }),
                                                          (
                                                            (refl, record { has_rows = h; first = refl; replies = ap number_reply (reads Flow (first_numbers 4) (2, pos 4)) }),
                                                            (
                                                              (refl, record { has_rows = h; first = refl; replies = ap number_reply (reads Flow (first_numbers 4) (0, pos 4)) }),
                                                              (
                                                                (refl, record { has_rows = h; first = refl; replies = ap number_reply (reads Flow (first_numbers 4) (0, pos 4)) }),
                                                                (
                                                                  (refl, record { has_rows = h; first = refl; replies = refl }),
                                                                  (
                                                                    (refl, record { has_rows = h; first = refl; replies = refl }),
                                                                    (
                                                                      (refl, record { has_rows = h; first = refl; replies = refl }),
                                                                      (
                                                                        (refl, record { has_rows = h; first = refl; replies = refl }),
                                                                        (
                                                                          (refl, record { has_rows = h; first = refl; replies = refl }),
                                                                          (
                                                                            (refl, record { has_rows = h; first = refl; replies = refl }),
                                                                            (
                                                                              (refl, tt),
                                                                              (
                                                                                (refl, tt),
                                                                                tt,
                                                                              ),
                                                                            ),
                                                                          ),
                                                                        ),
                                                                      ),
                                                                    ),
                                                                  ),
                                                                ),
                                                              ),
                                                            ),
                                                          ),
                                                        ),
                                                      ),
                                                    ),
                                                  ),
                                                ),
                                              ),
                                            ),
                                          ),
                                        ),
                                      ),
                                    ),
                                  ),
                                ),
                              ),
                            ),
                          ),
                        ),
                      ),
                    ),
                  ),
                ),
              ),
            ),
          ),
        ),
      ),
    ),
  ),
)

pub both_in_turn : (table : RowMap) → HasPreciseRows flow_tables table → (scheduled (discharge_operator net) (begun (diamond table)) (alternating 50)).trace ≡ turns_of_both
unfolding next_state reply_to inverse observed item_cmp has_item without_item with_item without_items with_items is_least scheduled
both_in_turn table h =
    ap (λ r. r.trace) (given_run flow_rows (discharge_operator net) given_both (alternating 30) (begun (diamond table)) (right_both table (λ i first second. h first second i)))

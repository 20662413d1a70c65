-- The run of the diamond asks only calls with numbers of 64 bits, so it is serial.
use Rattle.std.specs.Prelude.{◌≡◌, ℕ, zero, suc, Bool, true, if◌then◌else◌, List, [], ◌∷◌, refl}
use Rattle.std.proofs.Common.{◌∙◌, ap, arith}
use Rattle.gx_base.specs.Plans.{Operator}
use Rattle.gx_base.specs.Steps.{next_state, reply_to, inverse, observed}
use Rattle.gx_base.specs.TableRows.{RowMap, row_of}
use Rattle.gx_base.specs.Worklists.{item_cmp, has_item, without_item, with_item, without_items, with_items, is_least}
use Rattle.kind_tables.specs.FlowTables.{flow_tables}
use Rattle.preflow_push.specs.Discharge.{discharge_operator}
use Rattle.speculation.specs.Machines.{Machine, turn}
use Rattle.speculation.specs.Premises.{ScheduledAsk, AloneAsk, AsksCalls}
use Rattle.speculation.specs.RunResults.{IsSerialInTheEnd}
use Rattle.speculation.specs.ScheduledRuns.{is_empty, Run, begun, scheduled, drain, drain_worker, lone_run, drained, played, AllBelow}
use Rattle.speculation.proofs.Theorems.{runs_are_serial}
use Rattle.speculation_cases.specs.Beginnings.{HasPreciseRows}
use Rattle.speculation_cases.specs.Diamond.{net, diamond, alternating}
use Rattle.speculation_cases.proofs.DiamondTurns.{flow_rows, given_both, right_both}
use Rattle.speculation_cases.proofs.GivenTurns.{AllAsk, run_given, given_run, given_ask}
use Rattle.speculation_cases.proofs.NewCases.{diamond_is_new}

both_ask : (table : RowMap) → AllAsk (discharge_operator net) (begun (diamond table)) given_both
unfolding next_state reply_to inverse observed item_cmp has_item without_item with_item without_items with_items is_least
both_ask table = (tt, (tt, ((omega arith, omega arith, omega arith, omega arith), ((omega arith, omega arith, omega arith, omega arith), ((omega arith, omega arith, omega arith, omega arith), ((omega arith, omega arith, omega arith, omega arith), ((omega arith, omega arith, omega arith, omega arith), ((omega arith, omega arith, omega arith, omega arith), ((omega arith, omega arith, omega arith, omega arith), ((omega arith, omega arith, omega arith, omega arith), ((omega arith, omega arith, omega arith, omega arith), ((omega arith, omega arith, omega arith, omega arith), ((omega arith, omega arith, omega arith, omega arith), ((omega arith, omega arith, omega arith, omega arith), ((omega arith, omega arith, omega arith, omega arith), ((omega arith, omega arith, omega arith, omega arith), (tt, (tt, (tt, (tt, ((omega arith, omega arith, omega arith, omega arith), ((omega arith, omega arith, omega arith, omega arith), ((omega arith, omega arith, omega arith, omega arith), ((omega arith, omega arith, omega arith, omega arith), ((omega arith, omega arith, omega arith, omega arith), ((omega arith, omega arith, omega arith, omega arith), ((omega arith, omega arith, omega arith, omega arith), ((omega arith, omega arith, omega arith, omega arith), ((omega arith, omega arith, omega arith, omega arith), ((omega arith, omega arith, omega arith, omega arith), ((omega arith, omega arith, omega arith, omega arith), ((omega arith, omega arith, omega arith, omega arith), ((omega arith, omega arith, omega arith, omega arith), ((omega arith, omega arith, omega arith, omega arith), ((omega arith, omega arith, omega arith, omega arith), ((omega arith, omega arith, omega arith, omega arith), ((omega arith, omega arith, omega arith, omega arith), ((omega arith, omega arith, omega arith, omega arith), (tt, (tt, tt))))))))))))))))))))))))))))))))))))))))

-- where nothing is ready, no turn asks anything
asks_nothing : (op : Operator) (m : Machine) (turns : ℕ) → is_empty m.book.ready ≡ true → AloneAsk op m turns
asks_nothing op m zero e = tt
asks_nothing op m (suc turns) e = λ f. absurd (cc)

no_turn_asks : (op : Operator) (r : Run) (schedule : List ℕ) → is_empty r.machine.book.ready ≡ true → ScheduledAsk op r schedule
no_turn_asks op r [] e = tt
no_turn_asks op r (worker ∷ schedule) e = λ f. absurd (cc)

-- after the forty turns nothing is ready, nor is anything after the drain
ready_no_more : (table : RowMap) → is_empty (run_given (discharge_operator net) (begun (diamond table)) given_both).machine.book.ready ≡ true
unfolding next_state reply_to inverse observed item_cmp has_item without_item with_item without_items with_items is_least
ready_no_more table = refl

nothing_ready : (table : RowMap) → row_of table ≡ flow_rows → is_empty (drained (discharge_operator net) (diamond table) 2 (alternating 50)).machine.book.ready ≡ true
unfolding next_state reply_to inverse observed item_cmp has_item without_item with_item without_items with_items is_least drained drain drain_worker scheduled
nothing_ready table h = ap (λ r. is_empty (drain r 2).machine.book.ready) (given_run flow_rows (discharge_operator net) given_both (alternating 30) (begun (diamond table)) (right_both table h))

diamond_asks_calls : (table : RowMap) (turns : ℕ) → row_of table ≡ flow_rows → AsksCalls (discharge_operator net) (diamond table) 2 (alternating 50) turns
diamond_asks_calls table turns h = (
  given_ask flow_rows (discharge_operator net) given_both (alternating 30) (begun (diamond table)) (right_both table h) (both_ask table)
      (no_turn_asks (discharge_operator net) (run_given (discharge_operator net) (begun (diamond table)) given_both) (alternating 30) (ready_no_more table)),
  asks_nothing (discharge_operator net) (drained (discharge_operator net) (diamond table) 2 (alternating 50)).machine turns (nothing_ready table h),
)

both_below : (times : ℕ) → AllBelow (alternating times) 2
both_below zero = tt
both_below (suc times) = (omega arith, (omega arith, both_below times))

pub diamond_is_serial : (table : RowMap) (turns : ℕ) → HasPreciseRows flow_tables table → IsSerialInTheEnd (discharge_operator net) (diamond table) (played (discharge_operator net) (diamond table) 2 (alternating 50) turns).machine
diamond_is_serial table turns h =
    runs_are_serial (discharge_operator net) (diamond table) 2 (alternating 50) turns (diamond_is_new table h) (both_below 50) (diamond_asks_calls table turns (λ i first second. h first second i))

stays_empty : (op : Operator) (m : Machine) (turns : ℕ) → is_empty m.book.ready ≡ true → is_empty (lone_run op m turns).book.ready ≡ true
unfolding lone_run
stays_empty op m zero e = e
stays_empty op m (suc turns) e = ap (λ (b : Bool). is_empty (Machine.book (if b then m else lone_run op (turn op m 0) turns)).ready) e ∙ e

pub diamond_ends : (table : RowMap) (turns : ℕ) → HasPreciseRows flow_tables table → is_empty (played (discharge_operator net) (diamond table) 2 (alternating 50) turns).machine.book.ready ≡ true
unfolding played
diamond_ends table turns h = stays_empty (discharge_operator net) (drained (discharge_operator net) (diamond table) 2 (alternating 50)).machine turns (nothing_ready table (λ i first second. h first second i))

-- The run of a loop over its rooms is the loop's run by its schedule.
use Rattle.std.proofs.Common.{◌≡◌, false, ℕ, suc, ◌+◌, ◌^◌, ◌<◌, Option, IfOk, Result, Ok, Err, List, [], ◌∷◌, map, slice_get, refl, sym, ap, subst, ◌∙◌, arith}
use Rattle.std.specs.List.{All}
use Rattle.gx_base.specs.Plans.{Operator}
use Rattle.commit_book.specs.BookViews.{new_book}
use Rattle.speculation.specs.Events.{Turn}
use Rattle.speculation.specs.Limits.{Limit}
use Rattle.speculation.specs.Machines.{Machine}
use Rattle.speculation.specs.ScheduledRuns.{AllBelow}
use Rattle.schedules.specs.Draws.{scheduled_turns}
use Rattle.rooms.specs.RoomsViews.{is_room_held}
use Rattle.rooms.specs.Values.{tells}
use Rattle.rooms.specs.Visits.{Visits, AreGatesAndBook, view_of}
use Rattle.rooms.specs.declared.values.Value.{Value}
use Rattle.iterate.specs.Plays.{AreNewFor, IsPlayed, PassesFirst, begun_machine}
use Rattle.run_words.specs.declared.options.RunOptions.{RunOptions}
use Rattle.loop_runs.specs.GateTables.{GateTables}
use Rattle.loop_runs.specs.LoopRuns.{Loop, IsRunPast, loop_machine}
use Rattle.loop_runs.specs.LoopRooms.{AreValuesOf, IsLoopPlayed}
use Rattle.loop_runs.proofs.LoopRooms.{begun_is, are_new, gates_and_book, empty_past}

-- ---- rooms of values, which nobody holds yet

module _ {T S : Type 0} (made : Visits (Value T S)) (values : List (Value T S)) (is : made ≡ record { values = values; moves = [] }) where
  pub told_is : (view_of tells made).told ≡ slice_get values
  told_is = ap (λ (x : Visits (Value T S)). (view_of tells x).told) is

  pub rooms_unheld : (room : ℕ) → is_room_held (view_of tells made) room ≡ false
  rooms_unheld room = ap (λ (x : Visits (Value T S)). is_room_held (view_of tells x) room) is

  pub new_in_rooms : (op : Operator) → AreNewFor op (slice_get values) → AreNewFor op (view_of tells made).told
  new_in_rooms op new = subst (λ (told : ℕ → Option (Value T S)). AreNewFor op told) (sym told_is) new

  -- the machine of the rooms is that of the values
  pub played_of : (op : Operator) (rooms workers : ℕ) (schedule : List ℕ) (trace : List Turn) (after : ℕ → Option (Value T S))
      → IsPlayed op (begun_machine rooms (view_of tells made).told) workers schedule trace after → IsPlayed op (begun_machine rooms (slice_get values)) workers schedule trace after
  played_of op rooms workers schedule trace after played = subst (λ (told : ℕ → Option (Value T S)). IsPlayed op (begun_machine rooms told) workers schedule trace after) told_is played

  pub past_of : (op : Operator) (rooms workers : ℕ) (schedule : List ℕ) (passed : Limit)
      → PassesFirst op (begun_machine rooms (view_of tells made).told) workers schedule passed → PassesFirst op (begun_machine rooms (slice_get values)) workers schedule passed
  past_of op rooms workers schedule passed first = subst (λ (told : ℕ → Option (Value T S)). PassesFirst op (begun_machine rooms told) workers schedule passed) told_is first

pub all_below : (schedule : List ℕ) (workers : ℕ) → All (λ worker. worker < workers) schedule → AllBelow schedule workers
all_below [] workers all = tt
all_below (worker ∷ schedule) workers all = (all 0 0 (omega arith), all_below schedule workers (λ k d l. all (suc k) d (omega arith)))

-- ---- a loop's values, and an operator that is the loop's

module _ {T S : Type 0} (options : RunOptions) (tables : GateTables) (loop : Loop) (values : List (Value T S)) (are : AreValuesOf tables loop values) where
  pub kinds_are : AreGatesAndBook (map tells values)
  kinds_are = subst (λ (all : List (Value T S)). AreGatesAndBook (map tells all)) (sym are.are) (gates_and_book T S tables (new_book loop.operator.ordered loop.ready) are.states)

  new_for_loop : loop.operator.rooms + 1 < 2 ^ 32 → AreNewFor loop.operator (slice_get values)
  new_for_loop few =
      subst (λ (all : List (Value T S)). AreNewFor loop.operator (slice_get all)) (sym are.are) (are_new T S tables (new_book loop.operator.ordered loop.ready) loop.operator are.states few refl refl refl are.count)

  pub new_for : (op : Operator) → op ≡ loop.operator → loop.operator.rooms + 1 < 2 ^ 32 → AreNewFor op (slice_get values)
  new_for op same few = subst (λ (o : Operator). AreNewFor o (slice_get values)) (sym same) (new_for_loop few)

  machine_is : begun_machine loop.operator.rooms (slice_get values) ≡ loop_machine loop tables
  machine_is =
      ap (λ (all : List (Value T S)). begun_machine loop.operator.rooms (slice_get all)) are.are
      ∙ begun_is T S tables (new_book loop.operator.ordered loop.ready) loop are.states refl are.count are.are_first

  pub is_played : (op : Operator) → op ≡ loop.operator → (trace : List Turn) (after : ℕ → Option (Value T S))
      → IsPlayed op (begun_machine op.rooms (slice_get values)) options.workers (scheduled_turns options.seed options.workers options.turns) trace after → IsLoopPlayed options tables loop trace after
  is_played op same trace after played = record {
    empty_past = empty_past loop are.states are.count are.are_first;
    is_played =
        subst (λ (m : Machine). IsPlayed loop.operator m options.workers (scheduled_turns options.seed options.workers options.turns) trace after) machine_is
        (subst (λ (o : Operator). IsPlayed o (begun_machine o.rooms (slice_get values)) options.workers (scheduled_turns options.seed options.workers options.turns) trace after) same played);
  }

  pub is_past : (op : Operator) → op ≡ loop.operator → (passed : Limit)
      → PassesFirst op (begun_machine op.rooms (slice_get values)) options.workers (scheduled_turns options.seed options.workers options.turns) passed → IsRunPast options tables loop passed
  is_past op same passed first =
      let moved : PassesFirst loop.operator (loop_machine loop tables) options.workers (scheduled_turns options.seed options.workers options.turns) passed =
      subst (λ (m : Machine). PassesFirst loop.operator m options.workers (scheduled_turns options.seed options.workers options.turns) passed) machine_is
      (subst (λ (o : Operator). PassesFirst o (begun_machine o.rooms (slice_get values)) options.workers (scheduled_turns options.seed options.workers options.turns) passed) same first) in
      record { turns = moved.0; passes = moved.1 }

-- what is known of an answer that is passed on
pub of_answer : {A E : Type 0} (P Q : A → Type 0) (r : Result A E) → ((a : A) → P a → Q a) → IfOk r P → IfOk r Q
of_answer P Q (Ok a) f h = f a h
of_answer P Q (Err e) f h = tt

-- The rooms of a loop's run, before it and after it.
use Rattle.std.specs.Prelude.{◌≡◌, ℕ, ◌≤◌, List, [], ◌∷◌, ◌++◌, Option, length, map}
use Rattle.gx_base.specs.Replays.{in_rooms, no_state}
use Rattle.gx_base.specs.States.{State}
use Rattle.commit_book.specs.BookViews.{BookView, new_book}
use Rattle.speculation.specs.Events.{Turn}
use Rattle.schedules.specs.Draws.{scheduled_turns}
use Rattle.rooms.specs.declared.values.Value.{Value}
use Rattle.rooms.specs.declared.values.Value.TheVariants.{Object, Book}
use Rattle.iterate.specs.Plays.{IsPlayed}
use Rattle.run_words.specs.declared.options.RunOptions.{RunOptions}
use Rattle.loop_runs.specs.GateTables.{GateTables}
use Rattle.loop_runs.specs.LoopRuns.{Loop, loop_machine, new_gate}

-- a gate over each state
abbrev pub gates_over : {T S : Type 0} → GateTables → List State → List (Value T S)
gates_over tables states = map (λ state. Object (new_gate tables state)) states

-- gates over the states at the start, and then the book
pub record AreValuesOf {T S : Type 0} (tables : GateTables) (loop : Loop) (values : List (Value T S)) : Type 0 where
  pub states : List State
  pub count : length states ≡ loop.operator.rooms
  pub are_first : in_rooms states ≡ loop.states
  pub are : values ≡ gates_over tables states ++ Book (new_book loop.operator.ordered loop.ready) ∷ []

-- the loop was run by its schedule, and left these turns and these values
pub record IsLoopPlayed {T S : Type 0} (options : RunOptions) (tables : GateTables) (loop : Loop) (trace : List Turn) (values : ℕ → Option (Value T S)) : Type 0 where
  pub empty_past : (room : ℕ) → loop.operator.rooms ≤ room → loop.states room ≡ no_state
  pub is_played : IsPlayed loop.operator (loop_machine loop tables) options.workers (scheduled_turns options.seed options.workers options.turns) trace values

-- the states of the gates among values
abbrev pub states_in : {T S : Type 0} → List (Value T S) → List State
states_in [] = []
states_in (Object gate ∷ values) = gate.state ∷ states_in values
states_in (Book book ∷ values) = states_in values

-- the last book among values, and this one where there is none
abbrev pub last_book : {T S : Type 0} → BookView → List (Value T S) → BookView
last_book book [] = book
last_book book (Object gate ∷ values) = last_book book values
last_book book (Book other ∷ values) = last_book other values

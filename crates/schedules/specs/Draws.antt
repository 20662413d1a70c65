-- Numbers that a seed draws, and the turns of workers.
use Rattle.std.specs.Prelude.{ℕ, zero, suc, ◌+◌, ◌*◌, ◌/◌, ◌%◌, ◌^◌, ◌==◌, if◌then◌else◌, List, map}
use Rattle.std.specs.List.{range_with_len}

-- the state after a state
unfoldable pub next_draw_state : ℕ → ℕ
next_draw_state x = (6364136223846793005 * x + 1442695040888963407) % 2 ^ 64

-- the state after so many steps, where the first one is the seed
unfoldable pub state_after : ℕ → ℕ → ℕ
state_after seed zero = seed
state_after seed (suc k) = next_draw_state (state_after seed k)

-- number k of the seed, from 0: the upper bits of the state after k + 1 steps
unfoldable pub draw : ℕ → ℕ → ℕ
draw seed k = state_after seed (suc k) / 2 ^ 33

-- the worker of turn k: in turn for the seed 0, and drawn for every other
unfoldable pub sched : ℕ → ℕ → ℕ → ℕ
sched seed k workers = if seed == 0 then k % workers else draw seed k % workers

-- the workers of so many turns
abbrev pub scheduled_turns : ℕ → ℕ → ℕ → List ℕ
scheduled_turns seed workers turns = map (λ k. sched seed k workers) (range_with_len 0 turns)

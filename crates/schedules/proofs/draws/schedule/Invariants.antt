use Rattle.std.proofs.Common.{◌≡◌, ℕ, ◌<◌}
use Rattle.std.specs.List.{All}
use Rattle.schedules.specs.Draws.{state_after, scheduled_turns}
use Rattle.schedules.proofs.draws.schedule.Given as goal

abbrev pub invariant-loop-turn : goal.invariant-loop-turn
invariant-loop-turn l =
    record { state : l.state ≡ state_after l.seed l.turn; turns : l.all.items ≡ scheduled_turns l.seed l.workers l.turn; within : All (λ (worker : ℕ). worker < l.workers) l.all.items }

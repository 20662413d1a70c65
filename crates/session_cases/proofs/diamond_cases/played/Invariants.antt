use Rattle.speculation.specs.ScheduledRuns.{AllBelow}
use Rattle.session_cases.proofs.diamond_cases.played.Given as goal

abbrev pub invariant-loop-turn : goal.invariant-loop-turn
invariant-loop-turn l = AllBelow l.schedule.items 2

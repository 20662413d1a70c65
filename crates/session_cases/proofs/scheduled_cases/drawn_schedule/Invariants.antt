use Rattle.speculation.specs.ScheduledRuns.{AllBelow}
use Rattle.session_cases.proofs.scheduled_cases.drawn_schedule.Given as goal

abbrev pub invariant-loop : goal.invariant-loop
invariant-loop l = AllBelow l.schedule.items l.workers

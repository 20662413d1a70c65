use Rattle.std.proofs.Common.{sym, subst}
use Rattle.speculation.specs.ScheduledRuns.{AllBelow}
use Rattle.session_cases.proofs.NewRooms.{below_push}
use Rattle.session_cases.proofs.networks.add_turn.Goals as goal

pub returns : goal.returns
returns c = subst (λ xs. AllBelow xs c.args.workers) (sym c.in_ok-push.ensures.items) (below_push c.args.schedule.now.items c.args.worker c.args.workers c.requires.all c.requires.below)

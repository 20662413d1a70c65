use Rattle.sessions.proofs.GateVisits.{value_may_be_left}
use Rattle.sessions.proofs.entering.leave_value.Goals as goal

pub leave-requires-clause-value : goal.leave-requires-clause-value
leave-requires-clause-value g c = value_may_be_left (g.R.Rooms.view c.args.rooms.now) c.args.room c.args.value c.requires.gate c.requires.in_range c.requires.mark

use Rattle.sessions.proofs.GateVisits.{handed_gates}
use Rattle.sessions.proofs.entering.enter_value.Goals as goal

pub returns-clause-is_gate : goal.returns-clause-is_gate
returns-clause-is_gate g c = handed_gates (g.R.Rooms.view c.args.rooms.now) c.args.room c.try_enter.result c.requires.in_range c.try_enter.ensures.value

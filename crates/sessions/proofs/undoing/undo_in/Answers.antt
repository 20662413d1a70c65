use Rattle.std.proofs.Common.{◌∙◌}
use Rattle.rooms.specs.RoomsViews.{left}
use Rattle.rooms.specs.Values.{tells}
use Rattle.rooms.specs.declared.values.Value.TheVariants.{Object}
use Rattle.sessions.proofs.undoing.undo_in.Goals as goal

pub returns-in-Some-clause-visited : goal.returns-in-Some-clause-visited
returns-in-Some-clause-visited g c = λ e. (
  c.in-Some.gate,
  record { handed = c.in-Some.ensures.gate; visit = c.leave_gate.ensures.view ∙ (λ i. left tells (c.in-Some.ensures.some i) c.args.room (Object (c.undo_last.ensures.new i))) },
)

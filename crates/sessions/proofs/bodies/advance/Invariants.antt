use Rattle.std.proofs.Common.{◌≡◌}
use Rattle.speculation.specs.Sessions.{Session, ahead}
use Rattle.sessions.proofs.bodies.advance.Given as goal

-- the body comes to the same from here
abbrev pub invariant-loop-room : goal.invariant-loop-room
invariant-loop-room g l = (s : Session) → ahead s (g.O.Operator.rest l.op l.fn.st l.fn.last) l.fn.pushes.items ≡ ahead s (g.O.Operator.rest l.op l.st l.reply) l.pushes.items

abbrev pub decreases-loop-room : goal.decreases-loop-room
decreases-loop-room g l = g.O.Operator.to_go l.op l.st

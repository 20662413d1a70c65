use Rattle.std.proofs.Common.{arith}
use Rattle.sessions.proofs.UndoTurns.{popped}
use Rattle.sessions.proofs.undoing.drop_last.Goals as goal

pub returns : goal.returns
returns c = popped c.args.log.now.items c.pop.new.self.items c.pop.result c.pop.ensures.items (λ l. c.pop.ensures.variant.1 (omega (arith, c.args.log.now.ok.0)))

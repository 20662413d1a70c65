use Rattle.std.proofs.Common.{◌∙◌}
use Rattle.session_cases.proofs.ScriptMoves.{act_read}
use Rattle.session_cases.proofs.scripts.Scripts.act_at.Goals as goal

pub returns-in-Some : goal.returns-in-Some
returns-in-Some c = c.within.ensures ∙ act_read c.args.self.now.rooms c.deref.result.now c.args.self.now.acts.items c.args.at c.in-Some.act.now c.deref.ensures.value c.in-Some.ensures.lookup.3.0 c.in-Some.ensures.lookup.1

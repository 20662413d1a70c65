use Rattle.std.proofs.Common.{arith}
use Rattle.session_cases.proofs.ScriptMoves.{script_moves}
use Rattle.session_cases.proofs.scripts.ScriptsOperator.next.Goals as goal

pub returns : goal.returns
returns c =
    let acts = c.args.self.now.acts in
    let small = acts.small in
    let ok = acts.ok in
    script_moves c.args.self.now.rooms acts.items c.args.place.now.at c.saturating_add-place.result c.act_at-act.result c.args._last (omega arith) c.act_at-act.ensures c.saturating_add-place.ensures

use Rattle.std.proofs.Common.{◌≡◌, refl, sym, ◌∙◌, rules, to_z, of_z}
use Rattle.std.proofs.lemmas.Int.{to_z-of_z}
use Rattle.std.specs.Int.{w64}
use Rattle.preflow_push.specs.FlowCalls.{flow_method, relabel_method}
use Rattle.preflow_push.proofs.moves.DischargeMoves.{call_along, next_arc, rises, stays}
use Rattle.preflow_push.proofs.discharge.Discharge.go_on.Goals as goal

pub returns-in-Some-default : goal.returns-in-Some-default
returns-in-Some-default c =
    next_arc c.args.self.now c.args.walk c.in-Some-default.arc c.call_act.result (sym c.arc_at.ensures.arc ∙ c.in-Some-default.is-0)
    (call_along c.call_act.result flow_method _ c.in-Some-default.arc.number _ _ (to_z-of_z w64 c.in-Some-default.arc.number (search rules)) refl c.call_act.ensures)

pub returns-in-None-Some : goal.returns-in-None-Some
returns-in-None-Some c =
    let node : to_z w64 (of_z w64 c.args.walk.node) ≡ c.args.walk.node = to_z-of_z w64 c.args.walk.node (search rules) in
    rw node (rises c.args.self.now c.args.walk c.in-None-Some.least c.call_act-in-None-Some.result (sym c.arc_at.ensures.arc ∙ c.in-None-Some.is-0) c.in-None-Some.is-1
    (call_along c.call_act-in-None-Some.result relabel_method _ c.args.walk.node _ _ node refl c.call_act-in-None-Some.ensures))

pub returns-in-None-None : goal.returns-in-None-None
returns-in-None-None c = stays c.args.self.now c.args.walk (sym c.arc_at.ensures.arc ∙ c.in-None-None.is-0) c.in-None-None.is-1

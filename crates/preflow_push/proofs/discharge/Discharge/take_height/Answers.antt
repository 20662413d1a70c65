use Rattle.std.proofs.Common.{◌≡◌, ℤ, Some, ap, ◌∙◌, subst, rules, to_z, of_z}
use Rattle.std.proofs.lemmas.Int.{to_z-of_z}
use Rattle.std.specs.Int.{w64, int_min}
use Rattle.preflow_push.specs.FlowCalls.{send_method}
use Rattle.preflow_push.specs.Discharge.{lesser, sent_along}
use Rattle.preflow_push.specs.Discharges.{MovesTo, onward_of, acts_onward}
use Rattle.preflow_push.proofs.moves.DischargeMoves.{call_along, not_just_above, just_above}
use Rattle.preflow_push.proofs.discharge.Discharge.take_height.Goals as goal

pub returns-then-not-is_just_above : goal.returns-then-not-is_just_above
returns-then-not-is_just_above c =
    let own : to_z w64 (of_z w64 c.args.walk.height) ≡ c.args.walk.height = to_z-of_z w64 c.args.walk.height (search rules) in
    let height : to_z w64 (of_z w64 c.args.height) ≡ c.args.height = to_z-of_z w64 c.args.height c.ranges.height in
    let least : to_z w64 (of_z w64 c.lesser.result) ≡ lesser c.args.walk.least c.args.height = to_z-of_z w64 c.lesser.result (search rules) ∙ c.lesser.ensures ∙ ap (λ (k : ℤ). lesser c.args.walk.least k) height in
    not_just_above c.args.self.now c.args.walk c.args.arc c.args.residual c.args.height _ _ (cc)
    (subst (λ (k : ℤ). MovesTo c.args.self.now (onward_of c.args.self.now c.args.walk c.args.walk.excess (Some k)) (acts_onward c.args.self.now c.args.walk) c.go_on.result.0 c.go_on.result.1) least c.go_on.ensures)

pub returns : goal.returns
returns c =
    let own : to_z w64 (of_z w64 c.args.walk.height) ≡ c.args.walk.height = to_z-of_z w64 c.args.walk.height (search rules) in
    let height : to_z w64 (of_z w64 c.args.height) ≡ c.args.height = to_z-of_z w64 c.args.height c.ranges.height in
    let excess : to_z w64 (of_z w64 c.args.walk.excess) ≡ c.args.walk.excess = to_z-of_z w64 c.args.walk.excess (search rules) in
    let residual : to_z w64 (of_z w64 c.args.residual) ≡ c.args.residual = to_z-of_z w64 c.args.residual c.ranges.residual in
    let number : to_z w64 (of_z w64 c.args.arc.number) ≡ c.args.arc.number = to_z-of_z w64 c.args.arc.number (search rules) in
    let amount : to_z w64 (of_z w64 c.min-amount.result) ≡ c.min-amount.result = to_z-of_z w64 c.min-amount.result (search rules) in
    let sent : to_z w64 (of_z w64 c.sent_along.result) ≡ c.sent_along.result = to_z-of_z w64 c.sent_along.result (search rules) in
    rw amount (just_above c.args.self.now c.args.walk c.args.arc c.args.residual c.args.height c.min-amount.result c.call_act.result (cc)
    (c.min-amount.ensures.value ∙ ap (λ (e : ℤ). int_min e (to_z w64 (of_z w64 c.args.residual))) excess ∙ ap (λ (r : ℤ). int_min c.args.walk.excess r) residual)
    (call_along c.call_act.result send_method _ c.args.arc.number _ _ number (sent ∙ c.sent_along.ensures ∙ ap (λ (x : ℤ). sent_along c.args.arc x) amount) c.call_act.ensures))

use Rattle.std.proofs.Common.{◌≡◌, ℤ, refl, ap, ◌∙◌, rules, to_z, of_z}
use Rattle.std.proofs.lemmas.Int.{to_z-of_z}
use Rattle.std.specs.Int.{w64}
use Rattle.preflow_push.specs.FlowCalls.{height_method}
use Rattle.preflow_push.specs.Discharge.{residual}
use Rattle.preflow_push.proofs.moves.DischargeMoves.{call_along, no_residual, some_residual}
use Rattle.preflow_push.proofs.discharge.Discharge.take_flow.Goals as goal

pub returns-then-residual-le0 : goal.returns-then-residual-le0
returns-then-residual-le0 c =
    let flow : to_z w64 (of_z w64 c.args.flow) ≡ c.args.flow = to_z-of_z w64 c.args.flow c.ranges.flow in
    let left : to_z w64 (of_z w64 c.residual-residual.result) ≡ c.residual-residual.result = to_z-of_z w64 c.residual-residual.result (search rules) in
    no_residual c.args.self.now c.args.walk c.args.arc c.args.flow _ _ (cc) c.go_on.ensures

pub returns : goal.returns
returns c =
    let flow : to_z w64 (of_z w64 c.args.flow) ≡ c.args.flow = to_z-of_z w64 c.args.flow c.ranges.flow in
    let left : to_z w64 (of_z w64 c.residual-residual.result) ≡ c.residual-residual.result = to_z-of_z w64 c.residual-residual.result (search rules) in
    let other : to_z w64 (of_z w64 c.args.arc.other) ≡ c.args.arc.other = to_z-of_z w64 c.args.arc.other (search rules) in
    rw left (some_residual c.args.self.now c.args.walk c.args.arc c.args.flow c.residual-residual.result c.call_act.result
    (c.residual-residual.ensures ∙ ap (λ (f : ℤ). residual c.args.arc f) flow) (cc) (call_along c.call_act.result height_method _ c.args.arc.other _ _ other refl c.call_act.ensures))

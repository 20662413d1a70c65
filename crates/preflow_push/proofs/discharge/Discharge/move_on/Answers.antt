use Rattle.std.proofs.Common.{◌≡◌, ℤ, sym, subst, rules, to_z, of_z}
use Rattle.std.proofs.lemmas.Int.{to_z-of_z}
use Rattle.std.specs.Int.{w64}
use Rattle.gx_base.specs.declared.acts.Act.{Act}
use Rattle.preflow_push.specs.declared.stages.Stage.{Stage}
use Rattle.preflow_push.specs.declared.stages.Stage.TheVariants as stages
use Rattle.preflow_push.specs.declared.discharge.Discharge.{Discharge}
use Rattle.preflow_push.specs.Stages.{rest_at}
use Rattle.preflow_push.specs.Discharges.{MovesTo, ends_of, lists_of, acts_of}
use Rattle.preflow_push.proofs.discharge.Discharge.move_on.Goals as goal

-- a move from a stage is one from the same stage, and by the same value
moves_along : (d : Discharge) (p q : Stage) (v w : ℤ) (act : Act) (to : Stage) → p ≡ q → w ≡ v
    → MovesTo d (rest_at (ends_of d) (lists_of d) q w) (acts_of d q) act to → MovesTo d (rest_at (ends_of d) (lists_of d) p v) (acts_of d p) act to
moves_along d p q v w act to e f moves =
    subst (λ (x : ℤ). MovesTo d (rest_at (ends_of d) (lists_of d) p x) (acts_of d p) act to) f
    (subst (λ (x : Stage). MovesTo d (rest_at (ends_of d) (lists_of d) x w) (acts_of d x) act to) (sym e) moves)

pub returns-in-AfterFlow : goal.returns-in-AfterFlow
returns-in-AfterFlow c =
    moves_along c.args.self.now c.args.stage (stages.AfterFlow c.in-AfterFlow.walk c.in-AfterFlow.arc) c.args.value _ c.take_flow.result.0 c.take_flow.result.1
    c.in-AfterFlow.is (to_z-of_z w64 c.args.value c.ranges.value) c.take_flow.ensures

pub returns-in-AfterOther : goal.returns-in-AfterOther
returns-in-AfterOther c =
    let residual : to_z w64 (of_z w64 c.in-AfterOther.residual) ≡ c.in-AfterOther.residual = to_z-of_z w64 c.in-AfterOther.residual (search rules) in
    moves_along c.args.self.now c.args.stage (stages.AfterOther c.in-AfterOther.walk c.in-AfterOther.arc c.in-AfterOther.residual) c.args.value (to_z w64 (of_z w64 c.args.value)) c.take_height.result.0 c.take_height.result.1
    c.in-AfterOther.is (to_z-of_z w64 c.args.value c.ranges.value)
    (subst (λ (r : ℤ). MovesTo c.args.self.now (rest_at (ends_of c.args.self.now) (lists_of c.args.self.now) (stages.AfterOther c.in-AfterOther.walk c.in-AfterOther.arc r) (to_z w64 (of_z w64 c.args.value))) (acts_of c.args.self.now (stages.AfterOther c.in-AfterOther.walk c.in-AfterOther.arc r)) c.take_height.result.0 c.take_height.result.1) residual c.take_height.ensures)

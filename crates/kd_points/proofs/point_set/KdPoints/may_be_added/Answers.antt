use Rattle.std.proofs.Common.{FitsSigned, to_z, of_z, w64, rules, ◌∙◌}
use Rattle.std.proofs.lemmas.Int.{to_z-of_z}
use Rattle.gx_base.specs.PointKind.{may_add}
use Rattle.kd_points.proofs.calls.Turns.{free_row, taken_row}
use Rattle.kd_points.proofs.point_set.KdPoints.may_be_added.Goals as goal

pub returns-in-None : goal.returns-in-None
returns-in-None c =
    let f : FitsSigned w64 c.args.call.a = search rules in
    c.is_addable.ensures ∙ free_row c.args.self.now.tree c.args.call.a (to_z w64 (of_z w64 c.args.call.a)) c.at.result (may_add c.args.call) (to_z-of_z w64 c.args.call.a f) c.at.ensures c.in-None.is

pub returns-in-Some : goal.returns-in-Some
returns-in-Some c =
    let f : FitsSigned w64 c.args.call.a = search rules in
    taken_row c.args.self.now.tree c.args.call.a (to_z w64 (of_z w64 c.args.call.a)) c.at.result _ (may_add c.args.call) (to_z-of_z w64 c.args.call.a f) c.at.ensures c.in-Some.is

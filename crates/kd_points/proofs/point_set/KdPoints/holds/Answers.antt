use Rattle.std.proofs.Common.{FitsSigned, to_z, of_z, w64, rules, ◌∷◌, [], ◌∙◌}
use Rattle.std.proofs.lemmas.Int.{to_z-of_z}
use Rattle.kd_points.proofs.calls.Turns.{missing_row, found_row}
use Rattle.kd_points.proofs.point_set.KdPoints.holds.Goals as goal

pub returns-in-None : goal.returns-in-None
returns-in-None c =
    let f : FitsSigned w64 c.args.call.a = search rules in
    missing_row c.args.self.now.tree c.args.call.a (to_z w64 (of_z w64 c.args.call.a)) c.at.result (c.args.call.b ∷ c.args.call.c ∷ c.args.call.d ∷ []) (to_z-of_z w64 c.args.call.a f) c.at.ensures c.in-None.is

pub returns-in-Some : goal.returns-in-Some
returns-in-Some c =
    let f : FitsSigned w64 c.args.call.a = search rules in
    c.is_at.ensures ∙ found_row c.args.self.now.tree c.args.call.a (to_z w64 (of_z w64 c.args.call.a)) c.at.result c.in-Some.point (c.args.call.b ∷ c.args.call.c ∷ c.args.call.d ∷ []) (to_z-of_z w64 c.args.call.a f) c.at.ensures c.in-Some.is

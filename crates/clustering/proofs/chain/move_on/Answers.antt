use Rattle.std.proofs.Common.{rules}
use Rattle.std.proofs.lemmas.Int.{to_z-of_z}
use Rattle.std.specs.Int.{w64}
use Rattle.clustering.proofs.moves.ChainMoves.{moves_weighed}
use Rattle.clustering.proofs.chain.move_on.Goals as goal

pub returns-in-AfterSecondWeight : goal.returns-in-AfterSecondWeight
returns-in-AfterSecondWeight c =
    moves_weighed c.args.stage c.args.reply c.in-AfterSecondWeight.id _ c.in-AfterSecondWeight.weight _ _ c.in-AfterSecondWeight.first c.in-AfterSecondWeight.second
    c.with_weights.result.0 c.with_weights.result.1 c.in-AfterSecondWeight.is
    (to_z-of_z w64 c.in-AfterSecondWeight.id (search rules)) (to_z-of_z w64 c.in-AfterSecondWeight.weight (search rules)) (to_z-of_z w64 c.args.reply.p (search rules)) c.with_weights.ensures

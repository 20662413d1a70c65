use Rattle.std.proofs.Common.{sym, ◌∙◌}
use Rattle.std.proofs.lemmas.Int.{to_z-of_z}
use Rattle.std.specs.Int.{w64}
use Rattle.clustering.proofs.moves.ChainMoves.{finds}
use Rattle.clustering.proofs.chain.with_nearest.Goals as goal

pub returns : goal.returns
returns c =
    finds c.args.id _ c.args.calls c.args.previous c.args.current c.spot_of.result c.args.reply c.going_to.result.0 c.going_to.result.1
    (to_z-of_z w64 c.args.id c.ranges.id) c.spot_of.ensures (sym c.is_none.ensures ∙ c.if-is_none.false) c.going_to.ensures

use Rattle.std.proofs.Common.{sym, ◌∙◌}
use Rattle.std.proofs.lemmas.Int.{to_z-of_z}
use Rattle.std.specs.Int.{w64}
use Rattle.clustering.proofs.moves.ChainMoves.{goes_back, goes_on}
use Rattle.clustering.proofs.chain.going_to.Goals as goal

pub returns-then-is_same : goal.returns-then-is_same
returns-then-is_same c =
    goes_back c.args.id _ c.args.calls c.args.previous c.in-Some.previous c.args.current c.args.next c.merging_both.result.0 c.merging_both.result.1
    (to_z-of_z w64 c.args.id c.ranges.id) c.in-Some.is (sym c.is_same.ensures ∙ c.if-is_same.true) c.merging_both.ensures

pub returns : goal.returns
returns c =
    goes_on c.args.id _ c.args.calls c.args.previous c.in-Some.previous c.args.current c.args.next c.chase-2.result.0 c.chase-2.result.1
    (to_z-of_z w64 c.args.id c.ranges.id) c.in-Some.is (sym c.is_same.ensures ∙ c.if-is_same.false) c.chase-2.ensures

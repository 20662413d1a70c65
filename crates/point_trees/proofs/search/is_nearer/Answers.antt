use Rattle.point_trees.proofs.searches.Takings.{takes_nearer, takes_no_farther}
use Rattle.point_trees.proofs.search.is_nearer.Goals as goal

pub returns-then-reach-best : goal.returns-then-reach-best
returns-then-reach-best c = takes_nearer c.args.q c.args.spot c.in-Some.other c.args.best.point c.args.reach c.args.best.reach c.in-Some.is c.requires.here c.requires.best c.if-reach-best.true

pub returns-then-best-reach : goal.returns-then-best-reach
returns-then-best-reach c = takes_no_farther c.args.q c.args.spot c.in-Some.other c.args.best.point c.args.reach c.args.best.reach c.in-Some.is c.requires.here c.requires.best c.if-best-reach.true

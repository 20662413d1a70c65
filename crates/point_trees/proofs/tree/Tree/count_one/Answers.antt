use Rattle.std.proofs.Common.{arith}
use Rattle.point_trees.specs.TreeStates.{node_at}
use Rattle.point_trees.proofs.states.Counts.{count-most}
use Rattle.point_trees.proofs.tree.Tree.count_one.Goals as goal

pub prove-unreachable-requires : goal.prove-unreachable-requires
prove-unreachable-requires c =
    let most = count-most (node_at c.args.self.now) c.args.self.now.numbers.entries in
    omega arith

use Rattle.std.proofs.Common.{length, refl}
use Rattle.point_trees.proofs.rebuilds.Heights.{blank_balanced}
use Rattle.point_trees.proofs.rebuilds.Gathering.{blank_sound, made_from}
use Rattle.point_trees.proofs.rebuilds.Halves.{blank_new}
use Rattle.point_trees.proofs.tree.Tree.of_points.Goals as goal

pub insert_all-requires-clause-sound : goal.insert_all-requires-clause-sound
insert_all-requires-clause-sound c = blank_sound c.in_ok-tree.tree c.in_ok-tree.ensures

pub insert_all-requires-clause-new : goal.insert_all-requires-clause-new
insert_all-requires-clause-new c = blank_new c.in_ok-tree.tree c.args.spots.now c.args.spots.now c.in_ok-tree.ensures c.requires refl

pub returns : goal.returns
returns c =
    made_from c.in_ok-tree.tree c.insert_all.new.self c.settle.new.self c.args.spots.now c.in_ok-tree.ensures c.in_ok-insert_all.ensures.sound c.in_ok-insert_all.ensures.ok
    (blank_balanced c.in_ok-tree.tree c.insert_all.new.self (length c.args.spots.now) c.in_ok-tree.ensures c.in_ok-insert_all.ensures.low) c.settle.ensures

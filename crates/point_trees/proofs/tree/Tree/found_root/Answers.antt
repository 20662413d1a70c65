use Rattle.std.proofs.Common.{◌≤◌, Some, arith, rules, sym, ◌∙◌, ap, subst}
use Rattle.point_trees.specs.declared.tree.Tree.{Tree}
use Rattle.point_trees.specs.Trees.{FitsSpot}
use Rattle.point_trees.specs.declared.nodes.Seat.TheVariants.{Empty}
use Rattle.point_trees.specs.TreeStates.{place, dead_nodes, has_node, IsPlanted, HangsBelow}
use Rattle.point_trees.proofs.trees.Changes.{Changed}
use Rattle.point_trees.proofs.trees.Hung.{alike_sound, no_more_dead, rooted_from, rooted_below, below_counted}
use Rattle.point_trees.proofs.tree.Tree.found_root.Goals as goal

pub returns-in_err-key-clause-sound : goal.returns-in_err-key-clause-sound
returns-in_err-key-clause-sound c = alike_sound c.args.self.now c.plant.new.self c.in_err-key.ensures.err c.requires.sound

pub count_one-requires : goal.count_one-requires
count_one-requires c =
    let fits : FitsSpot c.args.spot = search rules in
    (rooted_from c.args.self.now c.plant.new.self c.args.spot c.args.axis c.in_ok-key.key c.requires.sound c.requires.free c.requires.empty (subst (IsPlanted c.args.self.now c.plant.new.self c.in_ok-key.key) c.leaf.ensures c.in_ok-key.ensures.ok) fits).counted

pub returns : goal.returns
returns c =
    let fits : FitsSpot c.args.spot = search rules in
    let g = rooted_from c.args.self.now c.plant.new.self c.args.spot c.args.axis c.in_ok-key.key c.requires.sound c.requires.free c.requires.empty (subst (IsPlanted c.args.self.now c.plant.new.self c.in_ok-key.key) c.leaf.ensures c.in_ok-key.ensures.ok) fits in
    let w : Changed c.args.self.now c.count_one.new.self c.args.spot.id (Some (place c.args.spot)) =
    subst (λ (t : Tree). Changed c.args.self.now t c.args.spot.id (Some (place c.args.spot))) (sym c.count_one.ensures) g.changed in
    let b = rooted_below c.args.self.now c.plant.new.self c.args.spot c.args.axis c.in_ok-key.key c.requires.empty (subst (IsPlanted c.args.self.now c.plant.new.self c.in_ok-key.key) c.leaf.ensures c.in_ok-key.ensures.ok) in
    record { sound = w.sound; ok = w.state; room = ap (λ (t : Tree). has_node t c.args.spot) c.count_one.ensures ∙ g.held; dead = subst (λ (t : Tree). dead_nodes t ≤ dead_nodes c.args.self.now) (sym c.count_one.ensures) (no_more_dead c.args.self.now (record c.plant.new.self { root = Some c.in_ok-key.key }) (let e = g.size in omega arith) g.live); below = subst (λ (t : Tree). HangsBelow c.args.self.now t Empty c.args.spot c.args.axis c.in_ok-key.key) (sym c.count_one.ensures) (below_counted c.args.self.now (record c.plant.new.self { root = Some c.in_ok-key.key }) Empty c.args.spot c.args.axis c.in_ok-key.key b); err = tt; refused = tt; kept = w.kept }

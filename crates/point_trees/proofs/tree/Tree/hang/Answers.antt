use Rattle.std.proofs.Common.{◌≤◌, Some, arith, rules, sym, ◌∙◌, ap, subst}
use Rattle.slab.specs.Slab.{Updates}
use Rattle.point_trees.specs.declared.nodes.Node.{Node}
use Rattle.point_trees.specs.declared.tree.Tree.{Tree}
use Rattle.point_trees.specs.Trees.{FitsSpot}
use Rattle.point_trees.specs.declared.nodes.Seat.TheVariants.{Free}
use Rattle.point_trees.specs.TreeStates.{place, dead_nodes, has_node, IsPlanted, HangsBelow}
use Rattle.point_trees.proofs.trees.Changes.{Changed}
use Rattle.point_trees.proofs.trees.Hung.{alike_sound, no_more_dead, hung_from, hung_below, below_counted}
use Rattle.point_trees.proofs.tree.Tree.hang.Goals as goal

pub returns-in_err-key-clause-sound : goal.returns-in_err-key-clause-sound
returns-in_err-key-clause-sound c = alike_sound c.args.self.now c.plant.new.self c.in_err-key.ensures.err c.requires.sound

pub count_one-requires : goal.count_one-requires
count_one-requires c =
    let fits : FitsSpot c.args.spot = search rules in
    (hung_from c.args.self.now c.plant.new.self c.rewrite.new.self c.args.spot c.args.axis c.in_ok-key.key c.args.at c.node_in-parent.result c.args.left c.requires.sound c.requires.free c.node_in-parent.ensures c.requires.seat
    (subst (IsPlanted c.args.self.now c.plant.new.self c.in_ok-key.key) c.leaf.ensures c.in_ok-key.ensures.ok)
    (subst (λ (n : Node). Updates c.plant.new.self.nodes c.rewrite.new.self.nodes c.args.at (Some n)) c.link.ensures c.rewrite.ensures.nodes) c.rewrite.ensures.count c.rewrite.ensures.rest fits c.requires.clear).counted

pub returns : goal.returns
returns c =
    let fits : FitsSpot c.args.spot = search rules in
    let g = hung_from c.args.self.now c.plant.new.self c.rewrite.new.self c.args.spot c.args.axis c.in_ok-key.key c.args.at c.node_in-parent.result c.args.left c.requires.sound c.requires.free c.node_in-parent.ensures c.requires.seat
    (subst (IsPlanted c.args.self.now c.plant.new.self c.in_ok-key.key) c.leaf.ensures c.in_ok-key.ensures.ok)
    (subst (λ (n : Node). Updates c.plant.new.self.nodes c.rewrite.new.self.nodes c.args.at (Some n)) c.link.ensures c.rewrite.ensures.nodes) c.rewrite.ensures.count c.rewrite.ensures.rest fits c.requires.clear in
    let w : Changed c.args.self.now c.count_one.new.self c.args.spot.id (Some (place c.args.spot)) =
    subst (λ (t : Tree). Changed c.args.self.now t c.args.spot.id (Some (place c.args.spot))) (sym c.count_one.ensures) g.changed in
    let b = hung_below c.args.self.now c.plant.new.self c.rewrite.new.self c.args.spot c.args.axis c.in_ok-key.key c.args.at c.node_in-parent.result c.args.left c.requires.sound c.requires.free c.node_in-parent.ensures c.requires.seat
    (subst (IsPlanted c.args.self.now c.plant.new.self c.in_ok-key.key) c.leaf.ensures c.in_ok-key.ensures.ok)
    (subst (λ (n : Node). Updates c.plant.new.self.nodes c.rewrite.new.self.nodes c.args.at (Some n)) c.link.ensures c.rewrite.ensures.nodes) c.rewrite.ensures.count c.rewrite.ensures.rest fits c.requires.clear in
    record { sound = w.sound; ok = w.state; room = ap (λ (t : Tree). has_node t c.args.spot) c.count_one.ensures ∙ g.held; dead = subst (λ (t : Tree). dead_nodes t ≤ dead_nodes c.args.self.now) (sym c.count_one.ensures) (no_more_dead c.args.self.now c.rewrite.new.self (let e = g.size in omega arith) g.live); below = subst (λ (t : Tree). HangsBelow c.args.self.now t (Free c.args.at c.args.left) c.args.spot c.args.axis c.in_ok-key.key) (sym c.count_one.ensures) (below_counted c.args.self.now c.rewrite.new.self (Free c.args.at c.args.left) c.args.spot c.args.axis c.in_ok-key.key b); err = tt; refused = tt; kept = w.kept }

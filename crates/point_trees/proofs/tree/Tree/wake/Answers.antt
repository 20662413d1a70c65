use Rattle.std.proofs.Common.{◌≡◌, ℕ, Some, to_z, of_z, w64, sym, ◌∙◌, ap, subst}
use Rattle.std.proofs.lemmas.Int.{to_z-of_z}
use Rattle.slab.specs.Slab.{slab_len}
use Rattle.gx_base.specs.declared.calls.Spot.{Spot}
use Rattle.point_trees.specs.declared.nodes.Node.{Node}
use Rattle.point_trees.specs.declared.tree.Tree.{Tree}
use Rattle.point_trees.specs.Trees.{FitsSpot}
use Rattle.point_trees.specs.TreeStates.{node_at, IsSound, place}
use Rattle.point_trees.proofs.trees.Changes.{Changed, woken_from}
use Rattle.point_trees.proofs.tree.Tree.wake.Goals as goal

fits : (old : Tree) (key : ℕ) (spot : Spot) → IsSound old → ((n : Node) × (node_at old key ≡ Some n) × (n.spot ≡ spot)) → to_z w64 (of_z w64 spot.id) ≡ spot.id
fits old key spot s there = let f : FitsSpot spot = subst FitsSpot there.2 (s.placed.fits key there.0 there.1) in to_z-of_z w64 spot.id f.0

pub count_one-requires : goal.count_one-requires
count_one-requires c =
    (woken_from c.args.self.now c.mark.new.self c.number.new.self c.args.spot c.args.key (to_z w64 (of_z w64 c.args.spot.id)) c.requires.sound c.requires.free c.requires.there (fits c.args.self.now c.args.key c.args.spot c.requires.sound c.requires.there)
    c.mark.ensures.nodes c.mark.ensures.count c.mark.ensures.rest c.number.ensures.keys c.number.ensures.rest c.requires.clear).0

pub returns : goal.returns
returns c =
    let w : Changed c.args.self.now c.count_one.new.self c.args.spot.id (Some (place c.args.spot)) =
    subst (λ (t : Tree). Changed c.args.self.now t c.args.spot.id (Some (place c.args.spot))) (sym c.count_one.ensures)
    (woken_from c.args.self.now c.mark.new.self c.number.new.self c.args.spot c.args.key (to_z w64 (of_z w64 c.args.spot.id)) c.requires.sound c.requires.free c.requires.there (fits c.args.self.now c.args.key c.args.spot c.requires.sound c.requires.there)
    c.mark.ensures.nodes c.mark.ensures.count c.mark.ensures.rest c.number.ensures.keys c.number.ensures.rest c.requires.clear).1 in
    record {
      sound = w.sound;
      state = w.state;
      kept = w.kept;
      counts = record {
        size = ap (λ (t : Tree). slab_len t.nodes) c.count_one.ensures ∙ ap (λ (t : Tree). slab_len t.nodes) c.number.ensures.rest ∙ c.mark.ensures.count;
        grown = ap (λ (t : Tree). t.grown) c.count_one.ensures ∙ ap (λ (t : Tree). t.grown) c.number.ensures.rest ∙ ap (λ (t : Tree). t.grown) c.mark.ensures.rest;
      };
    }

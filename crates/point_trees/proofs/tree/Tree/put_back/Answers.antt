use Rattle.std.proofs.Common.{None, Some, FitsSigned, w64, rules, ◌∙◌, ap}
use Rattle.std.proofs.lemmas.Int.{to_z-of_z}
use Rattle.gx_base.specs.States.{row_at, with_row}
use Rattle.gx_base.proofs.CallerLemmas.{row_at-same}
use Rattle.point_trees.specs.TreeStates.{place, tree_state}
use Rattle.point_trees.proofs.states.StateRows.{with_row-twice}
use Rattle.point_trees.proofs.tree.Tree.put_back.Goals as goal

pub wake-requires-clause-free : goal.wake-requires-clause-free
wake-requires-clause-free c =
    let f : FitsSigned w64 c.args.spot.id = search rules in
    ap (λ s. row_at s (0, c.args.spot.id)) (c.clear_way.ensures.state ∙ c.take_out.ensures.state ∙ ap (λ y. with_row (tree_state c.args.self.now) (0, y) None) (to_z-of_z w64 c.args.spot.id f)) ∙ row_at-same (tree_state c.args.self.now) (0, c.args.spot.id) None

pub returns-in-Found-clause-state : goal.returns-in-Found-clause-state
returns-in-Found-clause-state c =
    let f : FitsSigned w64 c.args.spot.id = search rules in
    c.wake.ensures.state
    ∙ ap (λ s. with_row s (0, c.args.spot.id) (Some (place c.args.spot))) (c.clear_way.ensures.state ∙ c.take_out.ensures.state ∙ ap (λ y. with_row (tree_state c.args.self.now) (0, y) None) (to_z-of_z w64 c.args.spot.id f))
    ∙ with_row-twice (tree_state c.args.self.now) (0, c.args.spot.id) None (Some (place c.args.spot))

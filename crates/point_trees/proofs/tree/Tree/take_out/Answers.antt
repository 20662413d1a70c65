use Rattle.std.proofs.Common.{◌≤◌, ℤ, to_z, of_z, w64, sym, ◌∙◌, ap, subst}
use Rattle.std.proofs.lemmas.Int.{to_z-of_z}
use Rattle.gx_base.specs.States.{with_row}
use Rattle.gx_base.proofs.CallerLemmas.{with_row-row_at}
use Rattle.point_trees.specs.declared.tree.Tree.{Tree}
use Rattle.point_trees.specs.TreeStates.{tree_state, NoPoint}
use Rattle.point_trees.proofs.trees.Changes.{one_there, taken_from}
use Rattle.point_trees.proofs.tree.Tree.take_out.Goals as goal

pub overflow_sub-self : goal.overflow_sub-self
overflow_sub-self c =
    subst (λ (t : Tree). 1 ≤ t.live) (sym c.mark.ensures.rest) (one_there c.args.self.now (to_z w64 (of_z w64 c.args.id)) c.in-Some.key c.requires c.in-Some.ensures.some)

pub bury-requires : goal.bury-requires
bury-requires c =
    (taken_from c.args.self.now c.mark.new.self c.args.id (to_z w64 (of_z w64 c.args.id)) c.in-Some.key c.requires (to_z-of_z w64 c.args.id c.ranges.id) c.in-Some.ensures.some c.mark.ensures.nodes c.mark.ensures.count c.mark.ensures.rest).sound

pub returns-in-Some-clause-state : goal.returns-in-Some-clause-state
returns-in-Some-clause-state c =
    c.bury.ensures.state
    ∙ (taken_from c.args.self.now c.mark.new.self c.args.id (to_z w64 (of_z w64 c.args.id)) c.in-Some.key c.requires (to_z-of_z w64 c.args.id c.ranges.id) c.in-Some.ensures.some c.mark.ensures.nodes c.mark.ensures.count c.mark.ensures.rest).state

pub returns-in-Some-clause-kept : goal.returns-in-Some-clause-kept
returns-in-Some-clause-kept c = λ r h.
    c.bury.ensures.kept r
    ((taken_from c.args.self.now c.mark.new.self c.args.id (to_z w64 (of_z w64 c.args.id)) c.in-Some.key c.requires (to_z-of_z w64 c.args.id c.ranges.id) c.in-Some.ensures.some c.mark.ensures.nodes c.mark.ensures.count c.mark.ensures.rest).kept r h)

pub returns-in-None-clause-state : goal.returns-in-None-clause-state
returns-in-None-clause-state c =
    let none : NoPoint c.args.self.now c.args.id = subst (λ (y : ℤ). NoPoint c.args.self.now y) (to_z-of_z w64 c.args.id c.ranges.id) c.in-None.ensures.none in
    sym (ap (with_row (tree_state c.args.self.now) (0, c.args.id)) (sym none) ∙ with_row-row_at (tree_state c.args.self.now) (0, c.args.id))

use Rattle.std.proofs.Common.{◌≡◌, w64, is_some, ◌∙◌, ap, to_z, of_z}
use Rattle.std.proofs.lemmas.Int.{to_z-of_z}
use Rattle.gx_base.specs.States.{row_at, with_row}
use Rattle.shared_sets.specs.SetRows.{row_if}
use Rattle.shared_sets.specs.SetState.{set_state, set_state-IsState}
use Rattle.shared_sets.proofs.object_rows.SetTurns.{differ, turned_state, turned_reply}
use Rattle.shared_sets.proofs.marked_set.SharedSet.turn.Goals as goal

pub returns-clause-reply : goal.returns-clause-reply
returns-clause-reply c =
    let key : to_z w64 (of_z w64 c.args.x) ≡ c.args.x = to_z-of_z w64 c.args.x c.ranges.x in
    let here : c.has.result ≡ is_some (row_at (set_state c.args.self.now) (0, c.args.x)) = c.has.ensures ∙ ap (λ k. is_some (row_at (set_state c.args.self.now) (0, k))) key in
    c.yes_or_no-2.ensures
    ∙ turned_reply (set_state c.args.self.now) c.args.x (set_state-IsState c.args.self.now (0, c.args.x)) c.args.present (λ e. differ c.has.result c.args.present c.if-has-present.false (here ∙ e))

pub returns-clause-ok : goal.returns-clause-ok
returns-clause-ok c =
    let key : to_z w64 (of_z w64 c.args.x) ≡ c.args.x = to_z-of_z w64 c.args.x c.ranges.x in
    let here : c.has.result ≡ is_some (row_at (set_state c.args.self.now) (0, c.args.x)) = c.has.ensures ∙ ap (λ k. is_some (row_at (set_state c.args.self.now) (0, k))) key in
    c.in_ok-mark.ensures.ok ∙ ap (λ k. with_row (set_state c.args.self.now) (0, k) (row_if c.args.present)) key
    ∙ turned_state (set_state c.args.self.now) c.args.x (set_state-IsState c.args.self.now (0, c.args.x)) c.args.present (λ e. differ c.has.result c.args.present c.if-has-present.false (here ∙ e))

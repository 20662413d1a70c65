use Rattle.std.proofs.Common.{FitsSigned, w64, rules, refl, sym, ◌∙◌, ap}
use Rattle.std.proofs.lemmas.Int.{to_z-of_z}
use Rattle.std.specs.HashSet.{contains}
use Rattle.std.specs.Ordering.{int_eq}
use Rattle.gx_base.specs.PointKind.{may_add}
use Rattle.kind_tables.proofs.CallerLemmas.{not_true}
use Rattle.kd_points.specs.declared.choosing.Chosen.{Chosen}
use Rattle.kd_points.proofs.lists.Choosing.{chosen_more, chosen_before, chosen_without, not_off}
use Rattle.kd_points.proofs.choosing.Chosen.take.Goals as goal
use Rattle.kd_points.proofs.choosing.Chosen.take.Goals.{else-is_addable-via-then-is_addable+in_ok-insert+else-branch, else-is_addable-via-else-is_addable}

pub returns-in_ok-push : goal.returns-in_ok-push
returns-in_ok-push c = λ s h.
    let f : FitsSigned w64 c.args.spot.id = search rules in
    chosen_more s c.args.self.now (record { spots = c.push.new.self; numbers = c.insert.new.self }) c.args.spot _ (to_z-of_z w64 c.args.spot.id f) h (ap may_add (sym c.add_call.ensures) ∙ sym c.is_addable.ensures ∙ c.if-is_addable.true)
    (not_true _ (sym c.in_ok-insert.ensures.added ∙ c.if-branch.true)) c.in_ok-push.ensures.items c.in_ok-insert.ensures.updates.0

pub returns-else-is_addable : goal.returns-else-is_addable
returns-else-is_addable c = elim c.else-is_addable.branch [
  | else-is_addable-via-then-is_addable+in_ok-insert+else-branch w ↦ λ s h.
      let f : FitsSigned w64 c.args.spot.id = search rules in
      chosen_before s c.args.self.now c.else-is_addable.self c.args.spot _ (to_z-of_z w64 c.args.spot.id f) h (not_off _ (sym w.in_ok-insert.ensures.added ∙ w.if-branch.false)) (ap (λ (x : Chosen). x.spots.items) w.self-is)
      (λ id. ap (λ (x : Chosen). contains int_eq x.numbers id) w.self-is ∙ w.in_ok-insert.ensures.updates.0 id)
  | else-is_addable-via-else-is_addable w ↦ λ s h.
      chosen_without s c.args.self.now c.else-is_addable.self c.args.spot c.args.spot.id refl h (ap may_add (sym c.add_call.ensures) ∙ sym c.is_addable.ensures ∙ w.if-is_addable.false) w.self-is
]

-- Rooms in a vector act for every worker, and never lose a take.
use Rattle.std.specs.Prelude.{◌≡◌, ℕ, Bool, true, false, if◌then◌else◌, List, [], ◌∷◌, refl}
use Rattle.std.proofs.Common.{◌∙◌, ap, inl, inr, arith}
use Rattle.gx_base.specs.RoomViews.{RoomView}
use Rattle.rooms.specs.RoomsViews.{Move, RoomsView, entered, left}
use Rattle.rooms.specs.HandedOut.{CountHasRisen}
use Rattle.rooms.specs.Visits.{Visits, everyone, first_view, after_moves, view_of}

-- what no move changes
record IsFixed {V : Type 0} (before after : RoomsView V) : Type 0 where
  pub acts_for : after.acts_for ≡ before.acts_for
  pub lost : after.lost ≡ before.lost

none_rises : (before now : ℕ) → before ≡ 0 → now ≡ 0 → CountHasRisen before now → ⊥
none_rises before now first last (inl rose) = absurd (omega arith)
none_rises before now first last (inr stays) = let full : before ≡ 18446744073709551615 = stays.0 in absurd (omega arith)

module _ {V : Type 0} (tells : V → RoomView) where
  one_move : (was_left : Bool) (room : ℕ) (value : V) (view : RoomsView V) → IsFixed view (if was_left then left tells view room value else entered tells view room value)
  one_move true room value view = record { acts_for = refl; lost = refl }
  one_move false room value view = record { acts_for = refl; lost = refl }

  all_moves : (moves : List (Move V)) (view : RoomsView V) → IsFixed view (after_moves tells moves view)
  all_moves [] view = record { acts_for = refl; lost = refl }
  all_moves (move ∷ moves) view =
      let one = one_move move.was_left move.room move.value (after_moves tells moves view) in
      let all = all_moves moves view in
      record { acts_for = one.acts_for ∙ all.acts_for; lost = one.lost ∙ all.lost }

  module _ (visits : Visits V) where
    pub vector_acts_for : (view_of tells visits).acts_for ≡ everyone
    vector_acts_for = (all_moves visits.moves (first_view tells visits.values)).acts_for

    pub vector_lost : (room : ℕ) → (view_of tells visits).lost room ≡ 0
    vector_lost room = ap (λ f. f room) (all_moves visits.moves (first_view tells visits.values)).lost

  pub vector_never_risen : (before after : Visits V) (room : ℕ) → CountHasRisen ((view_of tells before).lost room) ((view_of tells after).lost room) → ⊥
  vector_never_risen before after room h = none_rises ((view_of tells before).lost room) ((view_of tells after).lost room) (vector_lost before room) (vector_lost after room) h

-- Laws of the kind `points`.
use Rattle.std.specs.Prelude.{◌≡◌, ℕ, ◌+◌, false, if◌then◌else◌, refl}
use Rattle.std.proofs.Common.{ap}
use Rattle.gx_base.specs.declared.calls.Call.{Call}
use Rattle.gx_base.specs.Meanings.{IsCall}
use Rattle.gx_base.specs.RowActions.{action_next, action_reply, action_inverse}
use Rattle.gx_base.specs.ObjectKinds.{is_among}
use Rattle.gx_base.specs.PointKind.{PointDeed, Add, Remove, At, Nearest, Nothing, point_first, point_deed, point_action, IsPlace, point_kind}
use Rattle.gx_base.proofs.states.RowActionLaws.{Leaves, action_keeps, action_kind, action_undone}
use Rattle.gx_base.proofs.object_kinds.MeaningLaws.{LawsOf, differs}

pub point_deed-foreign : (m : ℕ) → is_among point_kind.first point_kind.words m ≡ false → point_deed m ≡ Nothing
point_deed-foreign m h = λ i.
    if differs point_kind m point_first refl h i then Add else if differs point_kind m (point_first + 1) refl h i then Remove
    else if differs point_kind m (point_first + 2) refl h i then At else if differs point_kind m (point_first + 3) refl h i then Nearest else Nothing

point_leaves : (d : PointDeed) (c : Call) → IsCall c → Leaves IsPlace (point_action d c) c.a
point_leaves Add c f = (refl, f.0, f.1, f.2, f.3)
point_leaves Remove c f = tt
point_leaves At c f = tt
point_leaves Nearest c f = tt
point_leaves Nothing c f = tt

pub point_laws : LawsOf point_kind
point_laws = record {
  keeps_kind = λ s c. action_kind (point_action (point_deed c.method) c) s c.a;
  keeps_state = λ s c h f. action_keeps IsPlace (point_action (point_deed c.method) c) s c.a (point_leaves (point_deed c.method) c f) h;
  undone = λ s c h f. action_undone (point_action (point_deed c.method) c) s c.a;
  foreign = λ s c h.
      let e : point_deed c.method ≡ Nothing = point_deed-foreign c.method h in
      record {
        next = ap (λ d. action_next (point_action d c) s c.a) e;
        reply = ap (λ d. action_reply (point_action d c) s c.a) e;
        undone = λ r. ap (λ d. action_inverse (point_action d c) s c.a r) e;
      };
  unseen = λ e s x. refl;
}

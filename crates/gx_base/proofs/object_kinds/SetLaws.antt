-- Laws of the kind `set`.
use Rattle.std.specs.Prelude.{◌≡◌, ℕ, ◌+◌, ℤ, false, if◌then◌else◌, refl}
use Rattle.std.proofs.Common.{ap}
use Rattle.gx_base.specs.RowActions.{action_next, action_reply, action_inverse}
use Rattle.gx_base.specs.ObjectKinds.{is_among}
use Rattle.gx_base.specs.SetKind.{SetDeed, Add, Remove, Contains, Nothing, set_first, set_deed, set_action, IsMark, set_kind}
use Rattle.gx_base.proofs.states.RowActionLaws.{Leaves, action_keeps, action_kind, action_undone}
use Rattle.gx_base.proofs.object_kinds.MeaningLaws.{LawsOf, differs}

pub set_deed-foreign : (m : ℕ) → is_among set_kind.first set_kind.words m ≡ false → set_deed m ≡ Nothing
set_deed-foreign m h = λ i.
    if differs set_kind m set_first refl h i then Add else if differs set_kind m (set_first + 1) refl h i then Remove
    else if differs set_kind m (set_first + 2) refl h i then Contains else Nothing

set_leaves : (d : SetDeed) (x : ℤ) → Leaves (λ key. IsMark) (set_action d) x
set_leaves Add x = tt
set_leaves Remove x = tt
set_leaves Contains x = tt
set_leaves Nothing x = tt

pub set_laws : LawsOf set_kind
set_laws = record {
  keeps_kind = λ s c. action_kind (set_action (set_deed c.method)) s c.a;
  keeps_state = λ s c h f. action_keeps (λ key. IsMark) (set_action (set_deed c.method)) s c.a (set_leaves (set_deed c.method) c.a) h;
  undone = λ s c h f. action_undone (set_action (set_deed c.method)) s c.a;
  foreign = λ s c h.
      let e : set_deed c.method ≡ Nothing = set_deed-foreign c.method h in
      record { next = ap (λ d. action_next (set_action d) s c.a) e; reply = ap (λ d. action_reply (set_action d) s c.a) e; undone = λ r. ap (λ d. action_inverse (set_action d) s c.a r) e };
  unseen = λ e s x. refl;
}

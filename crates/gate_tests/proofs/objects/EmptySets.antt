-- Calls on an empty set that neither add nor remove: the object of this crate's tests.
use Rattle.std.specs.Prelude.{◌≡◌, ℕ, ℤ, pos, ◌<◌, Bool, true, false, ◌==◌, if◌then◌else◌, is_some, refl}
use Rattle.std.proofs.Common.{◌∙◌, ap, arith}
use Rattle.std.specs.FinMap as map
use Rattle.std.specs.Cmp.{unsigned_Decides}
use Rattle.gx_base.specs.declared.calls.Call.{Call}
use Rattle.gx_base.specs.declared.calls.Reply.{Reply}
use Rattle.gx_base.specs.States.{row_cmp}
use Rattle.gx_base.specs.Meanings.{number_reply}
use Rattle.gx_base.specs.SetKind.{Add, Remove, Contains, Nothing, set_deed, set_action}
use Rattle.gx_base.specs.RowActions.{action_next, action_reply, action_inverse}
use Rattle.gx_base.specs.Replays.{no_state}
use Rattle.gx_base.specs.Steps.{next_state, reply_to, inverse, observed}

-- a method after the two that change sets looks, or does nothing
looks : (m : ℕ) → 1 < m → set_deed m ≡ (if m == 2 then Contains else Nothing)
looks m low =
    deed_by m (m == 0) (m == 1) refl refl low
  where
    deed_by : (m : ℕ) (a b : Bool) → (m == 0) ≡ a → (m == 1) ≡ b → 1 < m → set_deed m ≡ (if m == 2 then Contains else Nothing)
    deed_by m true b p q low = absurd (let e : m ≡ 0 = (unsigned_Decides m 0).0 p in omega arith)
    deed_by m false true p q low = absurd (let e : m ≡ 1 = (unsigned_Decides m 1).0 q in omega arith)
    deed_by m false false p q low = λ i. if p i then Add else if q i then Remove else if m == 2 then Contains else Nothing

pub record IsQuiet (c : Call) : Type 0 where
  pub next : next_state no_state c ≡ no_state
  pub reply : reply_to no_state c ≡ number_reply (pos 0)
  pub undone : (r : Reply) → inverse no_state c r ≡ no_state

next_by : (b : Bool) (x : ℤ) → action_next (set_action (if b then Contains else Nothing)) no_state x ≡ no_state
next_by true x = refl
next_by false x = refl

reply_by : (b : Bool) (x : ℤ) → action_reply (set_action (if b then Contains else Nothing)) no_state x ≡ number_reply (pos 0)
reply_by true x = ap (λ row. number_reply (if is_some row then pos 1 else pos 0)) (map.get-empty row_cmp (0, x))
reply_by false x = refl

inverse_by : (b : Bool) (x : ℤ) (r : Reply) → action_inverse (set_action (if b then Contains else Nothing)) no_state x r ≡ no_state
inverse_by true x r = refl
inverse_by false x r = refl

pub quiet : (c : Call) → 1 < c.method → IsQuiet c
unfolding next_state reply_to inverse
quiet c h =
    let e : set_deed c.method ≡ (if c.method == 2 then Contains else Nothing) = looks c.method h in
    record {
      next = ap (λ d. action_next (set_action d) no_state c.a) e ∙ next_by (c.method == 2) c.a;
      reply = ap (λ d. action_reply (set_action d) no_state c.a) e ∙ reply_by (c.method == 2) c.a;
      undone = λ r. ap (λ d. action_inverse (set_action d) no_state c.a r) e ∙ inverse_by (c.method == 2) c.a r;
    }

pub unseen : (x : ℤ) → pos 0 ≡ observed no_state x
unfolding observed
unseen x = refl

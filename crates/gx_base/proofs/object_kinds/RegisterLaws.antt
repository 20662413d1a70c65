-- Laws of the kinds whose methods use one number.
use Rattle.std.specs.Prelude.{◌≡◌, ℕ, ℤ, false, List, refl}
use Rattle.std.proofs.Common.{◌∙◌, ap}
use Rattle.std.specs.Int.{w64, int_wrapping_add, int_wrapping_sub}
use Rattle.gx_base.specs.declared.calls.Call.{Call}
use Rattle.gx_base.specs.States.{State, number_at, with_number, HoldsNumbers}
use Rattle.gx_base.proofs.states.Registers.{number_at-same, with-with, with-number_at, number_at-fits, with_number-HoldsNumbers}
use Rattle.gx_base.proofs.states.Wrapping.{sub-add, add-fits}
use Rattle.gx_base.specs.Meanings.{IsCall}
use Rattle.gx_base.specs.RegisterDeeds.{Reads, Adds, Sets, Use, Nothing, On, next_by, reply_by, inverse_by, register_meaning}
use Rattle.gx_base.specs.ObjectKinds.{is_among}
use Rattle.gx_base.proofs.object_kinds.MeaningLaws.{IsIdle, MeaningLaws}

pub kind-next_by : (u : Use) (s : State) (c : Call) → (next_by u s c).kind ≡ s.kind
kind-next_by Nothing s c = refl
kind-next_by (On i Reads) s c = refl
kind-next_by (On i Adds) s c = refl
kind-next_by (On i Sets) s c = refl

pub undone_by : (u : Use) (s : State) (a : Call) → HoldsNumbers s → IsCall a → inverse_by u (next_by u s a) a (reply_by u s a) ≡ s
undone_by Nothing s a h f = refl
undone_by (On i Reads) s a h f = refl
undone_by (On i Adds) s a h f =
    let k : ℕ × ℤ = (i, a.a) in
    let y : ℤ = int_wrapping_add w64 (number_at s k) a.b in
    with-with s k y (int_wrapping_sub w64 (number_at (with_number s k y) k) a.b) ∙ ap (λ x. with_number s k (int_wrapping_sub w64 x a.b)) (number_at-same s k y)
    ∙ ap (with_number s k) (sub-add (number_at s k) a.b (number_at-fits s k h) f.1) ∙ with-number_at s k h
undone_by (On i Sets) s a h f = with-with s (i, a.a) a.b (number_at s (i, a.a)) ∙ with-number_at s (i, a.a) h

pub state_by : (u : Use) (s : State) (a : Call) → HoldsNumbers s → IsCall a → HoldsNumbers (next_by u s a)
state_by Nothing s a h f = h
state_by (On i Reads) s a h f = h
state_by (On i Adds) s a h f = with_number-HoldsNumbers s (i, a.a) (int_wrapping_add w64 (number_at s (i, a.a)) a.b) (add-fits (number_at s (i, a.a)) a.b) h
state_by (On i Sets) s a h f = with_number-HoldsNumbers s (i, a.a) a.b f.1 h

no_use : (use_of : ℕ → Use) (s : State) (c : Call) → use_of c.method ≡ Nothing → IsIdle (register_meaning use_of) s c
no_use use_of s c e = record { next = ap (λ u. next_by u s c) e; reply = ap (λ u. reply_by u s c) e; undone = λ r. ap (λ u. inverse_by u s c r) e }

pub register_laws : (first : ℕ) (words : List (List ℕ)) (use_of : ℕ → Use) → ((m : ℕ) → is_among first words m ≡ false → use_of m ≡ Nothing) → MeaningLaws first words (register_meaning use_of) HoldsNumbers false
register_laws first words use_of use-foreign = record {
  keeps_kind = λ s c. kind-next_by (use_of c.method) s c;
  keeps_state = λ s c h f. state_by (use_of c.method) s c h f;
  undone = λ s c h f. undone_by (use_of c.method) s c h f;
  foreign = λ s c h. no_use use_of s c (use-foreign c.method h);
  unseen = λ e s x. refl;
}

-- What is to be shown of each kind of object.
use Rattle.std.specs.Prelude.{◌≡◌, ℕ, ℤ, pos, Bool, true, false, ◌==◌, List, refl}
use Rattle.std.proofs.Common.{◌∙◌, ap}
use Rattle.std.specs.Cmp.{unsigned_Decides}
use Rattle.gx_base.specs.declared.calls.Call.{Call}
use Rattle.gx_base.specs.declared.calls.Reply.{Reply}
use Rattle.gx_base.specs.States.{State}
use Rattle.gx_base.specs.Meanings.{Meaning, IsCall, number_reply}
use Rattle.gx_base.specs.ObjectKinds.{ObjectKind, is_among}

-- the call leaves the state, replies four zeros, and has nothing to undo
pub record IsIdle (m : Meaning) (s : State) (c : Call) : Type 0 where
  pub next : m.next s c ≡ s
  pub reply : m.reply s c ≡ number_reply (pos 0)
  pub undone : (r : Reply) → m.inverse s c r ≡ s

-- a kind's calls keep the kind and what its rows may hold, and can be undone; a method of another kind has no effect;
-- and a kind without a state function is seen as zeros
pub record MeaningLaws (first : ℕ) (words : List (List ℕ)) (meaning : Meaning) (may_hold : State → Type 0) (has_state_function : Bool) : Type 0 where
  pub keeps_kind : (s : State) (c : Call) → (meaning.next s c).kind ≡ s.kind
  pub keeps_state : (s : State) (c : Call) → may_hold s → IsCall c → may_hold (meaning.next s c)
  pub undone : (s : State) (c : Call) → may_hold s → IsCall c → meaning.inverse (meaning.next s c) c (meaning.reply s c) ≡ s
  pub foreign : (s : State) (c : Call) → is_among first words c.method ≡ false → IsIdle meaning s c
  pub unseen : has_state_function ≡ false → (s : State) (x : ℤ) → meaning.observed s x ≡ pos 0

-- what is to be shown of a kind
abbrev pub LawsOf : ObjectKind → Type 0
LawsOf kind = MeaningLaws kind.first kind.words kind.meaning kind.may_hold kind.has_state_function

differs_by : (first : ℕ) (words : List (List ℕ)) (m k : ℕ) (b : Bool) → (m == k) ≡ b → is_among first words k ≡ true → is_among first words m ≡ false → b ≡ false
differs_by first words m k true e known foreign =
    let same : m ≡ k = (unsigned_Decides m k).0 e in
    let f : is_among first words m ≡ true = ap (is_among first words) same ∙ known in
    absurd (cc)
differs_by first words m k false e known foreign = refl

-- a method that is none of the kind's is another than each of these
pub differs : (kind : ObjectKind) (m k : ℕ) → is_among kind.first kind.words k ≡ true → is_among kind.first kind.words m ≡ false → (m == k) ≡ false
differs kind m k known foreign = differs_by kind.first kind.words m k (m == k) refl known foreign

-- From laws in a kind's own meaning to valid tables.
use Rattle.std.specs.Prelude.{◌≡◌, ℕ, ℤ, Bool, true}
use Rattle.std.proofs.Common.{sym, ◌∙◌, ap, subst}
use Rattle.gx_base.specs.declared.calls.Call.{Call}
use Rattle.gx_base.specs.Conditions.{holds}
use Rattle.gx_base.specs.States.{State}
use Rattle.gx_base.specs.Meanings.{Meaning, IsCall}
use Rattle.gx_base.specs.Steps.{meaning_of, Holds, next_state, reply_to, observed}
use Rattle.gx_base.specs.Tables.{Rows, row_holds, Swaps, SeesAlike, LooksBack, IsValid}
use Rattle.gx_base.proofs.CallerLemmas.{kind-next_state}
use Rattle.kind_tables.proofs.swapping.Effects.{SwapsBy, effect_in}

-- the row of two calls, the first of them made in s and the second after it
abbrev pub row_true : Meaning → Rows → State → Call → Call → Bool
row_true m rows s a b =
    holds (rows a.method b.method) (record { call = a; reply = m.reply s a }) (record { call = b; reply = m.reply (m.next s a) b })
    (record { first = m.observed s a.a; second = m.observed s b.a })

-- a table of a kind is valid, where states are those that pass
pub record TableLaws (m : Meaning) (passes : State → Type 0) (rows : Rows) : Type 0 where
  pub swaps : (s : State) (a b : Call) → passes s → IsCall a → IsCall b → row_true m rows s a b ≡ true → SwapsBy (effect_in m a) (effect_in m b) s
  pub sees_first : (s : State) (a b : Call) → passes s → IsCall a → IsCall b → row_true m rows s a b ≡ true → LooksBack rows a.method → (x : ℤ) → m.observed s x ≡ m.observed (m.next s b) x
  pub sees_second : (s : State) (a b : Call) → passes s → IsCall a → IsCall b → row_true m rows s a b ≡ true → LooksBack rows b.method → (x : ℤ) → m.observed s x ≡ m.observed (m.next s a) x

-- replies after a call
reply_after : (s : State) (a b : Call) → reply_to (next_state s a) b ≡ (meaning_of s.kind).reply ((meaning_of s.kind).next s a) b
unfolding next_state reply_to
reply_after s a b = ap (λ k. (meaning_of k).reply ((meaning_of s.kind).next s a) b) (kind-next_state s a)

next_after : (s : State) (a b : Call) → next_state (next_state s a) b ≡ (meaning_of s.kind).next ((meaning_of s.kind).next s a) b
unfolding next_state
next_after s a b = ap (λ k. (meaning_of k).next ((meaning_of s.kind).next s a) b) (kind-next_state s a)

observed_after : (s : State) (a : Call) (x : ℤ) → observed (next_state s a) x ≡ (meaning_of s.kind).observed ((meaning_of s.kind).next s a) x
unfolding next_state observed
observed_after s a x = ap (λ k. (meaning_of k).observed ((meaning_of s.kind).next s a) x) (kind-next_state s a)

row_same : (rows : Rows) (s : State) (a b : Call) → row_holds rows s a b ≡ row_true (meaning_of s.kind) rows s a b
unfolding next_state reply_to observed
row_same rows s a b = ap (λ r. holds (rows a.method b.method) (record { call = a; reply = (meaning_of s.kind).reply s a }) (record { call = b; reply = r })
    (record { first = (meaning_of s.kind).observed s a.a; second = (meaning_of s.kind).observed s b.a })) (reply_after s a b)

swaps_as : (s : State) (a b : Call) → SwapsBy (effect_in (meaning_of s.kind) a) (effect_in (meaning_of s.kind) b) s → Swaps s a b
unfolding next_state reply_to
swaps_as s a b w = record {
  second = w.second ∙ sym (reply_after s a b);
  first = reply_after s b a ∙ w.first;
  end = next_after s b a ∙ w.end ∙ sym (next_after s a b);
}

-- by the laws of a kind in its own meaning, its table is valid
laws_at : (kind : ℕ) (rows : Rows) (s : State) → s.kind ≡ kind → TableLaws (meaning_of kind) (Holds kind) rows → TableLaws (meaning_of s.kind) (Holds s.kind) rows
laws_at kind rows s e laws = subst (λ k. TableLaws (meaning_of k) (Holds k) rows) (sym e) laws

sees_after : (s : State) (a : Call) → ((x : ℤ) → (meaning_of s.kind).observed s x ≡ (meaning_of s.kind).observed ((meaning_of s.kind).next s a) x) → SeesAlike s (next_state s a)
unfolding observed
sees_after s a h x = h x ∙ sym (observed_after s a x)

pub valid_from : (kind : ℕ) (rows : Rows) → TableLaws (meaning_of kind) (Holds kind) rows → IsValid kind rows
valid_from kind rows laws = record {
  swaps = λ s a b e h fa fb t. swaps_as s a b ((laws_at kind rows s e laws).swaps s a b h fa fb (sym (row_same rows s a b) ∙ t));
  sees_first = λ s a b e h fa fb t l. sees_after s b ((laws_at kind rows s e laws).sees_first s a b h fa fb (sym (row_same rows s a b) ∙ t) l);
  sees_second = λ s a b e h fa fb t l. sees_after s a ((laws_at kind rows s e laws).sees_second s a b h fa fb (sym (row_same rows s a b) ∙ t) l);
}

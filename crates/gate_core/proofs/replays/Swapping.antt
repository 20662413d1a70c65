-- Two calls of different iterations whose row is true may be swapped. Undo, release and all other laws of gates rest on this.
use Rattle.std.specs.Prelude.{◌≡◌, ℕ, Bool, true, false, ◌||◌, refl}
use Rattle.std.proofs.Common.{sym, ◌∙◌, ap}
use Rattle.gx_base.specs.declared.calls.Call.{Call}
use Rattle.gx_base.specs.Conditions.{holds}
use Rattle.gx_base.specs.States.{State}
use Rattle.gx_base.specs.Steps.{next_state, reply_to, IsCall}
use Rattle.gx_base.specs.Tables.{Rows, uses_state, IsValid, Swaps, row_holds, made_in, LooksBack, SeesAlike}
use Rattle.gx_base.proofs.CallerLemmas.{kind-next_state, next_state-IsState}
use Rattle.gx_base.specs.declared.acts.Entry.{Entry}
use Rattle.gate_core.specs.Entries.{made_of, same_iteration}
use Rattle.gate_core.specs.Replays.{seen_at, pair_ok, SawRight, Stands}
use Rattle.gate_core.specs.Swaps.{Swapped}
use Rattle.gate_core.proofs.replays.StateTerms.{blind}

or_false : (p q : Bool) → p ≡ false → (p || q) ≡ true → q ≡ true
or_false true q e h = absurd (cc)
or_false false q e h = h

pub stands_next : (kind : ℕ) (s : State) (c : Call) → Stands kind s → IsCall c → Stands kind (next_state s c)
stands_next kind s c h f = record { of_kind = kind-next_state s c ∙ h.of_kind; is_state = next_state-IsState s c h.is_state f }

module _ (rows : Rows) (s t : State) (e g : Entry) (alike : LooksBack rows e.call.method → SeesAlike s t) where
  same_test : (u : Bool) → uses_state (rows e.call.method g.call.method) ≡ u
      → holds (rows e.call.method g.call.method) (made_of e) (made_of g) (seen_at s e g) ≡ holds (rows e.call.method g.call.method) (made_of e) (made_of g) (seen_at t e g)
  same_test true q =
      let same : SeesAlike s t = alike (g.call.method, q) in
      λ i. holds (rows e.call.method g.call.method) (made_of e) (made_of g) (record { first = same e.call.a i; second = same g.call.a i })
  same_test false q = blind (rows e.call.method g.call.method) (made_of e) (made_of g) (seen_at s e g) (seen_at t e g) q

  -- the row of an entry with a later one is the same in two states that are alike to rows with the entry first
  same_pair : pair_ok rows s e g ≡ pair_ok rows t e g
  same_pair = ap (λ b. same_iteration e g || b) (same_test (uses_state (rows e.call.method g.call.method)) refl)

same_saw : (rows : Rows) (s t : State) (e : Entry) → (LooksBack rows e.call.method → SeesAlike s t) → SawRight rows s e → SawRight rows t e
same_saw rows s t e alike h = λ looks. h looks ∙ alike looks e.call.a

module _ (kind : ℕ) (rows : Rows) (valid : IsValid kind rows) where
  row_of_pair : (s : State) (e m : Entry) → reply_to s e.call ≡ e.reply → reply_to (next_state s e.call) m.call ≡ m.reply → same_iteration e m ≡ false → pair_ok rows s e m ≡ true → row_holds rows s e.call m.call ≡ true
  row_of_pair s e m r q n h =
      let t : holds (rows e.call.method m.call.method) (made_of e) (made_of m) (seen_at s e m) ≡ true = or_false (same_iteration e m) _ n h in
      ap (λ x. holds (rows e.call.method m.call.method) (record { call = e.call; reply = x }) (made_in (next_state s e.call) m.call) (seen_at s e m)) r
      ∙ ap (λ y. holds (rows e.call.method m.call.method) (made_of e) (record { call = m.call; reply = y }) (seen_at s e m)) q ∙ t

  pub swapped : (s : State) (e m : Entry) → Stands kind s → IsCall e.call → IsCall m.call → reply_to s e.call ≡ e.reply → reply_to (next_state s e.call) m.call ≡ m.reply
      → same_iteration e m ≡ false → pair_ok rows s e m ≡ true → Swapped rows s e m
  swapped s e m h c d r q n p =
      let row : row_holds rows s e.call m.call ≡ true = row_of_pair s e m r q n p in
      let w : Swaps s e.call m.call = valid.swaps s e.call m.call h.of_kind h.is_state c d row in
      let first : LooksBack rows e.call.method → SeesAlike s (next_state s m.call) = valid.sees_first s e.call m.call h.of_kind h.is_state c d row in
      let second : LooksBack rows m.call.method → SeesAlike (next_state s e.call) s = λ b x. sym (valid.sees_second s e.call m.call h.of_kind h.is_state c d row b x) in
      record {
        later = w.second ∙ q;
        earlier = w.first ∙ r;
        end = w.end;
        earlier_saw = same_saw rows s (next_state s m.call) e first;
        earlier_rows = λ g k. sym (same_pair rows s (next_state s m.call) e g first) ∙ k;
        later_saw = same_saw rows (next_state s e.call) s m second;
        later_rows = λ g k. sym (same_pair rows (next_state s e.call) s m g second) ∙ k;
      }

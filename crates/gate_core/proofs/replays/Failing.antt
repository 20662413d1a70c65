-- The first entry that is in the way of a call.
use Rattle.std.specs.Prelude.{◌≡◌, ℕ, ◌+◌, ◌<◌, Bool, true, false, ◌||◌, if◌then◌else◌, Option, Some, None, List, [], ◌∷◌, length, take, slice_get, refl}
use Rattle.std.proofs.Common.{suc, sym, ◌∙◌, subst, arith}
use Rattle.gx_base.specs.declared.calls.Seen.{Seen}
use Rattle.gx_base.specs.Conditions.{holds}
use Rattle.gx_base.specs.States.{State}
use Rattle.gx_base.specs.Steps.{next_state}
use Rattle.gx_base.specs.Tables.{Rows}
use Rattle.gx_base.specs.declared.acts.Entry.{Entry}
use Rattle.gate_core.specs.declared.refusals.Told.{Told}
use Rattle.gate_core.specs.Entries.{made_of, same_iteration}
use Rattle.gate_core.specs.Replays.{after, seen_at, pair_ok, further, first_failing, SeesRight, IsFirstFailing}
use Rattle.gate_core.specs.CallAnswers.{Tells}
use Rattle.gate_core.proofs.lists.EntryLists.{some_same}
use Rattle.gate_core.proofs.replays.StateTerms.{named_same}

-- the place that is found is one of the list, and its entry may not be live with the asked one
pub record FailsAt (rows : Rows) (s : State) (es : List Entry) (asked : Entry) (place : ℕ) : Type 0 where
  pub within : place < length es
  pub fails : (held : Entry) → slice_get es place ≡ Some held → pair_ok rows (after s (take place es)) held asked ≡ false

module _ (rows : Rows) (asked : Entry) where
  fails_by : (s : State) (e : Entry) (es : List Entry) (b : Bool) (o : Option ℕ) (place : ℕ) → pair_ok rows s e asked ≡ b → ((p : ℕ) → o ≡ Some p → FailsAt rows (next_state s e.call) es asked p)
      → (if b then further o else Some 0) ≡ Some place → FailsAt rows s (e ∷ es) asked place
  fails_by s e es true None place q r k = absurd (cc)
  fails_by s e es true (Some p) place q r k =
      let f : FailsAt rows (next_state s e.call) es asked p = r p refl in
      let n : suc p ≡ p + 1 = omega arith in
      let deeper : FailsAt rows s (e ∷ es) asked (suc p) = record { within = (let w : p < length es = f.within in omega arith); fails = f.fails } in
      subst (λ k. FailsAt rows s (e ∷ es) asked k) (n ∙ some_same k) deeper
  fails_by s e es false o place q r k =
      let here : FailsAt rows s (e ∷ es) asked 0 = record { within = omega arith; fails = λ held h. subst (λ (x : Entry). pair_ok rows s x asked ≡ false) (some_same h) q } in
      subst (λ k. FailsAt rows s (e ∷ es) asked k) (some_same k) here

  pub fails_at : (s : State) (es : List Entry) (place : ℕ) → first_failing rows s es asked ≡ Some place → FailsAt rows s es asked place
  fails_at s [] place k = absurd (cc)
  fails_at s (e ∷ es) place k = fails_by s e es (pair_ok rows s e asked) (first_failing rows (next_state s e.call) es asked) place refl (fails_at (next_state s e.call) es) k

or_both : (p q : Bool) → (p || q) ≡ false → q ≡ false
or_both true q e = absurd (cc)
or_both false q e = e

-- on what was seen of the state, as far as the row uses it, the row is false
row_false : (rows : Rows) (s : State) (held asked : Entry) (seen : Seen) → SeesRight (rows held.call.method asked.call.method) s held asked seen → pair_ok rows s held asked ≡ false
    → holds (rows held.call.method asked.call.method) (made_of held) (made_of asked) seen ≡ false
row_false rows s held asked seen h f =
    named_same (made_of held) (made_of asked) seen (seen_at s held asked) (rows held.call.method asked.call.method) (record { first_same = h.first; second_same = h.second })
    ∙ or_both (same_iteration held asked) _ f

-- what a search found is told
pub tells : (rows : Rows) (s : State) (live : List Entry) (asked : Entry) (told : Told) (place : ℕ) (seen : Seen) → IsFirstFailing rows s live asked (Some (place, seen)) → slice_get live place ≡ Some told.held
    → told.asked ≡ asked.call → told.would ≡ asked.reply → told.seen ≡ seen → Tells rows s live asked told place
tells rows s live asked told place seen h at p q r =
    let f : FailsAt rows s live asked place = fails_at rows asked s live place h.0 in
    let held : Entry = told.held in
    let sees : SeesRight (rows held.call.method asked.call.method) (after s (take place live)) held asked seen = h.1 held at in
    let whole : Tells rows s live asked (record { held = held; asked = asked.call; would = asked.reply; seen = seen }) place = record {
      first = h.0;
      held = at;
      asked_is = refl;
      would_is = refl;
      sees = sees;
      refuses = row_false rows (after s (take place live)) held asked seen sees (f.fails held at);
    } in
    let same : ◌≡◌ {A = Told} (record { held = held; asked = asked.call; would = asked.reply; seen = seen }) told = λ i. record { held = held; asked = sym p i; would = sym q i; seen = sym r i } in
    subst (λ t. Tells rows s live asked t place) same whole

-- What a gate owes and gets where it does a call.
use Rattle.std.specs.Prelude.{◌≡◌, ℕ, ◌+◌, ◌≤◌, Bool, Option, None, List, [], ◌∷◌, ◌++◌, length, IsTrue, refl}
use Rattle.std.proofs.Common.{sym, ◌∙◌, ap, subst, arith, length-append}
use Rattle.gx_base.specs.declared.calls.Call.{Call}
use Rattle.gx_base.specs.declared.calls.Made.{Made}
use Rattle.gx_base.specs.declared.items.Item.{Item}
use Rattle.gx_base.specs.declared.acts.Entry.{Entry}
use Rattle.gx_base.specs.TableRows.{RowMap}
use Rattle.gx_base.specs.States.{State}
use Rattle.gx_base.specs.Steps.{next_state, reply_to, inverse, IsState, IsCall}
use Rattle.gx_base.specs.Tables.{Rows}
use Rattle.gx_base.proofs.CallerLemmas.{undoes, start_of-append}
use Rattle.gx_base.specs.Replays as replays
use Rattle.gate_core.specs.declared.refusals.Told.{Told}
use Rattle.gate_core.specs.Entries.{made_of, mades_of}
use Rattle.gate_core.specs.Replays.{LegalEntries, start_of, AllSawRight, LeadTo}
use Rattle.gate_core.specs.Views.{GateView, IsLawfulGate, gate_rows, live_start, asked_entry, in_way, admit}
use Rattle.gate_core.specs.CallAnswers.{AllRoomed, IsGate, IsAdmitted, TellsOf}
use Rattle.gate_core.proofs.lists.EntryLists.{each_append, each_same}
use Rattle.gate_core.proofs.replays.EntryReplays.{legal_join, calls_append, mades_of-append}
use Rattle.gate_core.proofs.lawful.KeptLawful.{Kept, admit_keeps, saw_append, live_stands, state_stands}

start_with : (t : State) (es : List Entry) (e : Entry) → start_of t (es ++ e ∷ []) ≡ start_of (inverse t e.call e.reply) es
start_with t es e = ap (replays.start_of t) (mades_of-append es (e ∷ [])) ∙ start_of-append t (mades_of es) (made_of e)

-- the state, the entry and the live entries after the object did a call, where each is known by an equation
pub record Asks (g : GateView) (worker iter : ℕ) (item : Item) (call : Call) (e : Entry) (s : State) (live : List Entry) : Type 0 where
  pub entry : e ≡ asked_entry worker iter item call g.state
  pub next : s ≡ next_state g.state call
  pub entries : live ≡ g.live

pub asks : (g : GateView) (worker iter : ℕ) (item : Item) (call : Call) (e : Entry) (s0 s : State) (live : List Entry) → s0 ≡ g.state → e ≡ asked_entry worker iter item call s0 → s ≡ next_state s0 call → live ≡ g.live
    → Asks g worker iter item call e s live
asks g worker iter item call e s0 s live p q r l = record {
  entry = q ∙ ap (asked_entry worker iter item call) p;
  next = r ∙ ap (λ u. next_state u call) p;
  entries = l;
}

-- the state before the live entries is seen after the call too
asked_start : (g : GateView) (worker iter : ℕ) (item : Item) (call : Call) → IsLawfulGate g → IsCall call → start_of (next_state g.state call) (g.live ++ asked_entry worker iter item call g.state ∷ []) ≡ live_start g
asked_start g worker iter item call h c =
    start_with (next_state g.state call) g.live (asked_entry worker iter item call g.state) ∙ ap (λ u. start_of u g.live) (undoes g.state call (state_stands g h).is_state c)

pub start_seen : (g : GateView) (worker iter : ℕ) (item : Item) (call : Call) (e : Entry) (s : State) (live : List Entry) → IsLawfulGate g → IsCall call → Asks g worker iter item call e s live → start_of s (live ++ e ∷ []) ≡ live_start g
start_seen g worker iter item call e s live h c a = (λ i. start_of (a.next i) (a.entries i ++ a.entry i ∷ [])) ∙ asked_start g worker iter item call h c

-- the live entries with the asked one lead from a state to the one after the call
record LeadsFrom (rows : Rows) (from : State) (live : List Entry) (asked : Entry) (state : State) : Type 0 where
  stands : IsState from
  legal : LegalEntries from (live ++ asked ∷ []) state
  saw : AllSawRight rows from (live ++ asked ∷ [])

leads : (g : GateView) (worker iter : ℕ) (item : Item) (call : Call) → IsLawfulGate g → IsCall call → LeadTo (gate_rows g) g.live (asked_entry worker iter item call g.state) (next_state g.state call)
leads g worker iter item call h c =
    let e : Entry = asked_entry worker iter item call g.state in
    let same : live_start g ≡ start_of (next_state g.state call) (g.live ++ e ∷ []) = sym (asked_start g worker iter item call h c) in
    let at : State → Type 0 = λ u. LeadsFrom (gate_rows g) u g.live e (next_state g.state call) in
    let all : LeadsFrom (gate_rows g) (live_start g) g.live e (next_state g.state call) = record {
      stands = (live_stands g h).is_state;
      legal = legal_join (live_start g) g.state (next_state g.state call) g.live (e ∷ []) h.live_legal (refl, refl);
      saw = saw_append (gate_rows g) (live_start g) g.state g.live e h.live_legal h.saw refl;
    } in
    let there : LeadsFrom (gate_rows g) (start_of (next_state g.state call) (g.live ++ e ∷ [])) g.live e (next_state g.state call) = subst at same all in
    record { stands = there.stands; calls = calls_append g.live (e ∷ []) h.live_calls (c, tt); legal = there.legal; saw = there.saw }

-- the live entries with the asked one lead to the state after the call
pub lead_to : (g : GateView) (worker iter : ℕ) (item : Item) (call : Call) (e : Entry) (s : State) (live : List Entry) → IsLawfulGate g → IsCall call → Asks g worker iter item call e s live → LeadTo (gate_rows g) live e s
lead_to g worker iter item call e s live h c a =
    let joined : LeadTo (gate_rows g) g.live (asked_entry worker iter item call g.state) (next_state g.state call) = leads g worker iter item call h c in
    subst (λ x. LeadTo (gate_rows g) x e s) (sym a.entries) (subst (λ x. LeadTo (gate_rows g) g.live x s) (sym a.entry) (subst (λ x. LeadTo (gate_rows g) g.live (asked_entry worker iter item call g.state) x) (sym a.next) joined))

-- and can be undone
pub rooms_asked : (roomed roomed' : Made → Bool) (es es' : List Entry) (e : Entry) → AllRoomed roomed es → ((made : Made) → IsTrue (roomed made) → IsTrue (roomed' made)) → IsTrue (roomed' (made_of e)) → es' ≡ es
    → AllRoomed roomed' (es' ++ e ∷ [])
rooms_asked roomed roomed' es es' e h k r l =
    subst (λ x. AllRoomed roomed' (x ++ e ∷ [])) (sym l)
    (each_append (λ x. IsTrue (roomed' (made_of x))) es (e ∷ []) (each_same (λ x. IsTrue (roomed (made_of x))) (λ x. IsTrue (roomed' (made_of x))) es (λ x. k (made_of x)) h) (r, tt))

-- what was told of the entry and the state is what the gate's contract says
pub told_of : (g : GateView) (worker iter : ℕ) (item : Item) (call : Call) (e : Entry) (s : State) (live : List Entry) (o : Option Told) → IsLawfulGate g → IsCall call → Asks g worker iter item call e s live
    → TellsOf (gate_rows g) (start_of s (live ++ e ∷ [])) live e o → TellsOf (gate_rows g) (live_start g) g.live (asked_entry worker iter item call g.state) o
told_of g worker iter item call e s live o h c a t =
    let from : TellsOf (gate_rows g) (live_start g) live e o = subst (λ u. TellsOf (gate_rows g) u live e o) (start_seen g worker iter item call e s live h c a) t in
    subst (λ x. TellsOf (gate_rows g) (live_start g) g.live x o) a.entry (subst (λ x. TellsOf (gate_rows g) (live_start g) x e o) a.entries from)

-- a call that is taken back leaves the state of before
pub taken_back : (g : GateView) (worker iter : ℕ) (item : Item) (call : Call) (e : Entry) (s s' s'' : State) (live : List Entry) → IsLawfulGate g → IsCall call → Asks g worker iter item call e s live
    → s' ≡ s → s'' ≡ inverse s' e.call e.reply → s'' ≡ g.state
taken_back g worker iter item call e s s' s'' live h c a q r =
    let joined : inverse s' e.call e.reply ≡ inverse (next_state g.state call) call (reply_to g.state call) = λ i. inverse ((q ∙ a.next) i) (a.entry i).call (a.entry i).reply in
    r ∙ joined ∙ undoes g.state call (state_stands g h).is_state c

-- a gate whose state and entries are as before
pub same_view : (g : GateView) (s : State) (done live : List Entry) → s ≡ g.state → done ≡ g.done → live ≡ g.live → ◌≡◌ {A = GateView} (record g { state = s; done = done; live = live }) g
same_view g s done live p d l = λ i. record g { state = p i; done = d i; live = l i }

pub gate_same : (g : GateView) (roomed roomed' : Made → Bool) (Stands Stands' : List Entry → Type 0) (Suits Suits' : ℕ → RowMap → Type 0) (capacity capacity' : ℕ) (s : State) (done live : List Entry)
    → IsGate g roomed Stands Suits capacity → s ≡ g.state → done ≡ g.done → live ≡ g.live → (AllRoomed roomed g.live → AllRoomed roomed' g.live) → (Stands g.live → Stands' g.live) → (Suits g.kind g.table → Suits' g.kind g.table) → capacity ≤ capacity'
    → IsGate (record g { state = s; done = done; live = live }) roomed' Stands' Suits' capacity'
gate_same g roomed roomed' Stands Stands' Suits Suits' capacity capacity' s done live h p d l k e f c =
    let there : IsGate g roomed' Stands' Suits' capacity' = record { lawful = h.lawful; roomed_live = k h.roomed_live; screened = e h.screened; suited = f h.suited; room = (let r : length g.done + length g.live ≤ capacity = h.room in omega arith) } in
    subst (λ x. IsGate x roomed' Stands' Suits' capacity') (sym (same_view g s done live p d l)) there

pub admitted_view : (g : GateView) (worker iter : ℕ) (item : Item) (call : Call) (e : Entry) (s s' : State) (done live live' : List Entry) → Asks g worker iter item call e s live → s' ≡ s → done ≡ g.done → live' ≡ live ++ e ∷ []
    → ◌≡◌ {A = GateView} (record g { state = s'; done = done; live = live' }) (admit g worker iter item call)
admitted_view g worker iter item call e s s' done live live' a q d l =
    let entries : live' ≡ g.live ++ asked_entry worker iter item call g.state ∷ [] = l ∙ (λ i. a.entries i ++ a.entry i ∷ []) in
    λ i. record g { state = (q ∙ a.next) i; done = d i; live = entries i }

-- a gate that admitted a call
pub gate_admits : (g : GateView) (roomed roomed' : Made → Bool) (Stands Stands' : List Entry → Type 0) (Suits Suits' : ℕ → RowMap → Type 0) (capacity capacity' : ℕ) (worker iter : ℕ) (item : Item) (call : Call) (e : Entry) (s s' : State) (done live live' : List Entry)
    → IsGate g roomed Stands Suits capacity → IsCall call → Asks g worker iter item call e s live → in_way g (asked_entry worker iter item call g.state) ≡ None → s' ≡ s → done ≡ g.done → live' ≡ live ++ e ∷ []
    → AllRoomed roomed' (live ++ e ∷ []) → (Stands g.live → Stands' (g.live ++ e ∷ [])) → (Suits g.kind g.table → Suits' g.kind g.table) → length done + (length live + 1) ≤ capacity'
    → IsGate (record g { state = s'; done = done; live = live' }) roomed' Stands' Suits' capacity'
gate_admits g roomed roomed' Stands Stands' Suits Suits' capacity capacity' worker iter item call e s s' done live live' h c a n q d l r t f room =
    let new : GateView = admit g worker iter item call in
    let k : Kept g new = admit_keeps g worker iter item call h.lawful c n in
    let entries : live ++ e ∷ [] ≡ new.live = λ i. a.entries i ++ a.entry i ∷ [] in
    let there : IsGate new roomed' Stands' Suits' capacity' = record {
      lawful = k.lawful;
      roomed_live = subst (AllRoomed roomed') entries r;
      screened = subst (λ x. Stands' (g.live ++ x ∷ [])) a.entry (t h.screened);
      suited = f h.suited;
      room = omega (arith, ap length d, ap length a.entries, length-append {A = Entry}, room);
    } in
    subst (λ x. IsGate x roomed' Stands' Suits' capacity') (sym (admitted_view g worker iter item call e s s' done live live' a q d l)) there

pub admitted : (g : GateView) (worker iter : ℕ) (item : Item) (call : Call) (e : Entry) (s s' : State) (done live live' : List Entry) → Asks g worker iter item call e s live → in_way g (asked_entry worker iter item call g.state) ≡ None
    → s' ≡ s → done ≡ g.done → live' ≡ live ++ e ∷ [] → IsAdmitted g (record g { state = s'; done = done; live = live' }) worker iter item call e.reply
admitted g worker iter item call e s s' done live live' a n q d l = record {
  free = n;
  replied = ap (λ (x : Entry). x.reply) a.entry;
  admitted = admitted_view g worker iter item call e s s' done live live' a q d l;
}

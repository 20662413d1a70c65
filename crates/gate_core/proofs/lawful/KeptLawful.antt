-- Each call of a gate keeps it lawful, with the start that it had.
use Rattle.std.specs.Prelude.{◌≡◌, ℕ, ◌+◌, ◌≤◌, Bool, true, false, not, ◌||◌, if◌then◌else◌, Option, Some, None, List, [], ◌∷◌, ◌++◌, refl}
use Rattle.std.proofs.Common.{sym, ◌∙◌, ap, subst, arith}
use Rattle.gx_base.specs.declared.calls.Call.{Call}
use Rattle.gx_base.specs.declared.items.Item.{Item}
use Rattle.gx_base.specs.Replays as replays
use Rattle.gx_base.specs.States.{State}
use Rattle.gx_base.specs.Steps.{next_state, inverse, observed, IsCall}
use Rattle.gx_base.specs.Tables.{Rows}
use Rattle.gx_base.proofs.CallerLemmas.{after-Legal, start_of-Legal}
use Rattle.gx_base.specs.declared.acts.Entry.{Entry}
use Rattle.gate_core.specs.Entries.{mades_of, same_iteration, is_of, entries_of, others_than, has_entry, last_of, without_last, done_under, Each, mark_after, mark_of, NumbersRise}
use Rattle.gate_core.specs.Replays.{after, LegalEntries, start_of, AllCalls, pair_ok, PairsFit, AllSawRight, further, first_failing, Stands}
use Rattle.gate_core.specs.Views.{GateView, gate_rows, live_start, start, IsLawfulGate, asked_entry, in_way, admit, undo_entry, undo_last, release}
use Rattle.gate_core.proofs.lists.EntryLists.{of_same, each_append, each_filter, each_without}
use Rattle.gate_core.proofs.replays.EntryReplays.{mades_of-under, legal_join, calls_append, calls_filter, calls_without}
use Rattle.gate_core.proofs.replays.Swapping.{stands_next}
use Rattle.gate_core.proofs.replays.Leaving.{AreLive, Parted, parted, undone}

-- a gate is lawful after a change, with the start of before
pub record Kept (old new : GateView) : Type 0 where
  pub lawful : IsLawfulGate new
  pub same_start : start new ≡ start old

-- replays

pub stands_after : (kind : ℕ) (s : State) (es : List Entry) → Stands kind s → AllCalls es → Stands kind (after s es)
stands_after kind s [] h c = h
stands_after kind s (e ∷ es) h c = stands_after kind (next_state s e.call) es (stands_next kind s e.call h c.0) c.1

-- numbers

rise_append : (mark : ℕ) (xs ys : List Entry) → NumbersRise mark xs → NumbersRise (mark_of mark xs) ys → NumbersRise mark (xs ++ ys)
rise_append mark [] ys p q = q
rise_append mark (x ∷ xs) ys p q = (p.0, rise_append (mark_after x.done) xs ys p.1 q)

mark_of-append : (mark : ℕ) (xs ys : List Entry) → mark_of mark (xs ++ ys) ≡ mark_of (mark_of mark xs) ys
mark_of-append mark [] ys = refl
mark_of-append mark (x ∷ xs) ys = mark_of-append (mark_after x.done) xs ys

rise_under : (n mark : ℕ) (es : List Entry) → mark ≤ n + 1 → NumbersRise mark (done_under n es)
rise_under n mark [] h = tt
rise_under n mark (e ∷ es) h = ((n, refl, h), rise_under n (n + 1) es (omega arith))

mark_of-under : (n : ℕ) (es : List Entry) → mark_of (n + 1) (done_under n es) ≡ n + 1
mark_of-under n [] = refl
mark_of-under n (e ∷ es) = mark_of-under n es

mark_by : (n mark : ℕ) (x : Entry) (ms : List Entry) (b c : Bool) → mark_of mark (done_under n ms) ≡ (if c then n + 1 else mark) → mark_of mark (done_under n (if b then x ∷ ms else ms)) ≡ (if b || c then n + 1 else mark)
mark_by n mark x ms true c h = mark_of-under n ms
mark_by n mark x ms false c h = h

-- the mark that a release leaves
mark_released : (n mark worker iter : ℕ) (es : List Entry) → mark_of mark (done_under n (entries_of worker iter es)) ≡ (if has_entry worker iter es then n + 1 else mark)
mark_released n mark worker iter [] = refl
mark_released n mark worker iter (x ∷ es) = mark_by n mark x (entries_of worker iter es) (is_of worker iter x) (has_entry worker iter es) (mark_released n mark worker iter es)

-- lawful gates

pub live_of : (g : GateView) → IsLawfulGate g → AreLive (gate_rows g) (live_start g) g.live g.state
live_of g h = record { legal = h.live_legal; pairs = h.pairs; saw = h.saw }

pub live_stands : (g : GateView) → IsLawfulGate g → Stands g.kind (live_start g)
live_stands g h = subst (Stands g.kind) (after-Legal (start g) (live_start g) (mades_of g.done) h.done_legal) (stands_after g.kind (start g) g.done h.stands h.done_calls)

pub state_stands : (g : GateView) → IsLawfulGate g → Stands g.kind g.state
state_stands g h = subst (Stands g.kind) (after-Legal (live_start g) g.state (mades_of g.live) h.live_legal) (stands_after g.kind (live_start g) g.live (live_stands g h) h.live_calls)

-- what replays from the same start is lawful
pub kept : (g : GateView) (h : IsLawfulGate g) (m t : State) (done live : List Entry) (mark : ℕ) → AllCalls done → AllCalls live → LegalEntries (start g) done m → AreLive (gate_rows g) m live t
    → NumbersRise 0 done → mark ≡ mark_of 0 done → Each (λ e. e.done ≡ None) live → Kept g (record g { state = t; done = done; live = live; mark = mark })
kept g h m t done live mark cd cl ld a n k u =
    let s : State = start g in
    let hm : Stands g.kind m = subst (Stands g.kind) (after-Legal s m (mades_of done) ld) (stands_after g.kind s done h.stands cd) in
    let mid : start_of t live ≡ m = start_of-Legal m t (mades_of live) hm.is_state cl a.legal in
    let whole : start_of (start_of t live) done ≡ s = ap (λ v. start_of v done) mid ∙ start_of-Legal s m (mades_of done) h.stands.is_state cd ld in
    record {
      lawful = record {
        valid = h.valid;
        keeps_to_kind = h.keeps_to_kind;
        stands = subst (Stands g.kind) (sym whole) h.stands;
        done_calls = cd;
        live_calls = cl;
        done_legal = subst (λ v. LegalEntries v done (start_of t live)) (sym whole) (subst (λ v. LegalEntries s done v) (sym mid) ld);
        live_legal = subst (λ v. LegalEntries v live t) (sym mid) a.legal;
        pairs = subst (λ v. PairsFit (gate_rows g) v live) (sym mid) a.pairs;
        saw = subst (λ v. AllSawRight (gate_rows g) v live) (sym mid) a.saw;
        numbers = n;
        mark = k;
        uncommitted = u;
      };
      same_start = whole;
    }

both_parts : (b : Bool) (o : Option ℕ) → (if b then further o else Some 0) ≡ None → (b ≡ true) × (o ≡ None)
both_parts true None e = (refl, refl)
both_parts true (Some x) e = absurd (cc)
both_parts false o e = absurd (cc)

pub saw_append : (rows : Rows) (s t : State) (es : List Entry) (f : Entry) → LegalEntries s es t → AllSawRight rows s es → f.seen ≡ observed t f.call.a → AllSawRight rows s (es ++ f ∷ [])
saw_append rows s t [] f l w q = (λ _. q ∙ ap (λ u. observed u f.call.a) (sym l), tt)
saw_append rows s t (e ∷ es) f l w q = (w.0, saw_append rows (next_state s e.call) t es f l.1 w.1 q)

-- an entry that is in nobody's way may be live with the others
pairs_append : (rows : Rows) (s : State) (es : List Entry) (f : Entry) → PairsFit rows s es → first_failing rows s es f ≡ None → PairsFit rows s (es ++ f ∷ [])
pairs_append rows s [] f p n = (tt, tt)
pairs_append rows s (e ∷ es) f p n =
    let b : (pair_ok rows s e f ≡ true) × (first_failing rows (next_state s e.call) es f ≡ None) = both_parts (pair_ok rows s e f) (first_failing rows (next_state s e.call) es f) n in
    (each_append (λ g. pair_ok rows s e g ≡ true) es (f ∷ []) p.0 (b.0, tt), pairs_append rows (next_state s e.call) es f p.1 b.1)

pub admit_keeps : (g : GateView) (worker iter : ℕ) (item : Item) (call : Call) → IsLawfulGate g → IsCall call → in_way g (asked_entry worker iter item call g.state) ≡ None → Kept g (admit g worker iter item call)
admit_keeps g worker iter item call h c n =
    let e : Entry = asked_entry worker iter item call g.state in
    kept g h (live_start g) (next_state g.state call) g.done (g.live ++ e ∷ []) g.mark h.done_calls (calls_append g.live (e ∷ []) h.live_calls (c, tt)) h.done_legal
    (record { legal = legal_join (live_start g) g.state (next_state g.state call) g.live (e ∷ []) h.live_legal (refl, refl); pairs = pairs_append (gate_rows g) (live_start g) g.live e h.pairs n; saw = saw_append (gate_rows g) (live_start g) g.state g.live e h.live_legal h.saw refl }) h.numbers h.mark (each_append (λ x. x.done ≡ None) g.live (e ∷ []) h.uncommitted (refl, tt))

pub undo_entry_keeps : (g : GateView) (worker iter : ℕ) (u : Entry) → IsLawfulGate g → last_of worker iter g.live ≡ Some u → Kept g (undo_entry g worker iter (Some u))
undo_entry_keeps g worker iter u h k =
    kept g h (live_start g) (inverse g.state u.call u.reply) g.done (without_last worker iter g.live) g.mark h.done_calls (calls_without worker iter g.live h.live_calls) h.done_legal
    (undone g.kind (gate_rows g) h.valid (live_start g) g.state worker iter u g.live (live_stands g h) h.live_calls (live_of g h) k) h.numbers h.mark (each_without (λ x. x.done ≡ None) worker iter g.live h.uncommitted)

undo_keeps_by : (g : GateView) (worker iter : ℕ) (o : Option Entry) → last_of worker iter g.live ≡ o → IsLawfulGate g → Kept g (undo_entry g worker iter o)
undo_keeps_by g worker iter None k h = record { lawful = h; same_start = refl }
undo_keeps_by g worker iter (Some u) k h = undo_entry_keeps g worker iter u h k

pub undo_keeps : (g : GateView) (worker iter : ℕ) → IsLawfulGate g → Kept g (undo_last g worker iter)
undo_keeps g worker iter h = undo_keeps_by g worker iter (last_of worker iter g.live) refl h

-- the entries of an iteration are whole iterations, and so are those of a worker
pub of_whole : (worker iter : ℕ) (e m : Entry) → is_of worker iter e ≡ false → is_of worker iter m ≡ true → same_iteration e m ≡ false
of_whole worker iter e m n q = of_same worker iter e m q ∙ n

pub release_keeps : (g : GateView) (worker iter number : ℕ) → IsLawfulGate g → g.mark ≤ number → Kept g (release g worker iter number)
release_keeps g worker iter number h below =
    let ms : List Entry = entries_of worker iter g.live in
    let os : List Entry = others_than worker iter g.live in
    let m : State = after (live_start g) ms in
    let p : Parted g.kind (gate_rows g) h.valid (live_start g) g.state ms os = parted g.kind (gate_rows g) h.valid (is_of worker iter) (of_whole worker iter) (live_start g) g.state g.live (live_stands g h) h.live_calls (live_of g h) in
    let marks : mark_of (mark_of 0 g.done) (done_under number ms) ≡ (if has_entry worker iter g.live then number + 1 else g.mark) =
    ap (λ k. mark_of k (done_under number ms)) (sym h.mark) ∙ mark_released number g.mark worker iter g.live in
    let low : mark_of 0 g.done ≤ number + 1 = let e : g.mark ≡ mark_of 0 g.done = h.mark in omega arith in
    kept g h m g.state (g.done ++ done_under number ms) os (if has_entry worker iter g.live then number + 1 else g.mark)
    (calls_append g.done (done_under number ms) h.done_calls (subst replays.AreCalls (sym (mades_of-under number ms)) (calls_filter (is_of worker iter) g.live h.live_calls)))
    (calls_filter (λ x. not (is_of worker iter x)) g.live h.live_calls)
    (legal_join (start g) (live_start g) m g.done (done_under number ms) h.done_legal (subst (λ mades. replays.Legal (live_start g) mades m) (sym (mades_of-under number ms)) p.first))
    p.rest (rise_append 0 g.done (done_under number ms) h.numbers (rise_under number (mark_of 0 g.done) ms low))
    (sym (mark_of-append 0 g.done (done_under number ms) ∙ marks)) (each_filter (λ x. x.done ≡ None) (λ x. not (is_of worker iter x)) g.live h.uncommitted)

-- What follows for lawful gates.
use Rattle.std.specs.Prelude.{◌≡◌, ℕ, zero, suc, ◌+◌, ◌<◌, ◌≤◌, Bool, true, false, not, ◌||◌, ◌==◌, if◌then◌else◌, Option, Some, None, List, [], ◌∷◌, ◌++◌, filter, length, refl}
use Rattle.std.proofs.Common.{sym, ◌∙◌, ap, subst, arith}
use Rattle.gx_base.specs.declared.acts.Entry.{Entry}
use Rattle.gate_core.specs.Entries.{mades_of, same_iteration, is_of, entries_of, others_than, entries_by, has_entry, last_of, without_last, Each, mark_after, mark_of, NumbersRise}
use Rattle.gate_core.specs.Replays.{after, LegalEntries}
use Rattle.gate_core.specs.Views.{GateView, gate_rows, live_start, start, IsLawfulGate, undo_entry, undo_last, undo_times}
use Rattle.gate_core.proofs.lists.EntryLists.{neither, both_true, both_ways}
use Rattle.gate_core.proofs.replays.Leaving.{Parted, parted}
use Rattle.gate_core.proofs.lawful.KeptLawful.{Kept, undo_keeps, of_whole, live_of, live_stands}
use Rattle.gate_core.proofs.replays.EntryReplays.{legal_join}
use Rattle.gx_base.proofs.CallerLemmas.{after-Legal}
use Rattle.std.specs.Cmp.{unsigned_Decides}

-- the arrangement leads from the start to the state
pub replayed : (g : GateView) → IsLawfulGate g → LegalEntries (start g) (g.done ++ g.live) g.state
replayed g h = legal_join (start g) (live_start g) g.state g.done g.live h.done_legal h.live_legal

-- the entries of an iteration may stand before those of all others
pub released_first : (g : GateView) (worker iter : ℕ) → IsLawfulGate g → LegalEntries (live_start g) (entries_of worker iter g.live ++ others_than worker iter g.live) g.state
released_first g worker iter h =
    let ms : List Entry = entries_of worker iter g.live in
    let p : Parted g.kind (gate_rows g) h.valid (live_start g) g.state ms (others_than worker iter g.live) =
    parted g.kind (gate_rows g) h.valid (is_of worker iter) (of_whole worker iter) (live_start g) g.state g.live (live_stands g h) h.live_calls (live_of g h) in
    legal_join (live_start g) (after (live_start g) ms) g.state ms (others_than worker iter g.live) p.first p.rest.legal

by_whole_at : (worker : ℕ) (e m : Entry) (b : Bool) → same_iteration e m ≡ b → (e.worker == worker) ≡ false → (m.worker == worker) ≡ true → b ≡ false
by_whole_at worker e m true q n k =
    let same : e.worker ≡ m.worker = (unsigned_Decides e.worker m.worker).0 (both_true (e.worker == m.worker) (e.iter == m.iter) q).0 in
    absurd (both_ways (e.worker == worker) (ap (λ w. w == worker) same ∙ k) n)
by_whole_at worker e m false q n k = refl

by_whole : (worker : ℕ) (e m : Entry) → (e.worker == worker) ≡ false → (m.worker == worker) ≡ true → same_iteration e m ≡ false
by_whole worker e m n k = by_whole_at worker e m (same_iteration e m) refl n k

-- a worker's live entries alone replay after the done ones
pub alone : (g : GateView) (worker : ℕ) → IsLawfulGate g → LegalEntries (start g) (g.done ++ entries_by worker g.live) (after (live_start g) (entries_by worker g.live))
alone g worker h =
    let ms : List Entry = entries_by worker g.live in
    let p : Parted g.kind (gate_rows g) h.valid (live_start g) g.state ms (filter (λ e. not (e.worker == worker)) g.live) =
    parted g.kind (gate_rows g) h.valid (λ e. e.worker == worker) (by_whole worker) (live_start g) g.state g.live (live_stands g h) h.live_calls (live_of g h) in
    legal_join (start g) (live_start g) (after (live_start g) ms) g.done ms h.done_legal p.first

pub replays_alone : (g : GateView) (worker : ℕ) → IsLawfulGate g → LegalEntries (start g) (g.done ++ entries_by worker g.live) (after (start g) (g.done ++ entries_by worker g.live))
replays_alone g worker h =
    let es : List Entry = g.done ++ entries_by worker g.live in
    let end : after (start g) es ≡ after (live_start g) (entries_by worker g.live) = after-Legal (start g) (after (live_start g) (entries_by worker g.live)) (mades_of es) (alone g worker h) in
    subst (λ t. LegalEntries (start g) es t) (sym end) (alone g worker h)

-- all calls of an iteration undone

others_by : (worker iter : ℕ) (x : Entry) (es : List Entry) (b : Bool) → is_of worker iter x ≡ b → has_entry worker iter es ≡ false → others_than worker iter es ≡ es → b ≡ false → (if not b then x ∷ others_than worker iter es else others_than worker iter es) ≡ x ∷ es
others_by worker iter x es true q n h k = absurd (cc)
others_by worker iter x es false q n h k = ap (λ ys. x ∷ ys) h

others_all : (worker iter : ℕ) (es : List Entry) → has_entry worker iter es ≡ false → others_than worker iter es ≡ es
others_all worker iter [] n = refl
others_all worker iter (x ∷ es) n =
    let p : (is_of worker iter x ≡ false) × (has_entry worker iter es ≡ false) = neither (is_of worker iter x) (has_entry worker iter es) n in
    others_by worker iter x es (is_of worker iter x) refl p.1 (others_all worker iter es p.1) p.0

-- what an undo leaves of the others, and how many entries of the iteration
pub record Fewer (worker iter : ℕ) (es : List Entry) (o : Option Entry) (ws : List Entry) : Type 0 where
  pub others : others_than worker iter ws ≡ others_than worker iter es
  pub count : (u : Entry) → o ≡ Some u → length (entries_of worker iter es) ≡ suc (length (entries_of worker iter ws))
  pub none : o ≡ None → has_entry worker iter es ≡ false

taken_out : (worker iter : ℕ) (x : Entry) (es : List Entry) → is_of worker iter x ≡ true → (others_than worker iter (x ∷ es) ≡ others_than worker iter es) × (entries_of worker iter (x ∷ es) ≡ x ∷ entries_of worker iter es)
taken_out worker iter x es q =
    (ap (λ (b : Bool). if not b then x ∷ others_than worker iter es else others_than worker iter es) q, ap (λ (b : Bool). if b then x ∷ entries_of worker iter es else entries_of worker iter es) q)

kept_on : (worker iter : ℕ) (x : Entry) (es ws : List Entry) (b : Bool) → length (entries_of worker iter es) ≡ suc (length (entries_of worker iter ws))
    → length (if b then x ∷ entries_of worker iter es else entries_of worker iter es) ≡ suc (length (if b then x ∷ entries_of worker iter ws else entries_of worker iter ws))
kept_on worker iter x es ws true h = ap (λ n. suc n) h
kept_on worker iter x es ws false h = h

fewer_by : (worker iter : ℕ) (x : Entry) (es : List Entry) (b c : Bool) → has_entry worker iter es ≡ b → is_of worker iter x ≡ c → Fewer worker iter es (last_of worker iter es) (without_last worker iter es)
    → Fewer worker iter (x ∷ es) (if b then last_of worker iter es else (if c then Some x else None)) (if b then x ∷ without_last worker iter es else (if c then es else x ∷ es))
fewer_by worker iter x es true c e f h = record {
  others = ap (λ (ys : List Entry). if not (is_of worker iter x) then x ∷ ys else ys) h.others;
  count = λ u k. kept_on worker iter x es (without_last worker iter es) (is_of worker iter x) (h.count u k);
  none = λ k. absurd (both_ways (has_entry worker iter es) e (h.none k));
}
fewer_by worker iter x es false true e f h = record {
  others = sym (taken_out worker iter x es f).0;
  count = λ u k. ap length (taken_out worker iter x es f).1;
  none = λ k. absurd (cc);
}
fewer_by worker iter x es false false e f h = record { others = refl; count = λ u k. absurd (cc); none = λ k. ap (λ (p : Bool). p || has_entry worker iter es) f ∙ e }

fewer : (worker iter : ℕ) (es : List Entry) → Fewer worker iter es (last_of worker iter es) (without_last worker iter es)
fewer worker iter [] = record { others = refl; count = λ u k. absurd (cc); none = λ k. refl }
fewer worker iter (x ∷ es) = fewer_by worker iter x es (has_entry worker iter es) (is_of worker iter x) refl refl (fewer worker iter es)

none_counted : (worker iter : ℕ) (es : List Entry) → length (entries_of worker iter es) ≡ 0 → has_entry worker iter es ≡ false
none_counted worker iter [] n = refl
none_counted worker iter (x ∷ es) n = counted (is_of worker iter x) (has_entry worker iter es) (entries_of worker iter es) (none_counted worker iter es) n
  where
    counted : (b c : Bool) (ms : List Entry) → (length ms ≡ 0 → c ≡ false) → length (if b then x ∷ ms else ms) ≡ 0 → (b || c) ≡ false
    counted true c ms h n = absurd (omega arith)
    counted false c ms h n = h n

-- the gate after entries of the iteration were undone, so far as it is known
pub record Undone (worker iter : ℕ) (old new : GateView) : Type 0 where
  pub lawful : IsLawfulGate new
  pub same_start : start new ≡ start old
  pub fields : ◌≡◌ {A = GateView} new (record old { state = new.state; live = new.live })
  pub others : others_than worker iter new.live ≡ others_than worker iter old.live

undone_step_by : (g : GateView) (worker iter n : ℕ) (o : Option Entry) → IsLawfulGate (undo_entry g worker iter o) → start (undo_entry g worker iter o) ≡ start g → Fewer worker iter g.live o (without_last worker iter g.live)
    → length (entries_of worker iter g.live) ≡ suc n → Undone worker iter g (undo_entry g worker iter o) × (length (entries_of worker iter (undo_entry g worker iter o).live) ≡ n)
undone_step_by g worker iter n None k s f c = absurd (no_entries worker iter g.live n (f.none refl) c)
  where
    no_entries : (worker iter : ℕ) (es : List Entry) (n : ℕ) → has_entry worker iter es ≡ false → length (entries_of worker iter es) ≡ suc n → ⊥
    no_entries worker iter [] n h c = omega arith
    no_entries worker iter (x ∷ es) n h c =
        let p : (is_of worker iter x ≡ false) × (has_entry worker iter es ≡ false) = neither (is_of worker iter x) (has_entry worker iter es) h in
        no_entries worker iter es n p.1 (sym (ap (λ (b : Bool). length (if b then x ∷ entries_of worker iter es else entries_of worker iter es)) p.0) ∙ c)
undone_step_by g worker iter n (Some u) k s f c = (
  record { lawful = k; same_start = s; fields = refl; others = f.others },
  (let d : length (entries_of worker iter g.live) ≡ suc (length (entries_of worker iter (without_last worker iter g.live))) = f.count u refl in omega arith),
)

undone_times : (n : ℕ) (g : GateView) (worker iter : ℕ) → IsLawfulGate g → length (entries_of worker iter g.live) ≡ n
    → undo_times n g worker iter ≡ record g { state = after (start g) (g.done ++ others_than worker iter g.live); live = others_than worker iter g.live }
undone_times zero g worker iter h c =
    let same : others_than worker iter g.live ≡ g.live = others_all worker iter g.live (none_counted worker iter g.live c) in
    let state : after (start g) (g.done ++ others_than worker iter g.live) ≡ g.state = ap (λ es. after (start g) (g.done ++ es)) same ∙ after-Legal (start g) g.state (mades_of (g.done ++ g.live)) (replayed g h) in
    λ i. record g { state = sym state i; live = sym same i }
undone_times (suc n) g worker iter h c =
    let k : Kept g (undo_last g worker iter) = undo_keeps g worker iter h in
    let u : Undone worker iter g (undo_last g worker iter) × (length (entries_of worker iter (undo_last g worker iter).live) ≡ n) =
    undone_step_by g worker iter n (last_of worker iter g.live) k.lawful k.same_start (fewer worker iter g.live) c in
    let new : GateView = undo_last g worker iter in
    undone_times n new worker iter k.lawful u.1
    ∙ ap (λ (x : GateView). record x { state = after (start new) (new.done ++ others_than worker iter new.live); live = others_than worker iter new.live }) u.0.fields
    ∙ (λ i. record g { state = after (k.same_start i) ((ap (λ (x : GateView). x.done) u.0.fields i) ++ u.0.others i); live = u.0.others i })

pub all_undone : (g : GateView) (worker iter : ℕ) → IsLawfulGate g
    → undo_times (length (entries_of worker iter g.live)) g worker iter ≡ record g { state = after (start g) (g.done ++ others_than worker iter g.live); live = others_than worker iter g.live }
all_undone g worker iter h = undone_times (length (entries_of worker iter g.live)) g worker iter h refl

-- numbers

low_below : (mark : ℕ) (es : List Entry) → NumbersRise mark es → mark ≤ mark_of mark es
low_below mark [] h = omega arith
low_below mark (e ∷ es) h =
    let first : mark_after e.done ≡ h.0.0 + 1 = ap mark_after h.0.1 in
    let rest : mark_after e.done ≤ mark_of (mark_after e.done) es = low_below (mark_after e.done) es h.1 in
    let here : mark ≤ h.0.0 + 1 = h.0.2 in
    omega arith

numbers_at : (low top : ℕ) (es : List Entry) → NumbersRise low es → mark_of low es ≡ top → Each (λ e. (number : ℕ) × (e.done ≡ Some number) × (number < top)) es
numbers_at low top [] h q = tt
numbers_at low top (e ∷ es) h q =
    let first : mark_after e.done ≡ h.0.0 + 1 = ap mark_after h.0.1 in
    let rest : mark_after e.done ≤ mark_of (mark_after e.done) es = low_below (mark_after e.done) es h.1 in
    ((h.0.0, h.0.1, omega arith), numbers_at (mark_after e.done) top es h.1 q)

-- the numbers of done entries are below the mark
pub numbers_below : (g : GateView) → IsLawfulGate g → Each (λ e. (number : ℕ) × (e.done ≡ Some number) × (number < g.mark)) g.done
numbers_below g h = numbers_at 0 g.mark g.done h.numbers (sym h.mark)

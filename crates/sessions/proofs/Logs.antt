-- The entries of a session in rooms, as its turns change them.
use Rattle.std.specs.Prelude.{◌≡◌, ℕ, Bool, true, false, not, ◌&&◌, ◌==◌, if◌then◌else◌, Option, Some, None, List, [], ◌∷◌, ◌++◌, refl}
use Rattle.std.proofs.Common.{sym, ◌∙◌, ap}
use Rattle.std.proofs.lemmas.List.Elements.{filter-append}
use Rattle.std.proofs.lemmas.List.{append-nil}
use Rattle.gx_base.specs.declared.acts.Entry.{Entry}
use Rattle.gx_base.specs.declared.acts.Step.{Step}
use Rattle.gx_base.specs.declared.calls.Call.{Call}
use Rattle.gx_base.specs.declared.items.Item.{Item}
use Rattle.gx_base.specs.Entries.{entries_by}
use Rattle.gate_core.specs.Entries.{Each, mades_of, is_of, entries_of, others_than, has_entry, last_of, without_last}
use Rattle.gate_core.specs.Views.{GateView, asked_entry, admit, undo_entry, undo_last, release}
use Rattle.gate_core.proofs.CallerLemmas.{numbers_of}
use Rattle.rooms.specs.RoomsViews.{entries_for}
use Rattle.speculation.proofs.Putting.{no_bool, same_number, numbers_equal}
use Rattle.speculation.proofs.Sound.{SoundLog}
use Rattle.sessions.specs.Places.{IsLogIn}
use Rattle.sessions.specs.Turns.{OthersStay}

-- ---- entries of the workers that rooms act for

module _ (acts : ℕ → Bool) (worker iter : ℕ) (item : Item) (mine : acts worker ≡ true) where
  kept_by : (e : Entry) (os ps : List Entry) (b c : Bool) → is_of worker iter e ≡ b → acts e.worker ≡ c → entries_of worker iter os ≡ entries_of worker iter ps
      → entries_of worker iter (if c then e ∷ os else os) ≡ (if b then e ∷ entries_of worker iter ps else entries_of worker iter ps)
  kept_by e os ps true true p q h = ap (λ (b : Bool). if b then e ∷ entries_of worker iter os else entries_of worker iter os) p ∙ ap (λ ms. e ∷ ms) h
  kept_by e os ps true false p q h = absurd (no_bool (acts e.worker) (ap acts (numbers_of worker iter e p).0 ∙ mine) q)
  kept_by e os ps false true p q h = ap (λ (b : Bool). if b then e ∷ entries_of worker iter os else entries_of worker iter os) p ∙ h
  kept_by e os ps false false p q h = h

  pub of_acting : (es : List Entry) → entries_of worker iter (entries_for acts es) ≡ entries_of worker iter es
  of_acting [] = refl
  of_acting (e ∷ es) = kept_by e (entries_for acts es) es (is_of worker iter e) (acts e.worker) refl refl (of_acting es)

  abbrev P : Entry → Type 0
  P e = (e.worker == worker) ≡ true → (e.iter ≡ iter) × (e.item ≡ item)

  shown_by : (e : Entry) (os : List Entry) (b : Bool) → acts e.worker ≡ b → Each P (if b then e ∷ os else os) → P e × Each P os
  shown_by e os true q h = h
  shown_by e os false q h = (λ w. absurd (no_bool (acts e.worker) (ap acts (numbers_equal e.worker worker w) ∙ mine) q), h)

  shown : (es : List Entry) → Each P (entries_for acts es) → Each P es
  shown [] h = tt
  shown (e ∷ es) h = let p : P e × Each P (entries_for acts es) = shown_by e (entries_for acts es) (acts e.worker) refl h in (p.0, shown es p.1)

  hidden_by : (e : Entry) (os : List Entry) (b : Bool) → P e → Each P os → Each P (if b then e ∷ os else os)
  hidden_by e os true p h = (p, h)
  hidden_by e os false p h = h

  hidden : (es : List Entry) → Each P es → Each P (entries_for acts es)
  hidden [] h = tt
  hidden (e ∷ es) h = hidden_by e (entries_for acts es) (acts e.worker) h.0 (hidden es h.1)

  -- a log is told by these entries as by all
  pub log_shown : (room : ℕ) (steps : List Step) (es : List Entry) → IsLogIn room worker iter item steps (entries_for acts es) → IsLogIn room worker iter item steps es
  log_shown room steps es h = record { current = shown es h.current; entries = ap mades_of (sym (of_acting es)) ∙ h.entries }

  pub log_hidden : (room : ℕ) (steps : List Step) (es : List Entry) → IsLogIn room worker iter item steps es → IsLogIn room worker iter item steps (entries_for acts es)
  log_hidden room steps es h = record { current = hidden es h.current; entries = ap mades_of (of_acting es) ∙ h.entries }

pub log_sound : (room worker iter : ℕ) (item : Item) (steps : List Step) (es : List Entry) → IsLogIn room worker iter item steps es → SoundLog room worker iter item steps es
log_sound room worker iter item steps es h = record { current = h.current; entries = h.entries }

pub sound_log : (room worker iter : ℕ) (item : Item) (steps : List Step) (es : List Entry) → SoundLog room worker iter item steps es → IsLogIn room worker iter item steps es
sound_log room worker iter item steps es h = record { current = h.current; entries = h.entries }

-- ---- the entries of other workers

module _ (other : ℕ) (acts : ℕ → Bool) where
  swap_by : (e : Entry) (xs ys : List Entry) (b c : Bool) → acts e.worker ≡ b → (e.worker == other) ≡ c → entries_by other xs ≡ entries_for acts ys
      → entries_by other (if b then e ∷ xs else xs) ≡ entries_for acts (if c then e ∷ ys else ys)
  swap_by e xs ys true true p q h =
      ap (λ (b : Bool). if b then e ∷ entries_by other xs else entries_by other xs) q ∙ ap (λ ms. e ∷ ms) h ∙ sym (ap (λ (b : Bool). if b then e ∷ entries_for acts ys else entries_for acts ys) p)
  swap_by e xs ys true false p q h = ap (λ (b : Bool). if b then e ∷ entries_by other xs else entries_by other xs) q ∙ h
  swap_by e xs ys false true p q h = h ∙ sym (ap (λ (b : Bool). if b then e ∷ entries_for acts ys else entries_for acts ys) p)
  swap_by e xs ys false false p q h = h

  swap : (es : List Entry) → entries_by other (entries_for acts es) ≡ entries_for acts (entries_by other es)
  swap [] = refl
  swap (e ∷ es) = swap_by e (entries_for acts es) (entries_by other es) (acts e.worker) (e.worker == other) refl refl (swap es)

pub others_hidden : (acts : ℕ → Bool) (worker : ℕ) (was now : List Entry) → OthersStay worker was now → OthersStay worker (entries_for acts was) (entries_for acts now)
others_hidden acts worker was now h = λ other n. swap other acts now ∙ ap (entries_for acts) (h other n) ∙ sym (swap other acts was)

-- other workers' entries stay where only entries of this worker come or go
module _ (worker iter other : ℕ) (apart : (other == worker) ≡ false) where
  not_theirs : (e : Entry) → is_of worker iter e ≡ true → (e.worker == other) ≡ false
  not_theirs e h = not_by (e.worker == other) refl where
    not_by : (b : Bool) → (e.worker == other) ≡ b → (e.worker == other) ≡ false
    not_by true w = absurd (no_bool (other == worker) (ap (λ k. k == worker) (sym (numbers_equal e.worker other w) ∙ (numbers_of worker iter e h).0) ∙ same_number worker) apart)
    not_by false w = w

  skipped : (e : Entry) (os : List Entry) → is_of worker iter e ≡ true → entries_by other (e ∷ os) ≡ entries_by other os
  skipped e os h = ap (λ (b : Bool). if b then e ∷ entries_by other os else entries_by other os) (not_theirs e h)

  same_rest : (e : Entry) (os ps : List Entry) → entries_by other os ≡ entries_by other ps → entries_by other (e ∷ os) ≡ entries_by other (e ∷ ps)
  same_rest e os ps h = ap (λ (ms : List Entry). if e.worker == other then e ∷ ms else ms) h

  others_by : (e : Entry) (es os : List Entry) (b : Bool) → is_of worker iter e ≡ b → entries_by other os ≡ entries_by other es → entries_by other (if not b then e ∷ os else os) ≡ entries_by other (e ∷ es)
  others_by e es os true q h = h ∙ sym (skipped e es q)
  others_by e es os false q h = same_rest e os es h

  others_remain : (es : List Entry) → entries_by other (others_than worker iter es) ≡ entries_by other es
  others_remain [] = refl
  others_remain (e ∷ es) = others_by e es (others_than worker iter es) (is_of worker iter e) refl (others_remain es)

  last_by : (e : Entry) (es os : List Entry) (b c : Bool) → is_of worker iter e ≡ c → entries_by other os ≡ entries_by other es
      → entries_by other (if b then e ∷ os else (if c then es else e ∷ es)) ≡ entries_by other (e ∷ es)
  last_by e es os true c q h = same_rest e os es h
  last_by e es os false true q h = sym (skipped e es q)
  last_by e es os false false q h = refl

  without_remain : (es : List Entry) → entries_by other (without_last worker iter es) ≡ entries_by other es
  without_remain [] = refl
  without_remain (e ∷ es) = last_by e es (without_last worker iter es) (has_entry worker iter es) (is_of worker iter e) refl (without_remain es)

  one_more : (e : Entry) (es : List Entry) → is_of worker iter e ≡ true → entries_by other (es ++ e ∷ []) ≡ entries_by other es
  one_more e es h = filter-append (λ (x : Entry). x.worker == other) es (e ∷ []) ∙ ap (λ (ms : List Entry). entries_by other es ++ ms) (skipped e [] h) ∙ append-nil (entries_by other es)

module _ (worker iter : ℕ) where
  own_asked : (item : Item) (call : Call) (g : GateView) → is_of worker iter (asked_entry worker iter item call g.state) ≡ true
  own_asked item call g = λ i. same_number worker i && same_number iter i

  pub others_admit : (item : Item) (call : Call) (g : GateView) → OthersStay worker g.live (admit g worker iter item call).live
  others_admit item call g = λ other n. one_more worker iter other n (asked_entry worker iter item call g.state) g.live (own_asked item call g)

  undo_by : (g : GateView) (o : Option Entry) → OthersStay worker g.live (undo_entry g worker iter o).live
  undo_by g None = λ other n. refl
  undo_by g (Some e) = λ other n. without_remain worker iter other n g.live

  pub others_undo : (g : GateView) → OthersStay worker g.live (undo_last g worker iter).live
  others_undo g = undo_by g (last_of worker iter g.live)

  pub others_release : (number : ℕ) (g : GateView) → OthersStay worker g.live (release g worker iter number).live
  others_release number g = λ other n. others_remain worker iter other n g.live

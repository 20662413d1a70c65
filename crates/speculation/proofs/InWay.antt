-- The first uncommitted entry that is in the way of a call, as the search of a gate finds it, and as the table of events has it.
use Rattle.std.specs.Prelude.{◌≡◌, ℕ, zero, suc, ◌+◌, ◌<◌, Bool, true, false, if◌then◌else◌, Option, Some, None, List, [], ◌∷◌, slice_get, slice_index_or, take, refl}
use Rattle.std.proofs.Common.{sym, ◌∙◌, ap, subst, arith}
use Rattle.gx_base.specs.declared.acts.Entry.{Entry}
use Rattle.gx_base.specs.States.{State}
use Rattle.gx_base.specs.Steps.{next_state}
use Rattle.gx_base.specs.Tables.{Rows}
use Rattle.gate_core.specs.Replays.{after, pair_ok, further, first_failing}
use Rattle.gate_core.specs.Views.{GateView, gate_rows, live_start, in_way}
use Rattle.speculation.specs.EventRows.{NoneInWay, IsFirstInWay}
use Rattle.speculation.specs.Machines.{live_at}

some_same : {A : Type 0} {x y : A} → Some x ≡ Some y → x ≡ y
some_same e = cc

module _ (rows : Rows) (asked : Entry) where
  abbrev stands : State → List Entry → ℕ → Entry → Bool
  stands s es place held = pair_ok rows (after s (take place es)) held asked

  abbrev AllStand : State → List Entry → Type 0
  AllStand s es = (place : ℕ) (held : Entry) → slice_get es place ≡ Some held → stands s es place held ≡ true

  abbrev FirstFails : State → List Entry → ℕ → Entry → Type 0
  FirstFails s es place held =
      (slice_get es place ≡ Some held) × (stands s es place held ≡ false) × ((earlier : ℕ) (other : Entry) → earlier < place → slice_get es earlier ≡ Some other → stands s es earlier other ≡ true)

  -- ---- what the search finds

  all_by : (s : State) (e : Entry) (es : List Entry) (b : Bool) (o : Option ℕ) → pair_ok rows s e asked ≡ b → (if b then further o else Some 0) ≡ None → (o ≡ None → AllStand (next_state s e.call) es) → AllStand s (e ∷ es)
  all_by s e es true None q n r zero held h = subst (λ x. pair_ok rows s x asked ≡ true) (some_same h) q
  all_by s e es true None q n r (suc place) held h = r refl place held h
  all_by s e es true (Some p) q n r place held h = absurd (cc)
  all_by s e es false o q n r place held h = absurd (cc)

  all_stand : (s : State) (es : List Entry) → first_failing rows s es asked ≡ None → AllStand s es
  all_stand s [] n = λ place held h. absurd (cc)
  all_stand s (e ∷ es) n = all_by s e es (pair_ok rows s e asked) (first_failing rows (next_state s e.call) es asked) refl n (all_stand (next_state s e.call) es)

  none_by : (b : Bool) (o : Option ℕ) → b ≡ true → o ≡ None → (if b then further o else Some 0) ≡ None
  none_by b o q n = (λ i. if q i then further (n i) else Some 0)

  none_fails : (s : State) (es : List Entry) → AllStand s es → first_failing rows s es asked ≡ None
  none_fails s [] a = refl
  none_fails s (e ∷ es) a = none_by (pair_ok rows s e asked) (first_failing rows (next_state s e.call) es asked) (a 0 e refl) (none_fails (next_state s e.call) es (λ place held h. a (suc place) held h))

  -- ---- the first entry that fails

  earlier_by : (s : State) (e : Entry) (es : List Entry) (p : ℕ) → pair_ok rows s e asked ≡ true
      → ((earlier : ℕ) (other : Entry) → earlier < p → slice_get es earlier ≡ Some other → stands (next_state s e.call) es earlier other ≡ true)
      → (earlier : ℕ) (other : Entry) → earlier < suc p → slice_get (e ∷ es) earlier ≡ Some other → stands s (e ∷ es) earlier other ≡ true
  earlier_by s e es p q r zero other l h = subst (λ x. pair_ok rows s x asked ≡ true) (some_same h) q
  earlier_by s e es p q r (suc earlier) other l h = r earlier other (omega arith) h

  first_by : (default : Entry) (s : State) (e : Entry) (es : List Entry) (b : Bool) (o : Option ℕ) (place : ℕ) → pair_ok rows s e asked ≡ b → (if b then further o else Some 0) ≡ Some place
      → ((p : ℕ) → o ≡ Some p → FirstFails (next_state s e.call) es p (slice_index_or es p default)) → FirstFails s (e ∷ es) place (slice_index_or (e ∷ es) place default)
  first_by default s e es true None place q k r = absurd (cc)
  first_by default s e es true (Some p) place q k r =
      let f : FirstFails (next_state s e.call) es p (slice_index_or es p default) = r p refl in
      let n : suc p ≡ p + 1 = omega arith in
      subst (λ k. FirstFails s (e ∷ es) k (slice_index_or (e ∷ es) k default)) (n ∙ some_same k) (f.0, f.1, earlier_by s e es p q f.2)
  first_by default s e es false o place q k r = subst (λ k. FirstFails s (e ∷ es) k (slice_index_or (e ∷ es) k default)) (some_same k) (refl, q, λ earlier other l h. absurd (omega arith))

  first_fails : (default : Entry) (s : State) (es : List Entry) (place : ℕ) → first_failing rows s es asked ≡ Some place → FirstFails s es place (slice_index_or es place default)
  first_fails default s [] place k = absurd (cc)
  first_fails default s (e ∷ es) place k = first_by default s e es (pair_ok rows s e asked) (first_failing rows (next_state s e.call) es asked) place refl k (first_fails default (next_state s e.call) es)

  -- ---- and the search finds it

  found_by : (b : Bool) (o : Option ℕ) (p : ℕ) → b ≡ true → o ≡ Some p → (if b then further o else Some 0) ≡ Some (suc p)
  found_by b o p q k =
      let n : p + 1 ≡ suc p = omega arith in
      (λ i. if q i then further (k i) else Some 0) ∙ ap (λ k. Some k) n

  finds : (s : State) (es : List Entry) (place : ℕ) (held : Entry) → FirstFails s es place held → first_failing rows s es asked ≡ Some place
  finds s [] place held f = absurd (let h : slice_get [] place ≡ Some held = f.0 in cc)
  finds s (e ∷ es) zero held f =
      let q : pair_ok rows s e asked ≡ false = subst (λ x. pair_ok rows s x asked ≡ false) (sym (some_same f.0)) f.1 in
      ap (λ (b : Bool). if b then further (first_failing rows (next_state s e.call) es asked) else Some 0) q
  finds s (e ∷ es) (suc place) held f =
      found_by (pair_ok rows s e asked) (first_failing rows (next_state s e.call) es asked) place (f.2 0 e (omega arith) refl)
      (finds (next_state s e.call) es place held (f.0, f.1, λ earlier other l h. f.2 (suc earlier) other (omega arith) h))

held_is : (es : List Entry) (place : ℕ) (held default : Entry) → slice_get es place ≡ Some held → slice_index_or es place default ≡ held
held_is [] place held default h = absurd (cc)
held_is (e ∷ es) zero held default h = some_same h
held_is (e ∷ es) (suc place) held default h = held_is es place held default h

-- ---- gates

pub none_in_way : (g : GateView) (asked : Entry) → in_way g asked ≡ None → NoneInWay g asked
none_in_way g asked n = all_stand (gate_rows g) asked (live_start g) g.live n

pub nothing_found : (g : GateView) (asked : Entry) → NoneInWay g asked → in_way g asked ≡ None
nothing_found g asked a = none_fails (gate_rows g) asked (live_start g) g.live a

pub first_in_way : (g : GateView) (asked : Entry) (place : ℕ) → in_way g asked ≡ Some place → IsFirstInWay g asked (live_at g place asked)
first_in_way g asked place k =
    let f : FirstFails (gate_rows g) asked (live_start g) g.live place (live_at g place asked) = first_fails (gate_rows g) asked asked (live_start g) g.live place k in
    record { place = place; is_there = f.0; in_way = f.1; is_first = f.2 }

pub found_in_way : (g : GateView) (asked held : Entry) → (f : IsFirstInWay g asked held) → in_way g asked ≡ Some f.place
found_in_way g asked held f = finds (gate_rows g) asked (live_start g) g.live f.place held (f.is_there, f.in_way, f.is_first)

pub held_in_way : (g : GateView) (asked held : Entry) → (f : IsFirstInWay g asked held) → live_at g f.place asked ≡ held
held_in_way g asked held f = held_is g.live f.place held asked f.is_there

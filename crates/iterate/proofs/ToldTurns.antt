-- Conflicts in the trace of a run tell right, at the machine that so many turns of the schedule lead to.
use Rattle.std.specs.Prelude.{◌≡◌, ◌⊎◌, ℕ, ◌+◌, ◌<◌, Bool, true, false, if◌then◌else◌, Some, List, [], ◌∷◌, ◌++◌, length, take, slice_get, refl}
use Rattle.std.proofs.Common.{sym, ◌∙◌, ap, subst, inl, inr, get_or}
use Rattle.std.proofs.lemmas.List.{take_more}
use Rattle.gx_base.specs.Plans.{Operator}
use Rattle.speculation.specs.Events.{then_turn}
use Rattle.speculation.specs.Machines.{Machine, Place, place_of, turn_at}
use Rattle.speculation.specs.ScheduledRuns.{is_empty, Run, begun, then_turned, scheduled}
use Rattle.speculation.proofs.Putting.{no_bool}
use Rattle.sessions.specs.declared.events.Event.{Event as CodeEvent}
use Rattle.sessions.specs.declared.events.Event.TheVariants as code
use Rattle.sessions.specs.declared.events.Turn.{Turn as CodeTurn}
use Rattle.iterate.specs.PlayedTurns.{IsTracedTurn, IsToldTurn, AddsNoConflict}
use Rattle.iterate.specs.Plays.{ConflictsTellRight}
use Rattle.sessions.specs.Turns.{event_of, is_conflict, TellsRight}
use Rattle.iterate.proofs.Beginnings.{place_by}

-- ---- turns that are no conflicts

pub adds_nothing : (trace : List CodeTurn) → AddsNoConflict trace trace
adds_nothing trace k t e = inl e

pub adds_more : (a b c : List CodeTurn) → AddsNoConflict a b → AddsNoConflict b c → AddsNoConflict a c
adds_more a b c h n = λ k t e. by k t (n k t e)
  where
    by : (k : ℕ) (t : CodeTurn) → (slice_get b k ≡ Some t) ⊎ (is_conflict (event_of t.event) ≡ false) → (slice_get a k ≡ Some t) ⊎ (is_conflict (event_of t.event) ≡ false)
    by k t (inl there) = h k t there
    by k t (inr none) = inr none

tells_nothing : (p : Place) (worker : ℕ) (e : CodeEvent) → is_conflict (event_of e) ≡ false → TellsRight p worker e
tells_nothing p worker (code.Take item) h = tt
tells_nothing p worker (code.Call room call reply) h = tt
tells_nothing p worker (code.Conflict room told) h = absurd (cc)
tells_nothing p worker (code.Undo room call) h = tt
tells_nothing p worker (code.Commit number) h = tt
tells_nothing p worker code.Wait h = tt
tells_nothing p worker code.Drop h = tt
tells_nothing p worker code.Idle h = tt
tells_nothing p worker code.Busy h = tt

-- ---- turns of a schedule

module _ (op : Operator) where
  abbrev Then : Run → ℕ → Run
  Then r worker = then_turned r worker (turn_at op (place_of r.machine worker) worker)

  more_by : (b : Bool) (r next : Run) (schedule : List ℕ) (worker : ℕ) → (b ≡ true → is_empty r.machine.book.ready ≡ true) → is_empty (Run.machine (if b then r else scheduled op next schedule)).book.ready ≡ false
      → (is_empty (scheduled op next schedule).machine.book.ready ≡ false → scheduled op next (schedule ++ worker ∷ []) ≡ Then (scheduled op next schedule) worker)
      → (if b then r else scheduled op next (schedule ++ worker ∷ [])) ≡ Then (if b then r else scheduled op next schedule) worker
  more_by true r next schedule worker k e more = absurd (no_bool (is_empty r.machine.book.ready) (k refl) e)
  more_by false r next schedule worker k e more = more e

  -- one more worker
  scheduled_more : (r : Run) (schedule : List ℕ) (worker : ℕ) → is_empty (scheduled op r schedule).machine.book.ready ≡ false → scheduled op r (schedule ++ worker ∷ []) ≡ Then (scheduled op r schedule) worker
  unfolding scheduled
  scheduled_more r [] worker e = ap (λ (b : Bool). if b then r else Then r worker) e
  scheduled_more r (next ∷ schedule) worker e = more_by (is_empty r.machine.book.ready) r (Then r next) schedule worker (λ k. k) e (scheduled_more (Then r next) schedule worker)

  pub reached_first : (r : Run) (schedule : List ℕ) → r ≡ scheduled op r (take 0 schedule)
  unfolding scheduled
  reached_first r [] = refl
  reached_first r (worker ∷ schedule) = refl

  pub reached_more : (r now after : Run) (schedule : List ℕ) (k d : ℕ) → k < length schedule → is_empty now.machine.book.ready ≡ false → now ≡ scheduled op r (take k schedule) → IsTracedTurn op now after (get_or schedule k d)
      → after ≡ scheduled op r (take (k + 1) schedule)
  reached_more r now after schedule k d l e h t =
      let worker = get_or schedule k d in
      let same : Then now worker ≡ after = λ i. record { machine = sym t.turn_is.machine_is i; trace = (ap (then_turn now.trace worker) (sym t.turn_is.event_is) ∙ sym t.trace_is) i } in
      sym same ∙ ap (λ (x : Run). Then x worker) h
      ∙ sym (scheduled_more r (take k schedule) worker (subst (λ (x : Run). is_empty x.machine.book.ready ≡ false) h e))
      ∙ ap (scheduled op r) (sym (take_more schedule k d l))

  module _ (m : Machine) (schedule : List ℕ) where
    pub none_told : ConflictsTellRight op m schedule []
    none_told k t e = absurd (cc)

    pub told_more : (now : Machine) (k : ℕ) (old new : List CodeTurn) → length old ≡ k → now ≡ (scheduled op (begun m) (take k schedule)).machine → IsToldTurn now old new → ConflictsTellRight op m schedule old → ConflictsTellRight op m schedule new
    told_more now k old new size is turn h = λ j t e. by j t (place_by old turn.turn j t (ap (λ xs. slice_get xs j) (sym turn.trace_is) ∙ e))
      where
        last : TellsRight (place_of (scheduled op (begun m) (take (length old) schedule)).machine turn.turn.worker) turn.turn.worker turn.turn.event
        last = subst (λ n. TellsRight (place_of (scheduled op (begun m) (take n schedule)).machine turn.turn.worker) turn.turn.worker turn.turn.event) (sym size) (subst (λ (x : Machine). TellsRight (place_of x turn.turn.worker) turn.turn.worker turn.turn.event) is turn.right)

        by : (j : ℕ) (t : CodeTurn) → (slice_get old j ≡ Some t) ⊎ ((j ≡ length old) × (t ≡ turn.turn)) → TellsRight (place_of (scheduled op (begun m) (take j schedule)).machine t.worker) t.worker t.event
        by j t (inl there) = h j t there
        by j t (inr (place, same)) =
            subst (λ n. TellsRight (place_of (scheduled op (begun m) (take n schedule)).machine t.worker) t.worker t.event) (sym place)
            (subst (λ (x : CodeTurn). TellsRight (place_of (scheduled op (begun m) (take (length old) schedule)).machine x.worker) x.worker x.event) (sym same) last)

    pub told_still : (old new : List CodeTurn) → AddsNoConflict old new → ConflictsTellRight op m schedule old → ConflictsTellRight op m schedule new
    told_still old new adds h = λ k t e. by k t (adds k t e)
      where
        by : (k : ℕ) (t : CodeTurn) → (slice_get old k ≡ Some t) ⊎ (is_conflict (event_of t.event) ≡ false) → TellsRight (place_of (scheduled op (begun m) (take k schedule)).machine t.worker) t.worker t.event
        by k t (inl there) = h k t there
        by k t (inr none) = tells_nothing (place_of (scheduled op (begun m) (take k schedule)).machine t.worker) t.worker t.event none

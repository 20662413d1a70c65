-- The turns of a schedule, one after another.
use Rattle.std.specs.Prelude.{◌≡◌, ◌⊎◌, ℕ, zero, suc, ◌<◌, Bool, true, false, if◌then◌else◌, Option, Some, None, List, [], ◌∷◌, length, refl}
use Rattle.std.proofs.Common.{sym, ◌∙◌, ap, subst, inl, inr, get_or, arith}
use Rattle.gx_base.specs.Plans.{Operator}
use Rattle.speculation.specs.Events.{then_turn}
use Rattle.speculation.specs.Limits.{Limit, limit_in, or_later, limit_of_scheduled}
use Rattle.speculation.specs.Limits as limit
use Rattle.speculation.specs.Machines.{place_of, turn_at}
use Rattle.speculation.specs.Premises.{ScheduledAsk}
use Rattle.speculation.specs.ScheduledRuns.{is_empty, Run, then_turned, scheduled, AllBelow}
use Rattle.speculation.proofs.Putting.{no_bool}
use Rattle.sessions.specs.declared.events.Stop.{Stop}
use Rattle.sessions.specs.declared.events.Stop.TheVariants as stops
use Rattle.iterate.specs.PlayedTurns.{IsTracedTurn, IsStoppedTurn}
use Rattle.iterate.specs.Plays.{stop_of}
use Rattle.sessions.specs.Turns.{IsCause}

-- the schedule leads from the first run as the rest of it does from the second
pub record LeadsOn (op : Operator) (first : Run) (schedule : List ℕ) (now : Run) (rest : List ℕ) : Type 0 where
  pub run : scheduled op first schedule ≡ scheduled op now rest
  pub limit : limit_of_scheduled op first schedule ≡ limit_of_scheduled op now rest
  pub asks : ScheduledAsk op now rest → ScheduledAsk op first schedule

pub stop_cause : (l : Limit) (o : Option Limit) → IsCause (stop_of l) o → o ≡ Some l
stop_cause limit.Spent o h = h
stop_cause limit.Kept o h = h

pub not_for_memory : (l : Limit) → stop_of l ≡ stops.NoMemory → ⊥
not_for_memory limit.Spent e = absurd (cc)
not_for_memory limit.Kept e = absurd (cc)

module _ (op : Operator) where
  one_scheduled : (r : Run) (worker : ℕ) (rest : List ℕ) → is_empty r.machine.book.ready ≡ false → scheduled op r (worker ∷ rest) ≡ scheduled op (then_turned r worker (turn_at op (place_of r.machine worker) worker)) rest
  unfolding scheduled
  one_scheduled r worker rest e = ap (λ (b : Bool). if b then r else scheduled op (then_turned r worker (turn_at op (place_of r.machine worker) worker)) rest) e

  pub one_limited : (r : Run) (worker : ℕ) (rest : List ℕ) → is_empty r.machine.book.ready ≡ false
      → limit_of_scheduled op r (worker ∷ rest) ≡ or_later (limit_in op r.machine worker) (limit_of_scheduled op (then_turned r worker (turn_at op (place_of r.machine worker) worker)) rest)
  unfolding limit_of_scheduled
  one_limited r worker rest e = ap (λ (b : Bool). if b then None else or_later (limit_in op r.machine worker) (limit_of_scheduled op (then_turned r worker (turn_at op (place_of r.machine worker) worker)) rest)) e

  -- one more turn
  pub leads_more : (first now after : Run) (schedule rest : List ℕ) (worker : ℕ) → LeadsOn op first schedule now (worker ∷ rest) → is_empty now.machine.book.ready ≡ false → IsTracedTurn op now after worker → LeadsOn op first schedule after rest
  leads_more first now after schedule rest worker h e t =
      let turned : Run = then_turned now worker (turn_at op (place_of now.machine worker) worker) in
      let same : turned ≡ after = λ i. record { machine = sym t.turn_is.machine_is i; trace = (ap (then_turn now.trace worker) (sym t.turn_is.event_is) ∙ sym t.trace_is) i } in
      record {
        run = h.run ∙ one_scheduled now worker rest e ∙ ap (λ (r : Run). scheduled op r rest) same;
        limit = h.limit ∙ one_limited now worker rest e ∙ ap (λ (o : Option Limit). or_later o (limit_of_scheduled op turned rest)) t.turn_is.unlimited ∙ ap (λ (r : Run). limit_of_scheduled op r rest) same;
        asks = λ k. h.asks (λ _. (t.turn_is.asks, subst (λ (r : Run). ScheduledAsk op r rest) (sym same) k));
      }

  -- a turn that stops
  pub leads_to_stop : (first now : Run) (schedule rest : List ℕ) (worker : ℕ) (l : Limit) (stop : Stop) → LeadsOn op first schedule now (worker ∷ rest) → is_empty now.machine.book.ready ≡ false
      → (stop ≡ stops.NoMemory) ⊎ IsStoppedTurn op now.machine worker stop → stop ≡ stop_of l → limit_of_scheduled op first schedule ≡ Some l
  leads_to_stop first now schedule rest worker l stop h e (inl none) is = absurd (not_for_memory l (sym is ∙ none))
  leads_to_stop first now schedule rest worker l stop h e (inr s) is =
      let passed : limit_in op now.machine worker ≡ Some l = stop_cause l (limit_in op now.machine worker) (subst (λ (x : Stop). IsCause x (limit_in op now.machine worker)) is s.cause) in
      h.limit ∙ one_limited now worker rest e ∙ ap (λ (o : Option Limit). or_later o (limit_of_scheduled op (then_turned now worker (turn_at op (place_of now.machine worker) worker)) rest)) passed

  pub record Ends (first : Run) (schedule : List ℕ) (last : Run) : Type 0 where
    pub run : last ≡ scheduled op first schedule
    pub unlimited : limit_of_scheduled op first schedule ≡ None
    pub asks : ScheduledAsk op first schedule

  -- the schedule is over
  pub ends_there : (first now : Run) (schedule : List ℕ) → LeadsOn op first schedule now [] → Ends first schedule now
  unfolding scheduled limit_of_scheduled
  ends_there first now schedule h = record { run = sym h.run; unlimited = h.limit; asks = h.asks tt }

  rests : (now : Run) (rest : List ℕ) → is_empty now.machine.book.ready ≡ true → (scheduled op now rest ≡ now) × (limit_of_scheduled op now rest ≡ None) × ScheduledAsk op now rest
  unfolding scheduled limit_of_scheduled
  rests now [] e = (refl, refl, tt)
  rests now (worker ∷ rest) e = (
    ap (λ (b : Bool). if b then now else scheduled op (then_turned now worker (turn_at op (place_of now.machine worker) worker)) rest) e,
    ap (λ (b : Bool). if b then None else or_later (limit_in op now.machine worker) (limit_of_scheduled op (then_turned now worker (turn_at op (place_of now.machine worker) worker)) rest)) e,
    λ n. absurd (no_bool (is_empty now.machine.book.ready) e n),
  )

  -- nothing is ready
  pub ends_early : (first now : Run) (schedule rest : List ℕ) → LeadsOn op first schedule now rest → is_empty now.machine.book.ready ≡ true → Ends first schedule now
  ends_early first now schedule rest h e = let r = rests now rest e in record { run = sym (h.run ∙ r.0); unlimited = h.limit ∙ r.1; asks = h.asks r.2 }

-- ---- workers of a schedule

pub below_at : (schedule : List ℕ) (workers place d : ℕ) → AllBelow schedule workers → place < length schedule → get_or schedule place d < workers
below_at [] workers place d h l = absurd (omega arith)
below_at (x ∷ xs) workers zero d h l = h.0
below_at (x ∷ xs) workers (suc place) d h l = below_at xs workers place d h.1 (omega arith)

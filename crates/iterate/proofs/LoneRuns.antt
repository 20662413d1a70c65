-- The turns of worker 0 alone, one after another.
use Rattle.std.specs.Prelude.{◌≡◌, ℕ, zero, suc, ◌+◌, Bool, true, false, if◌then◌else◌, Option, Some, None, refl}
use Rattle.std.proofs.Common.{sym, ◌∙◌, ap, subst, arith}
use Rattle.gx_base.specs.Plans.{Operator}
use Rattle.speculation.specs.Events.{Event}
use Rattle.speculation.specs.Limits.{Limit, limit_in, or_later, limit_of_alone}
use Rattle.speculation.specs.Machines.{Machine, turn}
use Rattle.speculation.specs.Premises.{AloneAsk}
use Rattle.speculation.specs.ScheduledRuns.{is_empty, lone_run}
use Rattle.sessions.specs.declared.events.Stop.{Stop}
use Rattle.iterate.specs.PlayedTurns.{IsTurn, IsStoppedTurn, IsEmptiedAlone}
use Rattle.iterate.specs.Plays.{stop_of}
use Rattle.sessions.specs.Turns.{IsCause}
use Rattle.iterate.proofs.Schedules.{stop_cause}

-- so many turns lead from the first machine to the second
pub record LeadsTo (op : Operator) (first now : Machine) : Type 0 where
  pub turns : ℕ
  pub machine : (more : ℕ) → lone_run op first (turns + more) ≡ lone_run op now more
  pub limit : (more : ℕ) → limit_of_alone op first (turns + more) ≡ limit_of_alone op now more
  pub asks : (more : ℕ) → AloneAsk op now more → AloneAsk op first (turns + more)

module _ (op : Operator) where
  pub leads_nowhere : (m : Machine) → LeadsTo op m m
  leads_nowhere m = record {
    turns = 0;
    machine = λ more. ap (lone_run op m) (none_more more);
    limit = λ more. ap (limit_of_alone op m) (none_more more);
    asks = λ more h. subst (AloneAsk op m) (sym (none_more more)) h;
  }
    where
      none_more : (more : ℕ) → 0 + more ≡ more
      none_more more = omega arith

  pub one_alone : (m : Machine) (n : ℕ) → is_empty m.book.ready ≡ false → lone_run op m (suc n) ≡ lone_run op (turn op m 0) n
  unfolding lone_run
  one_alone m n e = ap (λ (b : Bool). if b then m else lone_run op (turn op m 0) n) e

  pub one_limited_alone : (m : Machine) (n : ℕ) → is_empty m.book.ready ≡ false → limit_of_alone op m (suc n) ≡ or_later (limit_in op m 0) (limit_of_alone op (turn op m 0) n)
  unfolding limit_of_alone
  one_limited_alone m n e = ap (λ (b : Bool). if b then None else or_later (limit_in op m 0) (limit_of_alone op (turn op m 0) n)) e

  one_further : (turns more : ℕ) → suc turns + more ≡ turns + suc more
  one_further turns more = omega arith

  -- one more turn
  pub leads_one_more : (first now after : Machine) (event : Event) → LeadsTo op first now → is_empty now.book.ready ≡ false → IsTurn op now after 0 event → LeadsTo op first after
  leads_one_more first now after event h e t = record {
    turns = suc h.turns;
    machine = λ more. ap (lone_run op first) (one_further h.turns more) ∙ h.machine (suc more) ∙ one_alone now more e ∙ ap (λ m. lone_run op m more) (sym t.machine_is);
    limit = λ more. ap (limit_of_alone op first) (one_further h.turns more) ∙ h.limit (suc more) ∙ one_limited_alone now more e
        ∙ ap (λ (o : Option Limit). or_later o (limit_of_alone op (turn op now 0) more)) t.unlimited ∙ ap (λ m. limit_of_alone op m more) (sym t.machine_is);
    asks = λ more k. subst (AloneAsk op first) (sym (one_further h.turns more)) (h.asks (suc more) (λ _. (t.asks, subst (λ m. AloneAsk op m more) t.machine_is k)));
  }

  no_turn : (m : Machine) → lone_run op m 0 ≡ m
  unfolding lone_run
  no_turn m = refl

  no_limit : (m : Machine) → limit_of_alone op m 0 ≡ None
  unfolding limit_of_alone
  no_limit m = refl

  -- nothing is ready
  pub ends_alone : (first now : Machine) → LeadsTo op first now → is_empty now.book.ready ≡ true → IsEmptiedAlone op first now
  ends_alone first now h e = record {
    turns = h.turns + 0;
    machine_is = sym (h.machine 0 ∙ no_turn now);
    ends = e;
    unlimited = h.limit 0 ∙ no_limit now;
    asks = h.asks 0 tt;
  }

  -- a turn that stops
  pub stops_alone : (first now : Machine) (l : Limit) (stop : Stop) → LeadsTo op first now → is_empty now.book.ready ≡ false → IsStoppedTurn op now 0 stop → stop ≡ stop_of l → (turns : ℕ) × (limit_of_alone op first turns ≡ Some l)
  stops_alone first now l stop h e s is =
      let passed : limit_in op now 0 ≡ Some l = stop_cause l (limit_in op now 0) (subst (λ (x : Stop). IsCause x (limit_in op now 0)) is s.cause) in
      (h.turns + 1, h.limit 1 ∙ one_limited_alone now 0 e ∙ ap (λ (o : Option Limit). or_later o (limit_of_alone op (turn op now 0) 0)) passed)

  -- ---- a limit that is passed stays the first one

  more_by : (b : Bool) (o : Option Limit) (x y : Option Limit) (l : Limit) → (x ≡ Some l → y ≡ Some l) → (if b then None else or_later o x) ≡ Some l → (if b then None else or_later o y) ≡ Some l
  more_by true o x y l f h = absurd (cc)
  more_by false None x y l f h = f h
  more_by false (Some k) x y l f h = h

  pub limit_more : (n more : ℕ) (m : Machine) (l : Limit) → limit_of_alone op m n ≡ Some l → limit_of_alone op m (n + more) ≡ Some l
  unfolding limit_of_alone
  limit_more zero more m l h = absurd (cc)
  limit_more (suc n) more m l h =
      subst (λ k. limit_of_alone op m k ≡ Some l) (sums n more)
      (more_by (is_empty m.book.ready) (limit_in op m 0) (limit_of_alone op (turn op m 0) n) (limit_of_alone op (turn op m 0) (n + more)) l (limit_more n more (turn op m 0) l) h)
    where
      sums : (n more : ℕ) → suc (n + more) ≡ suc n + more
      sums n more = omega arith

  -- no more turns are made once nothing is ready
  pub none_after : (m : Machine) (n : ℕ) → is_empty m.book.ready ≡ true → limit_of_alone op m n ≡ None
  unfolding limit_of_alone
  none_after m zero e = refl
  none_after m (suc n) e = ap (λ (b : Bool). if b then None else or_later (limit_in op m 0) (limit_of_alone op (turn op m 0) n)) e

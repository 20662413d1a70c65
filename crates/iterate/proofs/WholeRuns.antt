-- Whole runs, from their parts.
use Rattle.std.specs.Prelude.{◌≡◌, ◌⊎◌, ℕ, zero, suc, ◌+◌, Bool, true, false, if◌then◌else◌, Option, Some, None, List, Result, Err, refl}
use Rattle.std.proofs.Common.{sym, ◌∙◌, ap, subst, inl, inr, arith}
use Rattle.std.proofs.lemmas.Option.{same_Some}
use Rattle.gx_base.specs.Plans.{Operator}
use Rattle.speculation.specs.Limits.{Limit, limit_in, or_later, limit_of_scheduled, limit_of_alone, limit_of_played}
use Rattle.speculation.specs.Limits as limit
use Rattle.speculation.specs.Machines.{Machine, turn}
use Rattle.speculation.specs.Premises.{ScheduledAsk, AloneAsk}
use Rattle.speculation.specs.ScheduledRuns.{is_empty, Run, begun, scheduled, drain, lone_run, drained, played}
use Rattle.sessions.specs.declared.events.Stop.{Stop}
use Rattle.sessions.specs.declared.events.Stop.TheVariants as stops
use Rattle.iterate.specs.PlayedTurns.{IsEmptiedAlone, IsPlayedRun}
use Rattle.iterate.specs.Plays.{stop_of, PassesFirst}
use Rattle.iterate.proofs.LoneRuns.{limit_more, none_after}

module _ (op : Operator) (m : Machine) (workers : ℕ) (schedule : List ℕ) where
  drained_is : (r s : Run) → r ≡ scheduled op (begun m) schedule → s ≡ drain r workers → s ≡ drained op m workers schedule
  unfolding drained
  drained_is r s h k = k ∙ ap (λ (x : Run). drain x workers) h

  played_is : (turns : ℕ) → played op m workers schedule turns ≡ record (drained op m workers schedule) { machine = lone_run op (drained op m workers schedule).machine turns }
  unfolding played
  played_is turns = refl

  limit_is : (turns : ℕ) → limit_of_played op m workers schedule turns ≡ or_later (limit_of_scheduled op (begun m) schedule) (limit_of_alone op (drained op m workers schedule).machine turns)
  unfolding limit_of_played
  limit_is turns = refl

  after_schedule : (turns : ℕ) → limit_of_scheduled op (begun m) schedule ≡ None → limit_of_played op m workers schedule turns ≡ limit_of_alone op (drained op m workers schedule).machine turns
  after_schedule turns n = limit_is turns ∙ ap (λ (o : Option Limit). or_later o (limit_of_alone op (drained op m workers schedule).machine turns)) n

  -- the schedule, the drain, and worker 0 alone
  pub whole : (r s last : Run) → r ≡ scheduled op (begun m) schedule → limit_of_scheduled op (begun m) schedule ≡ None → ScheduledAsk op (begun m) schedule → s ≡ drain r workers
      → IsEmptiedAlone op s.machine last.machine → last.trace ≡ s.trace → IsPlayedRun op m workers schedule last
  whole r s last h n a k lone same =
      let d : s ≡ drained op m workers schedule = drained_is r s h k in
      let run : last ≡ record (drained op m workers schedule) { machine = lone_run op (drained op m workers schedule).machine lone.turns } =
      λ i. record { machine = (lone.machine_is ∙ ap (λ (x : Run). lone_run op x.machine lone.turns) d) i; trace = (same ∙ ap (λ (x : Run). x.trace) d) i } in
      let is : last ≡ played op m workers schedule lone.turns = run ∙ sym (played_is lone.turns) in
      record {
        turns = lone.turns;
        unlimited = after_schedule lone.turns n ∙ ap (λ (x : Run). limit_of_alone op x.machine lone.turns) (sym d) ∙ lone.unlimited;
        ends = lone.ends;
        run_is = is;
        asks = (a, subst (λ (x : Run). AloneAsk op x.machine lone.turns) d lone.asks);
      }

  pub stops_in_schedule : (l : Limit) → limit_of_scheduled op (begun m) schedule ≡ Some l → PassesFirst op m workers schedule l
  stops_in_schedule l h = (0, limit_is 0 ∙ ap (λ (o : Option Limit). or_later o (limit_of_alone op (drained op m workers schedule).machine 0)) h)

  pub stops_later : (r s : Run) (l : Limit) → r ≡ scheduled op (begun m) schedule → limit_of_scheduled op (begun m) schedule ≡ None → s ≡ drain r workers
      → (turns : ℕ) × (limit_of_alone op s.machine turns ≡ Some l) → PassesFirst op m workers schedule l
  stops_later r s l h n k (turns, passed) = (turns, after_schedule turns n ∙ ap (λ (x : Run). limit_of_alone op x.machine turns) (sym (drained_is r s h k)) ∙ passed)

  -- ---- one limit is the first

  more_in : (a b c : Option Limit) (l : Limit) → (b ≡ Some l → c ≡ Some l) → or_later a b ≡ Some l → or_later a c ≡ Some l
  more_in None b c l f h = f h
  more_in (Some k) b c l f h = h

  played_more : (n more : ℕ) (l : Limit) → limit_of_played op m workers schedule n ≡ Some l → limit_of_played op m workers schedule (n + more) ≡ Some l
  played_more n more l h =
      limit_is (n + more)
      ∙ more_in (limit_of_scheduled op (begun m) schedule) (limit_of_alone op (drained op m workers schedule).machine n) (limit_of_alone op (drained op m workers schedule).machine (n + more)) l
      (limit_more op n more (drained op m workers schedule).machine l) (sym (limit_is n) ∙ h)

  turned_sum : (n k : ℕ) → n + k ≡ k + n
  turned_sum n k = omega arith

  pub one_limit : (l k : Limit) → PassesFirst op m workers schedule l → PassesFirst op m workers schedule k → l ≡ k
  one_limit l k (n, passed) (j, passes) =
      same_Some l k (sym (played_more n j l passed) ∙ ap (limit_of_played op m workers schedule) (turned_sum n j) ∙ played_more j n k passes)

  -- ---- a run that ends passes none

  none_by : (b : Bool) (o x y : Option Limit) → (b ≡ false → x ≡ None → y ≡ None) → (if b then None else or_later o x) ≡ None → (if b then None else or_later o y) ≡ None
  none_by true o x y f h = refl
  none_by false None x y f h = f refl h
  none_by false (Some l) x y f h = absurd (cc)

  ends_by : (b : Bool) (a c : Machine) → b ≡ false → is_empty (Machine.book (if b then a else c)).ready ≡ true → is_empty c.book.ready ≡ true
  ends_by b a c e h = subst (λ (t : Bool). is_empty (Machine.book (if t then a else c)).ready ≡ true) e h

  none_later : (n more : ℕ) (a : Machine) → limit_of_alone op a n ≡ None → is_empty (lone_run op a n).book.ready ≡ true → limit_of_alone op a (n + more) ≡ None
  unfolding limit_of_alone lone_run
  none_later zero more a h e = subst (λ k. limit_of_alone op a k ≡ None) (nothing more) (none_after op a more e)
    where
      nothing : (more : ℕ) → more ≡ zero + more
      nothing more = omega arith
  none_later (suc n) more a h e =
      subst (λ k. limit_of_alone op a k ≡ None) (sums n more)
      (none_by (is_empty a.book.ready) (limit_in op a 0) (limit_of_alone op (turn op a 0) n) (limit_of_alone op (turn op a 0) (n + more))
      (λ b k. none_later n more (turn op a 0) k (ends_by (is_empty a.book.ready) a (lone_run op (turn op a 0) n) b e)) h)
    where
      sums : (n more : ℕ) → suc (n + more) ≡ suc n + more
      sums n more = omega arith

  neither : (a b : Option Limit) → or_later a b ≡ None → (a ≡ None) × (b ≡ None)
  neither None b e = (refl, e)
  neither (Some l) b e = absurd (cc)

  pub none_passed : (last : Run) → IsPlayedRun op m workers schedule last → (l : Limit) → PassesFirst op m workers schedule l → ⊥
  none_passed last h l (n, passed) =
      let d : Machine = (drained op m workers schedule).machine in
      let none : (limit_of_scheduled op (begun m) schedule ≡ None) × (limit_of_alone op d h.turns ≡ None) = neither (limit_of_scheduled op (begun m) schedule) (limit_of_alone op d h.turns) (sym (limit_is h.turns) ∙ h.unlimited) in
      let is : last.machine ≡ lone_run op d h.turns = ap (λ (x : Run). x.machine) (h.run_is ∙ played_is h.turns) in
      let later : limit_of_played op m workers schedule (h.turns + n) ≡ None =
      after_schedule (h.turns + n) none.0 ∙ none_later h.turns n d none.1 (subst (λ (x : Machine). is_empty x.book.ready ≡ true) is h.ends) in
      let passed_on : limit_of_played op m workers schedule (h.turns + n) ≡ Some l = ap (limit_of_played op m workers schedule) (turned_sum h.turns n) ∙ played_more n h.turns l passed in
      absurd (cc)

  -- which stop it is
  pub found_stop : (stop : Stop) → ((l : Limit) → stop ≡ stop_of l → PassesFirst op m workers schedule l) → (l : Limit) → PassesFirst op m workers schedule l → (stop ≡ stop_of l) ⊎ (stop ≡ stops.NoMemory)
  found_stop stops.Spent f l h = inl (ap stop_of (one_limit limit.Spent l (f limit.Spent refl) h))
  found_stop stops.Kept f l h = inl (ap stop_of (one_limit limit.Kept l (f limit.Kept refl) h))
  found_stop stops.NoMemory f l h = inr refl

pub as_results : (A : Type 0) (stop x y : Stop) → (stop ≡ x) ⊎ (stop ≡ y) → let failed : Stop → Result A Stop = λ s. Err s in (failed stop ≡ failed x) ⊎ (failed stop ≡ failed y)
as_results A stop x y (inl e) = inl (ap Err e)
as_results A stop x y (inr e) = inr (ap Err e)

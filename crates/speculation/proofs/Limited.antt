-- A run none of whose commits would pass a limit has no more commits than may be, so it comes to its end.
use Rattle.std.specs.Prelude.{◌≡◌, ◌⊎◌, ℕ, zero, suc, ◌<◌, ◌≤◌, ◌==◌, Bool, true, false, not, ◌&&◌, ◌||◌, if◌then◌else◌, Option, Some, None, List, [], ◌∷◌, length, refl}
use Rattle.std.proofs.Common.{sym, ◌∙◌, ap, subst, inl, inr, arith}
use Rattle.std.specs.Cmp.{unsigned_Decides}
use Rattle.gx_base.specs.declared.calls.Call.{Call as CallOf}
use Rattle.gx_base.specs.declared.calls.Reply.{Reply}
use Rattle.gx_base.specs.declared.items.Item.{Item}
use Rattle.gx_base.specs.declared.acts.Entry.{Entry}
use Rattle.gx_base.specs.declared.acts.Step.{Step}
use Rattle.gx_base.specs.Plans.{Plan, Operator}
use Rattle.gx_base.specs.Replays.{put}
use Rattle.gx_base.specs.Worklists.{has_item, is_before, is_least}
use Rattle.gate_core.specs.Views.{in_way, undo_last}
use Rattle.commit_book.specs.BookViews.{BookView, most_commits, is_spent, free_item, put_back, is_named}
use Rattle.speculation.specs.Events.{Event}
use Rattle.speculation.specs.Events as event
use Rattle.speculation.specs.Sessions.{Session, Phase, Idle, Running, Finished, Undoing, is_idle, ended, undoing, undone_to, Ahead, Asks, Ends, ahead, last_step, steps_before, has_no_step}
use Rattle.speculation.specs.Machines.{Machine, Place, place_of, settled, named_off, let_go, given_up, committed, Turned, take, live_at, answer, entry_of, undo_step, undo, finish, go, turn_in, turn_at, turn}
use Rattle.speculation.specs.ScheduledRuns.{is_empty, Run, begun, then_turned, scheduled, drain_step, drain_steps, drain_worker, drain, lone_run, drained, played, AllBelow}
use Rattle.speculation.specs.Premises.{IsNew}
use Rattle.speculation.specs.Limits.{Limit, Spent, Kept, limit_of, limit_at, limit_in, or_later, limit_of_scheduled, limit_of_alone, limit_of_played, EndsOrPasses}
use Rattle.speculation.specs.RunResults.{EndsOrCommits}
use Rattle.speculation.proofs.Putting.{no_bool}
use Rattle.speculation.proofs.Turns.{one_longer}
use Rattle.speculation.proofs.Runs.{chosen, chosen_machine}
use Rattle.speculation.proofs.Theorems.{runs_end}

abbrev pub count : BookView → ℕ
count b = length b.commits

-- ---- only a commit adds a commit

module _ (op : Operator) (m : Machine) (worker : ℕ) where
  abbrev pub Counts : Event → Place → Type 0
  Counts e p = (count p.book ≡ count m.book) ⊎ ((number : ℕ) × (e ≡ event.Commit number) × (count p.book ≡ suc (count m.book)))

  abbrev CountsIn : Turned → Type 0
  CountsIn t = Counts t.event t.place

  same_by : (a b : Place) (test : Bool) → count a.book ≡ count m.book → count b.book ≡ count m.book → count (Place.book (if test then a else b)) ≡ count m.book
  same_by a b true h k = h
  same_by a b false h k = k

  same_given_up : (s : Session) → count (Place.book (given_up (place_of m worker) worker s)) ≡ count m.book
  same_given_up s = same_by (let_go (place_of m worker) worker s) (record (place_of m worker) { session = undoing s }) (has_no_step s.outcome.steps) refl refl

  same_undo_step : (s : Session) (o : Option Step) → count (Place.book (Turned.place (undo_step (place_of m worker) worker s o))) ≡ count m.book
  same_undo_step s None = refl
  same_undo_step s (Some x) =
      same_by (record { gates = put m.gates x.room (undo_last (m.gates x.room) worker s.iter); book = put_back m.book worker s.iter; session = ended s })
      (record { gates = put m.gates x.room (undo_last (m.gates x.room) worker s.iter); book = m.book; session = undone_to s (steps_before s.outcome.steps) }) (has_no_step (steps_before s.outcome.steps)) refl refl

  pub same_undo : (s : Session) → count (Place.book (Turned.place (undo (place_of m worker) worker s))) ≡ count m.book
  same_undo s = same_undo_step s (last_step s.outcome.steps)

  answer_counts : (s : Session) (room : ℕ) (call : CallOf) (goes_on : Reply → Plan) (o : Option ℕ) → CountsIn (answer (place_of m worker) worker s room call goes_on (entry_of (place_of m worker) worker s room call) o)
  answer_counts s room call goes_on None = inl refl
  answer_counts s room call goes_on (Some place) =
      let held : Entry = live_at (m.gates room) place (entry_of (place_of m worker) worker s room call) in
      inl (same_by (named_off (place_of m worker) s held) (given_up (place_of m worker) worker s) (m.book.ordered && is_before s.item held.item) refl (same_given_up s))

  finish_counts : (s : Session) (named ready least : Bool)
      → CountsIn (if named then undo (place_of m worker) worker s
      else (if ready then (if least then record { event = event.Commit (length m.book.commits); place = committed (place_of m worker) worker s } else record { event = event.Wait; place = record (place_of m worker) { session = s } })
      else record { event = event.Drop; place = given_up (place_of m worker) worker s }))
  finish_counts s true ready least = inl (same_undo s)
  finish_counts s false false least = inl (same_given_up s)
  finish_counts s false true true = inr (length m.book.commits, refl, one_longer m.book.commits (record { worker = worker; iter = s.iter; item = s.item; outcome = s.outcome }))
  finish_counts s false true false = inl refl

  finished_counts : (s : Session) → CountsIn (finish (place_of m worker) worker s)
  finished_counts s = finish_counts s (is_named m.book worker s.iter) (has_item m.book.ready s.item) (not m.book.ordered || is_least m.book.ready s.item)

  go_counts : (a : Ahead) → CountsIn (go (place_of m worker) worker a)
  go_counts (Asks s room call goes_on) = answer_counts s room call goes_on (in_way (m.gates room) (entry_of (place_of m worker) worker s room call))
  go_counts (Ends s) = finished_counts s

  take_counts : (o : Option Item) → CountsIn (take op (place_of m worker) worker o)
  take_counts None = inl refl
  take_counts (Some item) = inl refl

  counts_in : (p : Phase) → CountsIn (turn_in op (place_of m worker) worker p)
  counts_in Idle = take_counts (free_item m.book)
  counts_in (Running plan) = go_counts (ahead (m.sessions worker) plan (m.sessions worker).outcome.pushes)
  counts_in Finished = finished_counts (m.sessions worker)
  counts_in Undoing = inl (same_undo (m.sessions worker))

  pub turn_counts : Counts (turn_at op (place_of m worker) worker).event (turn_at op (place_of m worker) worker).place
  unfolding turn_at
  turn_counts = counts_in (m.sessions worker).phase

-- ---- where no limit is passed, there are at most so many commits

spent_by : (b : Bool) (c : Bool) → (if b then Some Spent else (if c then Some Kept else None)) ≡ None → b ≡ false
spent_by true c e = absurd (cc)
spent_by false c e = refl

not_at : (n most : ℕ) → (n == most) ≡ false → n ≤ most → n < most
not_at n most e h = differs (λ k. no_bool (n == most) ((unsigned_Decides n most).1 k) e)
  where
    differs : (n ≡ most → ⊥) → n < most
    differs d = omega arith

neither_later : (a b : Option Limit) → or_later a b ≡ None → (a ≡ None) × (b ≡ None)
neither_later None b e = (refl, e)
neither_later (Some limit) b e = absurd (cc)

abbrev pub Within : Machine → Type 0
Within m = count m.book ≤ most_commits

module _ (op : Operator) where
  within_by : (m : Machine) (worker : ℕ) (e : Event) (p : Place) → limit_at e m.book (length (m.sessions worker).outcome.steps) ≡ None → Counts op m worker e p → Within m → count p.book ≤ most_commits
  within_by m worker e p n (inl same) h = subst (λ k. k ≤ most_commits) (sym same) h
  within_by m worker e p n (inr more) h =
      let none : limit_of m.book (length (m.sessions worker).outcome.steps) ≡ None = subst (λ (x : Event). limit_at x m.book (length (m.sessions worker).outcome.steps) ≡ None) more.1 n in
      let below : count m.book < most_commits = not_at (count m.book) most_commits (spent_by (is_spent m.book) _ none) h in
      let one : count p.book ≡ suc (count m.book) = more.2 in
      omega arith

  turn_within : (m : Machine) (worker : ℕ) → limit_in op m worker ≡ None → Within m → Within (turn op m worker)
  turn_within m worker n h = within_by m worker (turn_at op (place_of m worker) worker).event (turn_at op (place_of m worker) worker).place n (turn_counts op m worker) h

  not_empty_limit : (b : Bool) (o : Option Limit) → b ≡ false → (if b then None else o) ≡ None → o ≡ None
  not_empty_limit b o e h = sym (ap (λ (x : Bool). if x then None else o) e) ∙ h

  scheduled_within : (schedule : List ℕ) (r : Run) → limit_of_scheduled op r schedule ≡ None → Within r.machine → Within (scheduled op r schedule).machine
  unfolding scheduled limit_of_scheduled
  scheduled_within [] r n h = h
  scheduled_within (worker ∷ schedule) r n h =
      let next : Run = then_turned r worker (turn_at op (place_of r.machine worker) worker) in
      chosen Within (is_empty r.machine.book.ready) r (scheduled op next schedule) (λ _. h)
      (λ e.
      let none : (limit_in op r.machine worker ≡ None) × (limit_of_scheduled op next schedule ≡ None) = neither_later (limit_in op r.machine worker) (limit_of_scheduled op next schedule) (not_empty_limit (is_empty r.machine.book.ready) _ e n) in
      scheduled_within schedule next none.1 (turn_within r.machine worker none.0 h))

  alone_within : (turns : ℕ) (m : Machine) → limit_of_alone op m turns ≡ None → Within m → Within (lone_run op m turns)
  unfolding lone_run limit_of_alone
  alone_within zero m n h = h
  alone_within (suc turns) m n h =
      chosen_machine Within (is_empty m.book.ready) m (lone_run op (turn op m 0) turns) (λ _. h)
      (λ e.
      let none : (limit_in op m 0 ≡ None) × (limit_of_alone op (turn op m 0) turns ≡ None) = neither_later (limit_in op m 0) (limit_of_alone op (turn op m 0) turns) (not_empty_limit (is_empty m.book.ready) _ e n) in
      alone_within turns (turn op m 0) none.1 (turn_within m 0 none.0 h))

  step_within : (r : Run) (worker : ℕ) → Within r.machine → Within (drain_step r worker).machine
  step_within r worker h =
      let m : Machine = r.machine in
      let s : Session = m.sessions worker in
      let gone : Run = record r { machine = settled m worker (let_go (place_of m worker) worker s) } in
      let less : Run = then_turned r worker (undo (place_of m worker) worker s) in
      chosen Within (is_idle s.phase) r (if has_no_step s.outcome.steps then gone else less) (λ _. h)
      (λ _. chosen Within (has_no_step s.outcome.steps) gone less (λ _. h) (λ _. subst (λ k. k ≤ most_commits) (sym (same_undo op m worker s)) h))

  steps_within : (n : ℕ) (r : Run) (worker : ℕ) → Within r.machine → Within (drain_steps n r worker).machine
  steps_within zero r worker h = h
  steps_within (suc n) r worker h = steps_within n (drain_step r worker) worker (step_within r worker h)

  drain_within : (workers : ℕ) (r : Run) → Within r.machine → Within (drain r workers).machine
  unfolding drain drain_worker
  drain_within zero r h = h
  drain_within (suc worker) r h = steps_within (suc (length ((drain r worker).machine.sessions worker).outcome.steps)) (drain r worker) worker (drain_within worker r h)

  played_within : (m : Machine) (workers : ℕ) (schedule : List ℕ) (turns : ℕ) → IsNew op m → limit_of_played op m workers schedule turns ≡ None → Within (played op m workers schedule turns).machine
  unfolding played drained limit_of_played
  played_within m workers schedule turns new n =
      let none : (limit_of_scheduled op (begun m) schedule ≡ None) × (limit_of_alone op (drained op m workers schedule).machine turns ≡ None) =
      neither_later (limit_of_scheduled op (begun m) schedule) (limit_of_alone op (drained op m workers schedule).machine turns) n in
      let first : Within m = subst (λ cs. length cs ≤ most_commits) (sym new.no_commits) (omega arith) in
      alone_within turns (drained op m workers schedule).machine none.1 (drain_within workers (scheduled op (begun m) schedule) (scheduled_within schedule (begun m) none.0 first))

  -- after enough turns nothing is ready, or a commit would have passed a limit
  pub ends_or_passes : (m : Machine) (workers : ℕ) (schedule : List ℕ) → IsNew op m → AllBelow schedule workers → EndsOrPasses op m workers schedule
  ends_or_passes m workers schedule h b = by_end (runs_end op m workers schedule (suc most_commits) h b)
    where
      by_end : EndsOrCommits (suc most_commits) op m workers schedule → EndsOrPasses op m workers schedule
      by_end (turns, inl empty) = (turns, inl empty)
      by_end (turns, inr many) = (turns, inr (λ n. let few : Within (played op m workers schedule turns).machine = played_within m workers schedule turns h n in omega arith))

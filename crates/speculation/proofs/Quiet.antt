-- A turn changes no other worker's session, and the ready set only where the worker becomes idle.
use Rattle.std.specs.Prelude.{◌≡◌, ◌⊎◌, ℕ, Bool, true, false, not, ◌&&◌, ◌||◌, ◌==◌, if◌then◌else◌, Option, Some, None, length, refl}
use Rattle.std.proofs.Common.{ap, inl, inr}
use Rattle.gx_base.specs.declared.calls.Call.{Call as CallOf}
use Rattle.gx_base.specs.declared.calls.Reply.{Reply}
use Rattle.gx_base.specs.declared.items.Item.{Item}
use Rattle.gx_base.specs.declared.acts.Entry.{Entry}
use Rattle.gx_base.specs.declared.acts.Step.{Step}
use Rattle.gx_base.specs.Plans.{Plan, Operator}
use Rattle.gx_base.specs.Replays.{put}
use Rattle.gx_base.specs.Worklists.{has_item, is_before, is_least}
use Rattle.gate_core.specs.Views.{in_way, undo_last}
use Rattle.commit_book.specs.BookViews.{free_item, put_back, is_named}
use Rattle.speculation.specs.Events as event
use Rattle.speculation.specs.Sessions.{Session, Phase, Idle, Running, Finished, Undoing, ended, undoing, undone_to, Ahead, Asks, Ends, ahead, last_step, steps_before, has_no_step, is_idle}
use Rattle.speculation.specs.Machines.{Machine, Place, place_of, settled, taken, named_off, let_go, given_up, committed, Turned, take, live_at, answer, entry_of, undo_step, undo, finish, go, turn_in, turn_at, turn}
use Rattle.speculation.proofs.Putting.{put_same, put_other}

module _ (op : Operator) (m : Machine) (worker : ℕ) where
  pub record Quiet (after : Machine) : Type 0 where
    pub others : (v : ℕ) → (worker == v) ≡ false → after.sessions v ≡ m.sessions v
    pub ready : (after.book.ready ≡ m.book.ready) ⊎ (is_idle (after.sessions worker).phase ≡ true)

  abbrev pub QuietPlace : Place → Type 0
  QuietPlace p = Quiet (settled m worker p)

  same_ready : (p : Place) → p.book.ready ≡ m.book.ready → QuietPlace p
  same_ready p e = record { others = λ v n. put_other m.sessions worker p.session v n; ready = inl e }

  pub quiet_let_go : (s : Session) → QuietPlace (let_go (place_of m worker) worker s)
  quiet_let_go s = same_ready (let_go (place_of m worker) worker s) refl

  quiet_give_up_by : (s : Session) (b : Bool) → QuietPlace (if b then let_go (place_of m worker) worker s else record (place_of m worker) { session = undoing s })
  quiet_give_up_by s true = quiet_let_go s
  quiet_give_up_by s false = same_ready _ refl

  quiet_give_up : (s : Session) → QuietPlace (given_up (place_of m worker) worker s)
  quiet_give_up s = quiet_give_up_by s (has_no_step s.outcome.steps)

  quiet_last : (s : Session) (x : Step) (b : Bool)
      → QuietPlace (if b then record { gates = put m.gates x.room (undo_last (m.gates x.room) worker s.iter); book = put_back m.book worker s.iter; session = ended s }
      else record { gates = put m.gates x.room (undo_last (m.gates x.room) worker s.iter); book = m.book; session = undone_to s (steps_before s.outcome.steps) })
  quiet_last s x true = same_ready _ refl
  quiet_last s x false = same_ready _ refl

  quiet_undo_step : (s : Session) (o : Option Step) → QuietPlace (undo_step (place_of m worker) worker s o).place
  quiet_undo_step s None = quiet_let_go s
  quiet_undo_step s (Some x) = quiet_last s x (has_no_step (steps_before s.outcome.steps))

  pub quiet_undo : (s : Session) → QuietPlace (undo (place_of m worker) worker s).place
  quiet_undo s = quiet_undo_step s (last_step s.outcome.steps)

  quiet_conflict_by : (s : Session) (held : Entry) (b : Bool) → QuietPlace (if b then named_off (place_of m worker) s held else given_up (place_of m worker) worker s)
  quiet_conflict_by s held true = same_ready (named_off (place_of m worker) s held) refl
  quiet_conflict_by s held false = quiet_give_up s

  quiet_answer : (s : Session) (room : ℕ) (call : CallOf) (goes_on : Reply → Plan) (o : Option ℕ) → QuietPlace (answer (place_of m worker) worker s room call goes_on (entry_of (place_of m worker) worker s room call) o).place
  quiet_answer s room call goes_on None = same_ready _ refl
  quiet_answer s room call goes_on (Some place) =
      let held : Entry = live_at (m.gates room) place (entry_of (place_of m worker) worker s room call) in
      quiet_conflict_by s held (m.book.ordered && is_before s.item held.item)

  quiet_commit : (s : Session) → QuietPlace (committed (place_of m worker) worker s)
  quiet_commit s = record { others = λ v n. put_other m.sessions worker (ended s) v n; ready = inr (ap (λ (t : Session). is_idle t.phase) (put_same m.sessions worker (ended s))) }

  quiet_finish_by : (s : Session) (named ready least : Bool)
      → QuietPlace (Turned.place (if named then undo (place_of m worker) worker s
      else (if ready then (if least then record { event = event.Commit (length m.book.commits); place = committed (place_of m worker) worker s } else record { event = event.Wait; place = record (place_of m worker) { session = s } })
      else record { event = event.Drop; place = given_up (place_of m worker) worker s })))
  quiet_finish_by s true ready least = quiet_undo s
  quiet_finish_by s false false least = quiet_give_up s
  quiet_finish_by s false true true = quiet_commit s
  quiet_finish_by s false true false = same_ready _ refl

  quiet_finish : (s : Session) → QuietPlace (finish (place_of m worker) worker s).place
  quiet_finish s = quiet_finish_by s (is_named m.book worker s.iter) (has_item m.book.ready s.item) (not m.book.ordered || is_least m.book.ready s.item)

  quiet_go : (a : Ahead) → QuietPlace (go (place_of m worker) worker a).place
  quiet_go (Asks s room call goes_on) = quiet_answer s room call goes_on (in_way (m.gates room) (entry_of (place_of m worker) worker s room call))
  quiet_go (Ends s) = quiet_finish s

  quiet_take : (o : Option Item) → QuietPlace (take op (place_of m worker) worker o).place
  quiet_take None = same_ready (place_of m worker) refl
  quiet_take (Some item) = same_ready (taken op (place_of m worker) worker item) refl

  quiet_in : (p : Phase) → QuietPlace (turn_in op (place_of m worker) worker p).place
  quiet_in Idle = quiet_take (free_item m.book)
  quiet_in (Running plan) = quiet_go (ahead (m.sessions worker) plan (m.sessions worker).outcome.pushes)
  quiet_in Finished = quiet_finish (m.sessions worker)
  quiet_in Undoing = quiet_undo (m.sessions worker)

  pub quiet : Quiet (turn op m worker)
  unfolding turn_at
  quiet = quiet_in (m.sessions worker).phase

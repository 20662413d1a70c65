-- Each turn leaves the ready set in order, and each hold with a live iteration.
use Rattle.std.specs.Prelude.{◌≡◌, ℕ, zero, suc, Bool, true, false, not, ◌&&◌, ◌||◌, ◌==◌, if◌then◌else◌, Option, Some, None, List, [], ◌∷◌, ◌++◌, length, refl, ⊤}
use Rattle.std.proofs.Common.{sym, ◌∙◌, ap, subst}
use Rattle.gx_base.specs.declared.calls.Call.{Call as CallOf}
use Rattle.gx_base.specs.declared.calls.Reply.{Reply}
use Rattle.gx_base.specs.declared.items.Item.{Item}
use Rattle.gx_base.specs.declared.acts.Entry.{Entry}
use Rattle.gx_base.specs.declared.acts.Step.{Step}
use Rattle.gx_base.specs.Plans.{Plan, Call, Push, Done, Operator}
use Rattle.gx_base.specs.Replays.{put}
use Rattle.gx_base.specs.Worklists.{has_item, same_item, is_before, is_least}
use Rattle.gate_core.specs.Views.{GateView, in_way, undo_last}
use Rattle.commit_book.specs.BookViews.{Hold, is_hold_of, with_hold, without_iteration, without_item_held, with_name, free_item, put_back, is_named}
use Rattle.commit_book.proofs.ready.ReadySets.{same_itself}
use Rattle.speculation.specs.Events as event
use Rattle.speculation.specs.Sessions.{Session, Phase, Idle, Running, Finished, Undoing, is_idle, begun_on, ended, undoing, undone_to, Ahead, Asks, Ends, ahead, last_step, steps_before, has_no_step}
use Rattle.speculation.specs.Machines.{Machine, Place, place_of, settled, named_off, let_go, given_up, committed, Turned, take, live_at, answer, entry_of, undo_step, undo, finish, go, turn_in, turn_at, turn}
use Rattle.speculation.specs.ScheduledRuns.{is_empty, Run, then_turned, scheduled, drain_step, drain_steps, drain_worker, drain}
use Rattle.speculation.specs.Premises.{IsInOrder, IsNew}
use Rattle.speculation.proofs.Putting.{no_bool, put_same, same_number, numbers_equal}
use Rattle.speculation.proofs.InOrder.{ready_stays_in_order}
use Rattle.speculation.proofs.Turns.{sessioned, gated, settled_itself}
use Rattle.speculation.proofs.Runs.{chosen}

-- the hold is that of the session's live iteration, on its item
abbrev pub Held : Session → Hold → Type 0
Held s h = (is_idle s.phase ≡ false) × (s.iter ≡ h.iter) × (s.item ≡ h.item)

abbrev pub AllHeld : (ℕ → Session) → List Hold → Type 0
AllHeld sessions [] = ⊤
AllHeld sessions (h ∷ hs) = Held (sessions h.worker) h × AllHeld sessions hs

pub record IsTidy (m : Machine) : Type 0 where
  pub held : AllHeld m.sessions m.book.holds
  pub in_order : IsInOrder m.book.ready

-- ---- holds

held_put_by : (sessions : ℕ → Session) (w : ℕ) (t : Session) (h : Hold) (b : Bool) → (w == h.worker) ≡ b → (b ≡ true → Held t h) → Held (sessions h.worker) h → Held (if b then t else sessions h.worker) h
held_put_by sessions w t h true e f k = f refl
held_put_by sessions w t h false e f k = k

-- another session of an iteration that stays live
held_put : (sessions : ℕ → Session) (w : ℕ) (t : Session) (hs : List Hold) → is_idle t.phase ≡ false → (sessions w).iter ≡ t.iter → (sessions w).item ≡ t.item → AllHeld sessions hs → AllHeld (put sessions w t) hs
held_put sessions w t [] n i x a = tt
held_put sessions w t (h ∷ hs) n i x a = (
  held_put_by sessions w t h (w == h.worker) refl
      (λ e. let k : w ≡ h.worker = numbers_equal w h.worker e in
      (n, sym i ∙ ap (λ v. (sessions v).iter) k ∙ a.0.1, sym x ∙ ap (λ v. (sessions v).item) k ∙ a.0.2)) a.0,
  held_put sessions w t hs n i x a.1,
)

held_cons : (sessions : ℕ → Session) (h : Hold) (hs : List Hold) (b : Bool) → (b ≡ false → Held (sessions h.worker) h) → AllHeld sessions hs → AllHeld sessions (if b then hs else h ∷ hs)
held_cons sessions h hs true f a = a
held_cons sessions h hs false f a = (f refl, a)

-- an iteration that ends holds nothing
held_back : (sessions : ℕ → Session) (w : ℕ) (t : Session) (iter : ℕ) (hs : List Hold) → (sessions w).iter ≡ iter → AllHeld sessions hs → AllHeld (put sessions w t) (without_iteration hs w iter)
held_back sessions w t iter [] i a = tt
held_back sessions w t iter (h ∷ hs) i a =
    held_cons (put sessions w t) h (without_iteration hs w iter) (is_hold_of w iter h)
    (λ e. held_put_by sessions w t h (w == h.worker) refl (λ k. absurd (no_bool (is_hold_of w iter h) (own k) e)) a.0)
    (held_back sessions w t iter hs i a.1)
  where
    own : (w == h.worker) ≡ true → is_hold_of w iter h ≡ true
    own k =
        let same : w ≡ h.worker = numbers_equal w h.worker k in
        let first : (h.worker == w) ≡ true = subst (λ v. (v == w) ≡ true) same (same_number w) in
        let iters : iter ≡ h.iter = sym i ∙ ap (λ v. (sessions v).iter) same ∙ a.0.1 in
        ap (λ (b : Bool). b && (h.iter == iter)) first ∙ subst (λ k. (k == iter) ≡ true) iters (same_number iter)

held_freed : (sessions : ℕ → Session) (w : ℕ) (t : Session) (item : Item) (hs : List Hold) → (sessions w).item ≡ item → AllHeld sessions hs → AllHeld (put sessions w t) (without_item_held hs item)
held_freed sessions w t item [] x a = tt
held_freed sessions w t item (h ∷ hs) x a =
    held_cons (put sessions w t) h (without_item_held hs item) (same_item h.item item)
    (λ e. held_put_by sessions w t h (w == h.worker) refl (λ k. absurd (no_bool (same_item h.item item) (own k) e)) a.0)
    (held_freed sessions w t item hs x a.1)
  where
    own : (w == h.worker) ≡ true → same_item h.item item ≡ true
    own k =
        let items : item ≡ h.item = sym x ∙ ap (λ v. (sessions v).item) (numbers_equal w h.worker k) ∙ a.0.2 in
        subst (λ y. same_item y item ≡ true) items (same_itself item)

-- an idle worker holds nothing, so it may begin any iteration
held_begin : (sessions : ℕ → Session) (w : ℕ) (t : Session) (hs : List Hold) → is_idle (sessions w).phase ≡ true → AllHeld sessions hs → AllHeld (put sessions w t) hs
held_begin sessions w t [] e a = tt
held_begin sessions w t (h ∷ hs) e a = (
  held_put_by sessions w t h (w == h.worker) refl
      (λ k. absurd (no_bool (is_idle (sessions w).phase) e (subst (λ v. is_idle (sessions v).phase ≡ false) (sym (numbers_equal w h.worker k)) a.0.0))) a.0,
  held_begin sessions w t hs e a.1,
)

held_without : (sessions : ℕ → Session) (worker iter : ℕ) (hs : List Hold) → AllHeld sessions hs → AllHeld sessions (without_iteration hs worker iter)
held_without sessions worker iter [] a = tt
held_without sessions worker iter (h ∷ hs) a = held_cons sessions h (without_iteration hs worker iter) (is_hold_of worker iter h) (λ _. a.0) (held_without sessions worker iter hs a.1)

held_with_by : (sessions : ℕ → Session) (h k : Hold) (hs ks : List Hold) (b : Bool) → Held (sessions h.worker) h → Held (sessions k.worker) k → AllHeld sessions hs → AllHeld sessions ks → AllHeld sessions (if b then h ∷ k ∷ hs else k ∷ ks)
held_with_by sessions h k hs ks true p q a b = (p, (q, a))
held_with_by sessions h k hs ks false p q a b = (q, b)

held_with : (sessions : ℕ → Session) (hs : List Hold) (h : Hold) → Held (sessions h.worker) h → AllHeld sessions hs → AllHeld sessions (with_hold hs h)
held_with sessions [] h p a = (p, tt)
held_with sessions (k ∷ hs) h p a = held_with_by sessions h k hs (with_hold hs h) (is_before h.item k.item) p a.0 a.1 (held_with sessions hs h p a.1)

held_name_by : (sessions : ℕ → Session) (h : Hold) (hs : List Hold) (b : Bool) → Held (sessions h.worker) h → AllHeld sessions hs → AllHeld sessions ((if b then record h { named = true } else h) ∷ hs)
held_name_by sessions h hs true k a = (k, a)
held_name_by sessions h hs false k a = (k, a)

held_name : (sessions : ℕ → Session) (worker iter : ℕ) (item : Item) (hs : List Hold) → AllHeld sessions hs → AllHeld sessions (with_name hs worker iter item)
held_name sessions worker iter item [] a = tt
held_name sessions worker iter item (h ∷ hs) a = held_name_by sessions h (with_name hs worker iter item) (is_hold_of worker iter h && is_before item h.item) a.0 (held_name sessions worker iter item hs a.1)

-- ---- turns

module _ (op : Operator) (m : Machine) (worker : ℕ) (tidy : IsTidy m) where
  abbrev pub TidyPlace : Place → Type 0
  TidyPlace p = IsTidy (settled m worker p)

  -- a session of the worker's iteration
  record OfOwn (s : Session) : Type 0 where
    iter : (m.sessions worker).iter ≡ s.iter
    item : (m.sessions worker).item ≡ s.item

  goes_on : (s : Session) (hs : List Hold) → OfOwn s → is_idle s.phase ≡ false → AllHeld m.sessions hs → IsTidy (sessioned m worker s hs)
  goes_on s hs k n a = record { held = held_put m.sessions worker s hs n k.iter k.item a; in_order = tidy.in_order }

  goes_on_gate : (s : Session) (room : ℕ) (g : GateView) → OfOwn s → is_idle s.phase ≡ false → IsTidy (gated m worker s m.book.holds room g)
  goes_on_gate s room g k n = record { held = held_put m.sessions worker s m.book.holds n k.iter k.item tidy.held; in_order = tidy.in_order }

  tidy_let_go : (s : Session) → OfOwn s → TidyPlace (let_go (place_of m worker) worker s)
  tidy_let_go s k = record { held = held_back m.sessions worker (ended s) s.iter m.book.holds k.iter tidy.held; in_order = tidy.in_order }

  tidy_give_up_by : (s : Session) (b : Bool) → OfOwn s → TidyPlace (if b then let_go (place_of m worker) worker s else record (place_of m worker) { session = undoing s })
  tidy_give_up_by s true k = tidy_let_go s k
  tidy_give_up_by s false k = goes_on (undoing s) m.book.holds (record { iter = k.iter; item = k.item }) refl tidy.held

  tidy_give_up : (s : Session) → OfOwn s → TidyPlace (given_up (place_of m worker) worker s)
  tidy_give_up s k = tidy_give_up_by s (has_no_step s.outcome.steps) k

  tidy_last : (s : Session) (x : Step) (b : Bool) → OfOwn s
      → TidyPlace (if b then record { gates = put m.gates x.room (undo_last (m.gates x.room) worker s.iter); book = put_back m.book worker s.iter; session = ended s }
      else record { gates = put m.gates x.room (undo_last (m.gates x.room) worker s.iter); book = m.book; session = undone_to s (steps_before s.outcome.steps) })
  tidy_last s x true k = record { held = held_back m.sessions worker (ended s) s.iter m.book.holds k.iter tidy.held; in_order = tidy.in_order }
  tidy_last s x false k = goes_on_gate (undone_to s (steps_before s.outcome.steps)) x.room (undo_last (m.gates x.room) worker s.iter) (record { iter = k.iter; item = k.item }) refl

  tidy_undo_step : (s : Session) (o : Option Step) → OfOwn s → TidyPlace (undo_step (place_of m worker) worker s o).place
  tidy_undo_step s None k = tidy_let_go s k
  tidy_undo_step s (Some x) k = tidy_last s x (has_no_step (steps_before s.outcome.steps)) k

  tidy_undo : (s : Session) → OfOwn s → TidyPlace (undo (place_of m worker) worker s).place
  tidy_undo s k = tidy_undo_step s (last_step s.outcome.steps) k

  tidy_conflict_by : (s : Session) (held : Entry) (b : Bool) → OfOwn s → is_idle s.phase ≡ false → TidyPlace (if b then named_off (place_of m worker) s held else given_up (place_of m worker) worker s)
  tidy_conflict_by s held true k n = goes_on s (with_name m.book.holds held.worker held.iter s.item) k n (held_name m.sessions held.worker held.iter s.item m.book.holds tidy.held)
  tidy_conflict_by s held false k n = tidy_give_up s k

  tidy_answer : (s : Session) (room : ℕ) (call : CallOf) (goes_on' : Reply → Plan) (o : Option ℕ) → OfOwn s → is_idle s.phase ≡ false
      → TidyPlace (answer (place_of m worker) worker s room call goes_on' (entry_of (place_of m worker) worker s room call) o).place
  tidy_answer s room call goes_on' None k n = record { held = held_put m.sessions worker _ m.book.holds refl k.iter k.item tidy.held; in_order = tidy.in_order }
  tidy_answer s room call goes_on' (Some place) k n =
      let held : Entry = live_at (m.gates room) place (entry_of (place_of m worker) worker s room call) in
      tidy_conflict_by s held (m.book.ordered && is_before s.item held.item) k n

  tidy_commit : (s : Session) → OfOwn s → TidyPlace (committed (place_of m worker) worker s)
  tidy_commit s k = record {
    held = held_freed m.sessions worker (ended s) s.item m.book.holds k.item tidy.held;
    in_order = ready_stays_in_order m.book.ready s.item s.outcome tidy.in_order;
  }

  tidy_finish_by : (s : Session) (named ready least : Bool) → OfOwn s → is_idle s.phase ≡ false
      → TidyPlace (Turned.place (if named then undo (place_of m worker) worker s
      else (if ready then (if least then record { event = event.Commit (length m.book.commits); place = committed (place_of m worker) worker s } else record { event = event.Wait; place = record (place_of m worker) { session = s } })
      else record { event = event.Drop; place = given_up (place_of m worker) worker s })))
  tidy_finish_by s true ready least k n = tidy_undo s k
  tidy_finish_by s false false least k n = tidy_give_up s k
  tidy_finish_by s false true true k n = tidy_commit s k
  tidy_finish_by s false true false k n = goes_on s m.book.holds k n tidy.held

  tidy_finish : (s : Session) → OfOwn s → is_idle s.phase ≡ false → TidyPlace (finish (place_of m worker) worker s).place
  tidy_finish s k n = tidy_finish_by s (is_named m.book worker s.iter) (has_item m.book.ready s.item) (not m.book.ordered || is_least m.book.ready s.item) k n

  -- where a body comes to, it is of the same iteration
  abbrev OwnAhead : Ahead → Type 0
  OwnAhead (Asks s room call goes_on') = OfOwn s × (is_idle s.phase ≡ false)
  OwnAhead (Ends s) = OfOwn s × (is_idle s.phase ≡ false)

  own_ahead : (s : Session) (plan : Plan) (pushes : List Item) → OfOwn s → OwnAhead (ahead s plan pushes)
  own_ahead s (Call room call goes_on') pushes k = (record { iter = k.iter; item = k.item }, refl)
  own_ahead s (Push item rest) pushes k = own_ahead s rest (pushes ++ item ∷ []) k
  own_ahead s Done pushes k = (record { iter = k.iter; item = k.item }, refl)

  tidy_go : (a : Ahead) → OwnAhead a → TidyPlace (go (place_of m worker) worker a).place
  tidy_go (Asks s room call goes_on') k = tidy_answer s room call goes_on' (in_way (m.gates room) (entry_of (place_of m worker) worker s room call)) k.0 k.1
  tidy_go (Ends s) k = tidy_finish s k.0 k.1

  tidy_take : (o : Option Item) → is_idle (m.sessions worker).phase ≡ true → TidyPlace (take op (place_of m worker) worker o).place
  tidy_take None e = subst IsTidy (sym (settled_itself m worker)) tidy
  tidy_take (Some item) e =
      let s : Session = m.sessions worker in
      let t : Session = begun_on op s item in
      let new : put m.sessions worker t worker ≡ t = put_same m.sessions worker t in
      record {
        held = held_with (put m.sessions worker t) (without_iteration m.book.holds worker s.next_iter) (record { worker = worker; iter = s.next_iter; item = item; named = false })
            (ap (λ (u : Session). is_idle u.phase) new, ap (λ (u : Session). u.iter) new, ap (λ (u : Session). u.item) new)
            (held_without (put m.sessions worker t) worker s.next_iter m.book.holds (held_begin m.sessions worker t m.book.holds e tidy.held));
        in_order = tidy.in_order;
      }

  itself : OfOwn (m.sessions worker)
  itself = record { iter = refl; item = refl }

  tidy_in : (p : Phase) → (m.sessions worker).phase ≡ p → TidyPlace (turn_in op (place_of m worker) worker p).place
  tidy_in Idle q = tidy_take (free_item m.book) (ap is_idle q)
  tidy_in (Running plan) q = tidy_go (ahead (m.sessions worker) plan (m.sessions worker).outcome.pushes) (own_ahead (m.sessions worker) plan (m.sessions worker).outcome.pushes itself)
  tidy_in Finished q = tidy_finish (m.sessions worker) itself (ap is_idle q)
  tidy_in Undoing q = tidy_undo (m.sessions worker) itself

  pub tidy_turn : IsTidy (turn op m worker)
  unfolding turn_at
  tidy_turn = tidy_in (m.sessions worker).phase refl

  pub tidy_undo_own : TidyPlace (undo (place_of m worker) worker (m.sessions worker)).place
  tidy_undo_own = tidy_undo (m.sessions worker) itself

  pub tidy_let_go_own : TidyPlace (let_go (place_of m worker) worker (m.sessions worker))
  tidy_let_go_own = tidy_let_go (m.sessions worker) itself

module _ (op : Operator) where
  pub tidy_scheduled : (schedule : List ℕ) (r : Run) → IsTidy r.machine → IsTidy (scheduled op r schedule).machine
  unfolding scheduled
  tidy_scheduled [] r h = h
  tidy_scheduled (worker ∷ schedule) r h =
      let n : Run = then_turned r worker (turn_at op (place_of r.machine worker) worker) in
      chosen IsTidy (is_empty r.machine.book.ready) r (scheduled op n schedule) (λ _. h) (λ _. tidy_scheduled schedule n (tidy_turn op r.machine worker h))

  tidy_step : (r : Run) (worker : ℕ) → IsTidy r.machine → IsTidy (drain_step r worker).machine
  tidy_step r worker h =
      let m : Machine = r.machine in
      let s : Session = m.sessions worker in
      let gone : Run = record r { machine = settled m worker (let_go (place_of m worker) worker s) } in
      let less : Run = then_turned r worker (undo (place_of m worker) worker s) in
      chosen IsTidy (is_idle s.phase) r (if has_no_step s.outcome.steps then gone else less) (λ _. h)
      (λ _. chosen IsTidy (has_no_step s.outcome.steps) gone less (λ _. tidy_let_go_own op m worker h) (λ _. tidy_undo_own op m worker h))

  tidy_steps : (n : ℕ) (r : Run) (worker : ℕ) → IsTidy r.machine → IsTidy (drain_steps n r worker).machine
  tidy_steps zero r worker h = h
  tidy_steps (suc n) r worker h = tidy_steps n (drain_step r worker) worker (tidy_step r worker h)

  pub tidy_drain : (workers : ℕ) (r : Run) → IsTidy r.machine → IsTidy (drain r workers).machine
  unfolding drain drain_worker
  tidy_drain zero r h = h
  tidy_drain (suc worker) r h = tidy_steps (suc (length ((drain r worker).machine.sessions worker).outcome.steps)) (drain r worker) worker (tidy_drain worker r h)

  pub new_is_tidy : (m : Machine) → IsNew op m → IsTidy m
  new_is_tidy m h = record { held = subst (AllHeld m.sessions) (sym h.no_holds) tt; in_order = h.in_order }

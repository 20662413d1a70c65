-- The turn in which a finished session begins its commit.
use Rattle.std.specs.Prelude.{◌≡◌, ℕ, ◌<◌, ◌≤◌, nat_lt, Bool, true, false, ◌||◌, ◌==◌, if◌then◌else◌, Option, Some, None, List, [], ◌∷◌, length, is_some, Ok, refl}
use Rattle.std.proofs.Common.{sym, ◌∙◌, ap, subst, arith}
use Rattle.std.proofs.lemmas.Bool.Decides.{nat_tests}
use Rattle.std.specs.Cmp.{nat_eq_equiv}
use Rattle.gx_base.specs.Plans.{Operator}
use Rattle.gx_base.specs.Replays.{part, put}
use Rattle.gx_base.specs.RoomViews.{RoomView}
use Rattle.gx_base.specs.Worklists.{has_item}
use Rattle.gate_core.specs.Entries.{mades_of, entries_of}
use Rattle.gate_core.specs.Views.{GateView, release}
use Rattle.commit_book.specs.BookViews.{BookView, commit, is_named, is_spent, is_past_journal}
use Rattle.speculation.specs.Events as event
use Rattle.speculation.specs.Events.{Event}
use Rattle.speculation.specs.Limits.{limit_at}
use Rattle.speculation.specs.Limits as limits
use Rattle.speculation.specs.Machines.{Place, Turned, committed, turn_at}
use Rattle.speculation.specs.Sessions.{Finished, ended, undoing}
use Rattle.speculation.proofs.IterationEntries.{no_mades}
use Rattle.speculation.proofs.Putting.{no_bool, numbers_equal}
use Rattle.rooms.specs.RoomsViews.{RoomsView, is_room_held, entered}
use Rattle.rooms.specs.HandedOut.{IsHandedOut}
use Rattle.rooms.specs.Values.{tells}
use Rattle.rooms.specs.declared.values.Value.{Value}
use Rattle.rooms.specs.declared.values.Value.TheVariants.{Book}
use Rattle.rooms.proofs.CallerLemmas.{put_same, put_other, commits_entered_here, released_here}
use Rattle.sessions.specs.declared.events.Event.{Event as CodeEvent}
use Rattle.sessions.specs.declared.events.Event.TheVariants as events
use Rattle.sessions.specs.declared.session.Phase.TheVariants as code
use Rattle.sessions.specs.Places.{IsLogIn, IsLogOf, IsFit, AreStepsWithin, IfTold, no_gate, gate_of}
use Rattle.sessions.specs.RoomLists.{is_room_among, rooms_of, steps_in, AreRoomsBelow}
use Rattle.sessions.specs.SessionViews.{OpenCommit, Rests, Core, SessionView, view_in}
use Rattle.sessions.specs.SharedTurns.{Shared, shared_in, released, stays, cut_at, cut_commit, begun_commit, rest_of_commit}
use Rattle.sessions.specs.TurnMoves.{RoomMoves, at_book, enters_book, releases, moves_by, turn_moves}
use Rattle.sessions.specs.Turns.{TakesTurn, HasTurned, Answers, HasMoved, IsAfter, TellsRight, event_of, limit_on, is_commit}
use Rattle.sessions.proofs.Standing.{told_book}
use Rattle.sessions.proofs.Visiting.{other_than_book}
use Rattle.sessions.proofs.Turning.{whole}
use Rattle.sessions.proofs.BookTurns.{free_of, body_of}
use Rattle.sessions.proofs.LeftRooms.{part_in}
use Rattle.sessions.proofs.LogRooms.{rooms_rise, rooms_below, steps_in_rooms, release_nothing}
use Rattle.sessions.proofs.FinishTurns.{MayCommit, finishes}
use Rattle.sessions.proofs.UndoTurns.{or_right}

among_by : (n x room : ℕ) (rest : Bool) → x < n → (rest ≡ true → room < n) → (b : Bool) → (x == room) ≡ b → ((x == room) || rest) ≡ true → room < n
among_by n x room rest l h true e m = subst (λ k. k < n) (numbers_equal x room e) l
among_by n x room rest l h false e m = h (sym (ap (λ (b : Bool). b || rest) e) ∙ m)

among_is_below : (n : ℕ) (xs : List ℕ) (room : ℕ) → AreRoomsBelow n xs → is_room_among xs room ≡ true → room < n
among_is_below n [] room h m = absurd (cc)
among_is_below n (x ∷ xs) room h m = among_by n x room (is_room_among xs room) h.0 (among_is_below n xs room h.1) (x == room) refl m

-- a commit and a busy turn tell no state functions
tells_by : (p : Place) (worker : ℕ) (e : CodeEvent) (n : ℕ) → event_of e ≡ event.Commit n → TellsRight p worker e
tells_by p worker (events.Take item) n h = tt
tells_by p worker (events.Call room call reply) n h = tt
tells_by p worker (events.Conflict room told) n h = absurd (cc)
tells_by p worker (events.Undo room call) n h = tt
tells_by p worker (events.Commit number) n h = tt
tells_by p worker events.Wait n h = tt
tells_by p worker events.Drop n h = tt
tells_by p worker events.Idle n h = tt
tells_by p worker events.Busy n h = tt

busy_by : (p : Place) (worker : ℕ) (e : CodeEvent) → event_of e ≡ event.Busy → TellsRight p worker e
busy_by p worker (events.Take item) h = tt
busy_by p worker (events.Call room call reply) h = tt
busy_by p worker (events.Conflict room told) h = absurd (cc)
busy_by p worker (events.Undo room call) h = tt
busy_by p worker (events.Commit number) h = tt
busy_by p worker events.Wait h = tt
busy_by p worker events.Drop h = tt
busy_by p worker events.Idle h = tt
busy_by p worker events.Busy h = tt

module _ {T S St : Type 0} (op : Operator) (a b : RoomsView (Value T S)) (rest : Rests St) (c : Core) (was : BookView) (fit : IsFit op a (view_in rest c code.Finished)) (handed : IsHandedOut tells a a.book (Book was)) where
  abbrev finished : SessionView
  finished = view_in rest c code.Finished

  abbrev now : BookView
  now = commit was c.worker c.iter c.item (record { steps = c.log; pushes = c.pushes; withdrawn = [] })

  abbrev number : ℕ
  number = length was.commits

  abbrev left : List ℕ
  left = rooms_of c.log

  abbrev made : OpenCommit
  made = record { book = now; number = number; left = left }

  abbrev making : SessionView
  making = view_in rest c (code.Committing now number left)

  abbrev seen : RoomView
  seen = tells {T = T} {S = S} (Book was)

  abbrev inside : RoomsView (Value T S)
  inside = entered tells a a.book (Book was)

  log_is : steps_in left c.log ≡ c.log
  log_is = steps_in_rooms c.log

  ordered : was.ordered ≡ a.ordered
  ordered = handed.suits.ordered_as refl

  held_by : (room : ℕ) (k : Bool) → (a.book == room) ≡ k → is_room_held inside room ≡ (room == a.book)
  held_by room true e =
      let same : a.book ≡ room = numbers_equal a.book room e in
      ap (λ n. is_some (put a.held a.book (Some seen) n)) (sym same) ∙ ap (λ (o : Option RoomView). is_some o) (put_same a.held a.book (Some seen)) ∙ sym (nat_eq_equiv.symm room a.book ∙ e)
  held_by room false e = ap (λ (o : Option RoomView). is_some o) (put_other a.held a.book (Some seen) room e) ∙ free_of op a finished fit refl room ∙ sym (nat_eq_equiv.symm room a.book ∙ e)

  -- the session with the commit is fit for the rooms in which the book is held
  inside_fits : IsFit op inside making
  inside_fits = record {
    acts = fit.acts;
    book = fit.book;
    ordered = fit.ordered;
    ordered_told = fit.ordered_told;
    live = λ room l. subst (λ steps. IsLogIn room c.worker c.iter c.item steps (a.live room)) (sym log_is) (fit.live room l);
    live_told = λ room l. told_log (a.told room) room (fit.live_told room l);
    within = subst (AreStepsWithin op.rooms) (sym log_is) fit.within;
    doing = (
      (λ room. held_by room (a.book == room) refl),
      record {
        earlier = was.commits;
        steps = c.log;
        runs = body_of op a finished fit refl;
        last = refl;
        number = refl;
        rising = rooms_rise c.log;
        below = rooms_below op.rooms c.log fit.within;
        log = refl;
      },
      ordered,
      commits_entered_here tells a (Book was),
      (λ room m. ap (λ f. f room) (released_here tells a (Book was))),
    );
  } where
    told_log : (o : Option (Value T S)) (room : ℕ) → IfTold o (λ value. IsLogOf room finished (gate_of value).live) → IfTold o (λ value. IsLogOf room making (gate_of value).live)
    told_log None room h = tt
    told_log (Some value) room h = subst (λ steps. IsLogIn room c.worker c.iter c.item steps (gate_of value).live) (sym log_is) h

  pub commit_fits : (x : RoomsView (Value T S)) → x ≡ inside → IsFit op x making
  commit_fits x e = subst (λ (v : RoomsView (Value T S)). IsFit op v making) (sym e) inside_fits

  -- ---- the turn as one of the finished session

  module _ (unnamed_is : is_named was c.worker c.iter ≡ false) (unordered : was.ordered ≡ false) (may : MayCommit (has_item was.ready c.item) (is_spent was) (is_past_journal was (length c.log)))
      (gates : ℕ → GateView) (log : (room : ℕ) → room < a.book → IsLogOf room making (gates room).live) (none : (room : ℕ) → a.book ≤ room → gates room ≡ no_gate) where
    abbrev p : Place
    p = record { gates = gates; book = was; session = finished.at }

    abbrev inner : Place
    inner = record { gates = gates; book = now; session = making.at }

    turns : turn_at op p c.worker ≡ record { event = event.Commit number; place = committed p c.worker finished.at }
    turns = finishes op a b rest c gates was true unnamed_is unordered may.is_ready

    limit : limit_on op p c.worker ≡ None
    limit = ap (λ (u : Turned). limit_at u.event was (length c.log)) turns ∙ (λ i. if may.not_spent i then Some limits.Spent else (if may.not_past i then Some limits.Kept else None))

    -- where the log has no room nothing is released
    nothing_at : (room : ℕ) → is_room_among left room ≡ false → (k : Bool) → nat_lt room a.book ≡ k → release (gates room) c.worker c.iter number ≡ gates room
    nothing_at room e true l =
        let below : room < a.book = grind (arith, nat_tests) in
        let entries : mades_of (entries_of c.worker c.iter (gates room).live) ≡ [] =
        (log room below).entries ∙ part_in left room c.log ∙ ap (λ (k : Bool). if k then part room c.log else []) e in
        release_nothing c.worker c.iter number (gates room) (no_mades (entries_of c.worker c.iter (gates room).live) entries)
    nothing_at room e false l =
        let above : a.book ≤ room = grind (arith, nat_tests) in
        subst (λ (g : GateView). release g c.worker c.iter number ≡ g) (sym (none room above)) (release_nothing c.worker c.iter number no_gate refl)

    release_by : (room : ℕ) (k : Bool) → is_room_among left room ≡ k → (if k then release (gates room) c.worker c.iter number else gates room) ≡ release (gates room) c.worker c.iter number
    release_by room true e = refl
    release_by room false e = sym (nothing_at room e (nat_lt room a.book) refl)

    all_released : released gates left c.worker c.iter number ≡ (λ room. release (gates room) c.worker c.iter number)
    all_released = λ i room. release_by room (is_room_among left room) refl i

    -- ---- the answers

    whole_answers : (t : SessionView) (q : Place) (e : CodeEvent) → IsAfter (rest_of_commit inner c.worker made) (event_of e) t q → Answers op a.book finished t p q None (Ok e)
    whole_answers t q e h =
        whole op a b finished t p q (record { event = event.Commit number; place = committed p c.worker finished.at }) e turns refl h.event_is
        (h.place_is ∙ (λ i. record { gates = all_released i; book = now; session = ended finished.at })) h.opened_is h.pushed_is (sym (ap (λ (u : Turned). limit_at u.event was (length c.log)) turns) ∙ limit) (tells_by p c.worker e number h.event_is)

    cut_is : (room : ℕ) → (a.book == room) ≡ false → cut_commit inner c.worker making.at c.pushed made room ≡ cut_at op a.book p c.worker finished.at c.pushed Finished room
    cut_is room e =
        (λ i. cut_commit p c.worker (record finished.at { outcome = record finished.at.outcome { steps = log_is i } }) c.pushed made room)
        ∙ sym (
        ap (λ (k : Bool). if k then stays p finished.at c.pushed else (if is_named was c.worker c.iter then stays p (undoing finished.at) c.pushed else cut_commit p c.worker finished.at c.pushed (begun_commit p c.worker finished.at) room)) e
        ∙ ap (λ (k : Bool). if k then stays p (undoing finished.at) c.pushed else cut_commit p c.worker finished.at c.pushed (begun_commit p c.worker finished.at) room) unnamed_is
        )

    cut_answers : (t : SessionView) (q : Place) (e : CodeEvent) (room : ℕ) → (a.book == room) ≡ false → IsAfter (cut_commit inner c.worker making.at c.pushed made room) (event_of e) t q → Answers op a.book finished t p q (Some room) (Ok e)
    cut_answers t q e room n h = (
      subst (λ (x : Shared). IsAfter x (event_of e) t q) (cut_is room n) h,
      busy_by p c.worker e h.event_is,
      (λ k. ((λ m. absurd (no_bool (is_named was c.worker c.iter) m unnamed_is)), (λ m. (ap (λ (u : Turned). is_commit u.event) turns, limit)))),
    )

    lift_answers : (t : SessionView) (q : Place) (e : CodeEvent) (lost : Option ℕ) → ((room : ℕ) → lost ≡ Some room → (a.book == room) ≡ false) → IsAfter (shared_in op a.book making inner (Some made) lost) (event_of e) t q
        → Answers op a.book finished t p q lost (Ok e)
    lift_answers t q e None n h = whole_answers t q e h
    lift_answers t q e (Some room) n h = cut_answers t q e room (n room refl) h

  -- a room that is left isn't the book's
  left_below : (room : ℕ) → is_room_among left room ≡ true → (a.book == room) ≡ false
  left_below room m = other_than_book a.book room (among_is_below a.book left room (subst (λ n. AreRoomsBelow n left) (sym fit.book) (rooms_below op.rooms c.log fit.within)) m)

  module _ (unnamed_is : is_named was c.worker c.iter ≡ false) (unordered : was.ordered ≡ false) (may : MayCommit (has_item was.ready c.item) (is_spent was) (is_past_journal was (length c.log))) where
    moved_inside : (p q : Place) (lost : Option ℕ) (v : Event) → b.moves ≡ turn_moves a.book p.gates q.gates p.book q.book c.worker making.at (Some made) lost v inside.moves
        → b.moves ≡ releases a.book p.gates q.gates was q.book left lost (enters_book a.book p.gates q.gates was q.book a.moves)
    moved_inside p q None v m = m
    moved_inside p q (Some room) v m = m

    -- the moves are those inside, with the book entered before
    lift_moved : (gates : ℕ → GateView) (q : Place) (t : SessionView) (e : CodeEvent) (lost : Option ℕ) → ((room : ℕ) → lost ≡ Some room → (a.book == room) ≡ false) → IsAfter (shared_in op a.book making (record { gates = gates; book = now; session = making.at }) (Some made) lost) (event_of e) t q
        → b.moves ≡ releases a.book gates q.gates was q.book left lost (enters_book a.book gates q.gates was q.book a.moves) → HasMoved a.book finished (record { gates = gates; book = was; session = finished.at }) q lost (Ok e) a.moves b.moves
    lift_moved gates q t e None n h m = subst (λ (v : Event). b.moves ≡ moves_by a.book gates q.gates was q.book c.worker finished.at None v a.moves) (sym h.event_is) m
    lift_moved gates q t e (Some room) n h m =
        let cut : RoomMoves T S = releases a.book gates q.gates was q.book left (Some room) (enters_book a.book gates q.gates was q.book a.moves) in
        let visit : RoomMoves T S = at_book a.book gates q.gates was q.book a.moves in
        subst (λ (v : Event). b.moves ≡ moves_by a.book gates q.gates was q.book c.worker finished.at (Some room) v a.moves) (sym h.event_is)
        (m ∙ sym (ap (λ (k : Bool). if k then a.moves else (if is_named was c.worker c.iter then visit else cut)) (n room refl) ∙ ap (λ (k : Bool). if k then visit else cut) unnamed_is))

    lift_inside : (t : SessionView) (e : CodeEvent) → TakesTurn op inside b making t (Ok e) → TakesTurn op a b finished t (Ok e)
    lift_inside t e k =
        let h : HasTurned op inside b making t (Ok e) = k.has_turned in
        let inner_is : h.p ≡ record { gates = h.p.gates; book = now; session = making.at } = λ i. record { gates = h.p.gates; book = h.stood.book i; session = h.stood.session_is i } in
        let after : IsAfter (shared_in op a.book making (record { gates = h.p.gates; book = now; session = making.at }) (Some made) h.lost) (event_of e) t h.q =
        subst (λ (x : Place). IsAfter (shared_in op a.book making x (Some made) h.lost) (event_of e) t h.q) inner_is h.answers.0 in
        record {
          has_turned = record {
            p = record { gates = h.p.gates; book = was; session = finished.at };
            q = h.q;
            lost = h.lost;
            stood = record {
              session_is = refl;
              gates = h.stood.gates;
              no_others = h.stood.no_others;
              logs = λ room l. subst (λ steps. IsLogIn room c.worker c.iter c.item steps (h.p.gates room).live) log_is (h.stood.logs room l);
              book = told_book (a.told a.book) was handed.told;
              ordered = ordered;
            };
            stands = h.stands;
            found = record {
              needed = λ room m. or_right (a.book == room) (is_room_among left room) (h.found.needed room m);
              risen = h.found.risen;
              others = h.found.others;
            };
            answers = lift_answers unnamed_is unordered may h.p.gates h.stood.logs h.stood.no_others t h.q e h.lost (λ room m. left_below room (h.found.needed room m)) after;
            moved = lift_moved h.p.gates h.q t e h.lost (λ room m. left_below room (h.found.needed room m)) after (moved_inside h.p h.q h.lost (event_of e) h.moved);
            same_rooms = record { book = h.same_rooms.book; ordered = h.same_rooms.ordered; acts_for = h.same_rooms.acts_for; telling = h.same_rooms.telling; live = h.same_rooms.live; live_told = h.same_rooms.live_told };
            same_worker = h.same_worker;
          };
          is_fit = k.is_fit;
        }

    pub commit_begins : (x : RoomsView (Value T S)) (t : SessionView) (e : CodeEvent) → x ≡ inside → TakesTurn op x b making t (Ok e) → TakesTurn op a b finished t (Ok e)
    commit_begins x t e is h = lift_inside t e (subst (λ (v : RoomsView (Value T S)). TakesTurn op v b making t (Ok e)) is h)

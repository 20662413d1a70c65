-- The turns of a session that makes a commit.
use Rattle.std.specs.Prelude.{◌≡◌, ◌≢◌, ◌⊎◌, ℕ, ◌+◌, ◌<◌, ◌≤◌, Bool, true, false, ◌||◌, ◌==◌, if◌then◌else◌, Option, Some, None, List, [], ◌∷◌, ◌++◌, length, is_some, Ok, refl}
use Rattle.std.specs.Cmp.{nat_eq_equiv}
use Rattle.std.proofs.lemmas.List.{length_push}
use Rattle.std.proofs.Common.{sym, ◌∙◌, ap, subst, inl, inr, arith}
use Rattle.gx_base.specs.declared.acts.Entry.{Entry}
use Rattle.gx_base.specs.declared.acts.Step.{Step}
use Rattle.gx_base.specs.Outcomes.{WholeCommit}
use Rattle.gx_base.specs.Plans.{Operator}
use Rattle.gx_base.specs.Replays.{part, put}
use Rattle.gx_base.specs.RoomViews.{RoomView}
use Rattle.gate_core.specs.Views.{GateView, release}
use Rattle.commit_book.specs.BookViews.{BookView}
use Rattle.speculation.specs.Machines.{Place}
use Rattle.speculation.proofs.Putting.{no_bool, numbers_equal, same_number}
use Rattle.speculation.proofs.GateTurns.{log_releases}
use Rattle.rooms.specs.RoomsViews.{RoomsView, is_room_held, commits_in, commits_entered, entries_for, told_with, leaves as exit, left as rooms_left}
use Rattle.rooms.specs.HandedOut.{IsLost, CountHasRisen}
use Rattle.rooms.specs.Values.{tells}
use Rattle.rooms.specs.declared.values.Value.{Value}
use Rattle.rooms.specs.declared.values.Value.TheVariants.{Object, Book}
use Rattle.rooms.proofs.CallerLemmas.{put_same, put_other}
use Rattle.sessions.specs.declared.events.Event.TheVariants as events
use Rattle.sessions.specs.declared.session.Phase.TheVariants as code
use Rattle.sessions.specs.Needs.{needs}
use Rattle.sessions.specs.Places.{IsLogIn, IsLogOf, IsFit, IsFitIn, IsCommitOf, AreStepsWithin, IfTold, gate_of, book_of, IsBookIn, StandsOn}
use Rattle.sessions.specs.RoomLists.{is_room_among, steps_in, before, on_from, AreRoomsRising, AreRoomsBelow}
use Rattle.sessions.specs.SessionViews.{OpenCommit, Rests, Core, SessionView, view_in}
use Rattle.sessions.specs.SharedTurns.{released}
use Rattle.sessions.specs.TurnMoves.{RoomMoves, gates_visited}
use Rattle.sessions.specs.Turns.{OthersStay, TakesTurn}
use Rattle.sessions.specs.Visits.{AreReleased, IsReleaseCutShort, MayLeaveBook}
use Rattle.sessions.proofs.Logs.{log_sound, sound_log, log_shown, others_release}
use Rattle.sessions.proofs.Standing.{RoomKept, GateLeft, AreLeft, fits, told_book_itself, base_gates, base_gates_told, base_no_others, base_logs}
use Rattle.sessions.proofs.Visiting.{SameGates, OrderedTold, carried, lost_gates, book_gates}
use Rattle.sessions.proofs.MovedGates.{visited_same}
use Rattle.sessions.proofs.Turning.{turned, no_loss, lost_moves, some_number}
use Rattle.sessions.proofs.LeftRooms.{among_both, below_end, below_front, not_among, rising_end, apart, before_is, on_from_is, part_in, steps_in_twice, steps_within}
use Rattle.sessions.proofs.ReleaseSteps.{not_in_front, among_at}
use Rattle.sessions.proofs.UndoTurns.{or_right}

module _ {T S : Type 0} (op : Operator) (a mid b : RoomsView (Value T S)) (s t : SessionView) (front : List ℕ) (iter number : ℕ) (fit : IsFit op a s) (h : AreReleased a mid s.worker iter number front) (after : SameGates mid b)
    (its_iter : iter ≡ s.at.iter) (below : AreRoomsBelow a.book front) where
  -- the gates before the releases and after them
  pub gates_then : ℕ → GateView
  gates_then room = if is_room_among front room then h.was room else base_gates a room

  then_was : (room : ℕ) → is_room_among front room ≡ true → gates_then room ≡ h.was room
  unfolding gates_then
  then_was room e = ap (λ (c : Bool). if c then h.was room else base_gates a room) e

  then_base : (room : ℕ) → is_room_among front room ≡ false → gates_then room ≡ base_gates a room
  unfolding gates_then
  then_base room e = ap (λ (c : Bool). if c then h.was room else base_gates a room) e

  beyond_front : (room : ℕ) → a.book ≤ room → is_room_among front room ≡ false
  beyond_front room l = not_among a.book front room below l

  -- ---- where the session stands before

  told_by : (room : ℕ) → room < a.book → (c : Bool) → is_room_among front room ≡ c → IfTold (a.told room) (λ value. gates_then room ≡ gate_of value)
  told_by room l true e = subst (λ (g : GateView). IfTold (a.told room) (λ value. g ≡ gate_of value)) (sym (then_was room e)) (h.gates room e)
  told_by room l false e = subst (λ (g : GateView). IfTold (a.told room) (λ value. g ≡ gate_of value)) (sym (then_base room e)) (base_gates_told op a s fit room l)

  log_by : (room : ℕ) → room < a.book → (c : Bool) → is_room_among front room ≡ c → IsLogOf room s (gates_then room).live
  log_by room l true e =
      subst (λ (g : GateView). IsLogOf room s g.live) (sym (then_was room e))
      (log_shown a.acts_for s.worker s.at.iter s.at.item fit.acts room s.at.outcome.steps (h.was room).live (subst (IsLogOf room s) (sym (h.entries room e)) (fit.live room l)))
  log_by room l false e = subst (λ (g : GateView). IsLogOf room s g.live) (sym (then_base room e)) (base_logs op a s fit room l)

  pub release_stands : (bk : BookView) → IsBookIn a s.opened bk → bk.ordered ≡ a.ordered → StandsOn a s (record { gates = gates_then; book = bk; session = s.at })
  release_stands bk in_book o = record {
    session_is = refl;
    gates = λ room l. told_by room l (is_room_among front room) refl;
    no_others = λ room l. then_base room (beyond_front room l) ∙ base_no_others op a s fit room l;
    logs = λ room l. log_by room l (is_room_among front room) refl;
    book = in_book;
    ordered = o;
  }

  -- ---- what becomes of the rooms

  q_released : (room : ℕ) → is_room_among front room ≡ true → released gates_then front s.worker iter number room ≡ release (h.was room) s.worker iter number
  q_released room e = ap (λ (c : Bool). if c then release (gates_then room) s.worker iter number else gates_then room) e ∙ ap (λ g. release g s.worker iter number) (then_was room e)

  -- the gates were entered and left so
  pub release_moves : (moves : RoomMoves T S) → gates_visited h.was (λ room. release (h.was room) s.worker iter number) front moves ≡ gates_visited gates_then (released gates_then front s.worker iter number) front moves
  release_moves moves = visited_same h.was (λ room. release (h.was room) s.worker iter number) gates_then (released gates_then front s.worker iter number) front (λ room e. sym (then_was room e)) (λ room e. sym (q_released room e)) moves

  module _ (same_iter : t.at.iter ≡ s.at.iter) (same_item : t.at.item ≡ s.at.item) (same : t.worker ≡ s.worker) (gone : (room : ℕ) → is_room_among front room ≡ true → part room t.at.outcome.steps ≡ [])
      (stay : (room : ℕ) → is_room_among front room ≡ false → part room t.at.outcome.steps ≡ part room s.at.outcome.steps) (bk now : BookView) where
    abbrev p : Place
    p = record { gates = gates_then; book = bk; session = s.at }

    abbrev q : Place
    q = record { gates = released gates_then front s.worker iter number; book = now; session = t.at }

    q_kept : (room : ℕ) → is_room_among front room ≡ false → released gates_then front s.worker iter number room ≡ gates_then room
    q_kept room e = ap (λ (c : Bool). if c then release (gates_then room) s.worker iter number else gates_then room) e

    b_live : (room : ℕ) → room < a.book → b.live room ≡ mid.live room
    b_live room l = after.live room (subst (λ n. room < n) (sym h.book) l)

    b_told : (room : ℕ) → room < a.book → b.told room ≡ mid.told room
    b_told room l = after.told room (subst (λ n. room < n) (sym h.book) l)

    moved : (room : ℕ) (es : List Entry) → IsLogIn room s.worker s.at.iter s.at.item s.at.outcome.steps es → part room t.at.outcome.steps ≡ part room s.at.outcome.steps → IsLogOf room t es
    moved room es k e =
        subst (λ w. IsLogIn room w t.at.iter t.at.item t.at.outcome.steps es) (sym same)
        (subst (λ i. IsLogIn room s.worker i t.at.item t.at.outcome.steps es) (sym same_iter)
        (subst (λ x. IsLogIn room s.worker s.at.iter x t.at.outcome.steps es) (sym same_item) (record { current = k.current; entries = k.entries ∙ sym e })))

    released_log : (room : ℕ) → room < a.book → is_room_among front room ≡ true → IsLogOf room t (release (h.was room) s.worker iter number).live
    released_log room l e =
        let was_log : IsLogOf room s (h.was room).live = subst (λ (g : GateView). IsLogOf room s g.live) (then_was room e) (log_by room l true e) in
        let k : IsLogIn room s.worker s.at.iter s.at.item [] (release (h.was room) s.worker s.at.iter number).live =
        sound_log room s.worker s.at.iter s.at.item [] (release (h.was room) s.worker s.at.iter number).live
        (log_releases s.worker s.at.iter s.at.item (h.was room) number room s.at.outcome.steps (log_sound room s.worker s.at.iter s.at.item s.at.outcome.steps (h.was room).live was_log)) in
        let k_iter : IsLogIn room s.worker s.at.iter s.at.item [] (release (h.was room) s.worker iter number).live = subst (λ i. IsLogIn room s.worker s.at.iter s.at.item [] (release (h.was room) s.worker i number).live) (sym its_iter) k in
        subst (λ w. IsLogIn room w t.at.iter t.at.item t.at.outcome.steps (release (h.was room) s.worker iter number).live) (sym same)
        (subst (λ i. IsLogIn room s.worker i t.at.item t.at.outcome.steps (release (h.was room) s.worker iter number).live) (sym same_iter)
        (subst (λ x. IsLogIn room s.worker s.at.iter x t.at.outcome.steps (release (h.was room) s.worker iter number).live) (sym same_item) (record { current = k_iter.current; entries = k_iter.entries ∙ sym (gone room e) })))

    room_by : (room : ℕ) → room < a.book → (c : Bool) → is_room_among front room ≡ c → RoomKept a b s t p q room ⊎ GateLeft a b s t p q room
    room_by room l true e = inr (record {
      live =
          b_live room l ∙ h.live room ∙ ap (λ (c : Bool). if c then entries_for a.acts_for (release (h.was room) s.worker iter number).live else a.live room) e
          ∙ ap (λ (g : GateView). entries_for a.acts_for g.live) (sym (q_released room e));
      told =
          b_told room l ∙ h.told room ∙ ap (λ (c : Bool). if c then told_with (a.told room) (Object (release (h.was room) s.worker iter number)) else a.told room) e
          ∙ ap (λ (g : GateView). told_with (a.told room) (Object g)) (sym (q_released room e));
      was = ap (λ (g : GateView). entries_for a.acts_for g.live) (then_was room e) ∙ h.entries room e;
      log = subst (λ (g : GateView). IsLogOf room t g.live) (sym (q_released room e)) (released_log room l e);
      others = subst (λ (g : GateView). OthersStay s.worker (gates_then room).live g.live) (sym (q_released room e))
          (subst (λ (g : GateView). OthersStay s.worker g.live (release (h.was room) s.worker iter number).live) (sym (then_was room e)) (others_release s.worker iter number (h.was room)));
    })
    room_by room l false e = inl (record {
      live = b_live room l ∙ h.live room ∙ ap (λ (c : Bool). if c then entries_for a.acts_for (release (h.was room) s.worker iter number).live else a.live room) e;
      told = b_told room l ∙ h.told room ∙ ap (λ (c : Bool). if c then told_with (a.told room) (Object (release (h.was room) s.worker iter number)) else a.told room) e;
      gate = q_kept room e;
      log = λ es k. moved room es k (stay room e);
    })

    mid_book_told : mid.told a.book ≡ a.told a.book
    mid_book_told = h.told a.book ∙ ap (λ (c : Bool). if c then told_with (a.told a.book) (Object (release (h.was a.book) s.worker iter number)) else a.told a.book) (beyond_front a.book (omega arith))

    pub release_left : AreLeft a b s t p q
    release_left = record {
      book = after.book ∙ h.book;
      ordered = after.ordered ∙ h.ordered;
      acts_for = after.acts_for ∙ h.acts_for;
      telling = subst (λ n. is_some (b.told n) ≡ is_some (mid.told n)) h.book after.telling ∙ ap (λ (o : Option (Value T S)). is_some o) mid_book_told;
      ordered_told = λ l.
          let m : OrderedTold a.book a.ordered mid.told = subst (λ (o : Option (Value T S)). IfTold o (λ value. (book_of value).ordered ≡ a.ordered)) (sym mid_book_told) l in
          carried a.book mid.book a.ordered mid.ordered mid.told b.told h.book h.ordered after.ordered_told m;
      rooms = λ room l. room_by room l (is_room_among front room) refl;
      beyond = λ room l. q_kept room (beyond_front room l);
    }

other_by : (front now : List ℕ) (r : ℕ) → AreRoomsRising (front ++ now) → is_room_among now r ≡ true → (b : Bool) → is_room_among front r ≡ b → is_room_among front r ≡ false
other_by front now r h m true e = absurd (no_bool (is_room_among now r) m (apart front now r h e))
other_by front now r h m false e = e

-- a room of the rest isn't among the first ones
other_part : (front now : List ℕ) (r : ℕ) → AreRoomsRising (front ++ now) → is_room_among now r ≡ true → is_room_among front r ≡ false
other_part front now r h m = other_by front now r h m (is_room_among front r) refl

-- ---- the turns

module _ {T S St : Type 0} (op : Operator) (a b : RoomsView (Value T S)) (rest : Rests St) (c : Core) (book : BookView) (number : ℕ) (left : List ℕ) where
  abbrev making : SessionView
  making = view_in rest c (code.Committing book number left)

  abbrev made : OpenCommit
  made = record { book = book; number = number; left = left }

  abbrev steps : List Step
  steps = steps_in left c.log

  -- what a session that makes a commit asks of its rooms
  pub held_of : IsFit op a making → (room : ℕ) → is_room_held a room ≡ (room == a.book)
  held_of fit = fit.doing.0

  pub commit_of : IsFit op a making → IsCommitOf op making made
  commit_of fit = fit.doing.1

  pub book_ordered : IsFit op a making → book.ordered ≡ a.ordered
  book_ordered fit = fit.doing.2

  pub below_of : IsFit op a making → AreRoomsBelow a.book left
  below_of fit = subst (λ n. AreRoomsBelow n left) (sym fit.book) (commit_of fit).below

  -- what the steps of the session are in a room
  part_left : (room : ℕ) → part room steps ≡ (if is_room_among left room then part room c.log else [])
  part_left room = part_in left room c.log

  -- ---- every room was released

  abbrev closed : Core
  closed = record c { log = []; pushes = []; pushed = c.pushes }

  abbrev closed_view : SessionView
  closed_view = view_in rest closed code.Idle

  -- how many commits the book has
  count_made : IsFit op a making → length book.commits ≡ number + 1
  count_made fit = ap (λ (xs : List WholeCommit). length xs) (commit_of fit).last ∙ length_push (commit_of fit).earlier _ ∙ ap (λ n. n + 1) (sym (commit_of fit).number)

  pub may_leave : (mid : RoomsView (Value T S)) → IsFit op a making → AreReleased a mid c.worker c.iter number left → MayLeaveBook mid book
  may_leave mid fit h =
      let count : commits_entered mid ≡ number = (λ i. commits_in (h.held i (h.book i))) ∙ fit.doing.3 in
      let more : length book.commits ≡ number + 1 = count_made fit in
      record {
        held = (λ i. is_some (h.held i (h.book i))) ∙ held_of fit a.book ∙ same_number a.book;
        ordered = book_ordered fit ∙ sym h.ordered;
        commits = record { kept = omega arith; more = λ room r. omega arith };
      }

  b_free_by : (mid : RoomsView (Value T S)) → IsFit op a making → AreReleased a mid c.worker c.iter number left → (room : ℕ) (k : Bool) → (mid.book == room) ≡ k → is_some (put mid.held mid.book None room) ≡ false
  b_free_by mid fit h room true e = ap (λ (o : Option RoomView). is_some o) (ap (put mid.held mid.book None) (sym (numbers_equal mid.book room e)) ∙ put_same mid.held mid.book None)
  b_free_by mid fit h room false e =
      ap (λ (o : Option RoomView). is_some o) (put_other mid.held mid.book None room e ∙ ap (λ f. f room) h.held) ∙ held_of fit room ∙ nat_eq_equiv.symm room a.book ∙ ap (λ n. n == room) (sym h.book) ∙ e

  b_free : (mid : RoomsView (Value T S)) → IsFit op a making → AreReleased a mid c.worker c.iter number left → b ≡ rooms_left tells mid mid.book (Book book) → (room : ℕ) → is_room_held b room ≡ false
  b_free mid fit h leaves room = ap (λ (v : RoomsView (Value T S)). is_room_held v room) leaves ∙ b_free_by mid fit h room (mid.book == room) refl

  book_told : (mid : RoomsView (Value T S)) → b ≡ rooms_left tells mid mid.book (Book book) → IsBookIn b None book
  book_told mid leaves =
      subst (λ (o : Option (Value T S)). IfTold o (λ value. book ≡ book_of value))
      (sym ((λ i. b.told (ap (λ (v : RoomsView (Value T S)). v.book) leaves i)) ∙ ap (λ (v : RoomsView (Value T S)). v.told mid.book) leaves ∙ put_same mid.told mid.book (told_with (mid.told mid.book) (Book book))))
      (told_book_itself (mid.told mid.book) book (λ z. book ≡ z) refl)

  pub commit_turn : (mid : RoomsView (Value T S)) → IsFit op a making → AreReleased a mid c.worker c.iter number left → b ≡ rooms_left tells mid mid.book (Book book) → TakesTurn op a b making closed_view (Ok (events.Commit number))
  commit_turn mid fit h leaves =
      let s : SessionView = making in
      let t : SessionView = closed_view in
      let after : SameGates mid b = subst (SameGates mid) (sym leaves) (book_gates mid book (book_ordered fit ∙ sym h.ordered)) in
      let below : AreRoomsBelow a.book left = below_of fit in
      let gates : ℕ → GateView = gates_then op a mid b s t left c.iter number fit h after refl below in
      let p : Place = record { gates = gates; book = book; session = s.at } in
      let q : Place = record { gates = released gates left c.worker c.iter number; book = book; session = t.at } in
      let stay : (room : ℕ) → is_room_among left room ≡ false → part room [] ≡ part room steps = λ room e. sym (part_left room ∙ ap (λ (k : Bool). if k then part room c.log else []) e) in
      let l : AreLeft a b s t p q = release_left op a mid b s t left c.iter number fit h after refl below refl refl refl (λ room e. refl) stay book book in
      record {
        has_turned =
            turned op a b s t p q l (release_stands op a mid b s t left c.iter number fit h after refl below book refl (book_ordered fit)) fit refl refl (book_told mid leaves) (book_ordered fit) None
            (no_loss a b s (λ room. ap (λ (v : RoomsView (Value T S)). v.lost room) leaves ∙ ap (λ f. f room) h.lost)) (Ok (events.Commit number))
            (record { event_is = refl; place_is = refl; opened_is = refl; pushed_is = refl }, tt, tt)
            (ap (λ (v : RoomsView (Value T S)). v.moves) leaves ∙ (λ i. exit (h.book i) (Book book) ∷ h.moves i)
            ∙ ap (λ (ms : RoomMoves T S). exit a.book (Book book) ∷ ms) (release_moves op a mid b s t left c.iter number fit h after refl below a.moves));
        is_fit = fits a b s t p q l fit.acts refl op fit tt (b_free mid fit h leaves, refl);
      }

  -- ---- a room was held

  cut_fits : (now front : List ℕ) (mid : RoomsView (Value T S)) (room : ℕ) → IsFit op a making → IsCommitOf op making made → left ≡ front ++ now → AreRoomsRising (front ++ now) → ((r : ℕ) → is_room_among now r ≡ true → is_room_among left r ≡ true)
      → AreReleased a mid c.worker c.iter number front → IsLost mid b room → IsFitIn op b (view_in rest c (code.Committing book number now)) (Some (record { book = book; number = number; left = now }))
  cut_fits now front mid room fit k parts rising fewer h loss =
      let held : b.held ≡ a.held = ap (λ (v : RoomsView (Value T S)). v.held) loss.same ∙ h.held in
      let book_is : b.book ≡ a.book = ap (λ (v : RoomsView (Value T S)). v.book) loss.same ∙ h.book in (
        (λ r. ap (λ (f : ℕ → Option RoomView). is_some (f r)) held ∙ held_of fit r ∙ ap (λ n. r == n) (sym book_is)),
        record {
          earlier = k.earlier;
          steps = k.steps;
          runs = k.runs;
          last = k.last;
          number = k.number;
          rising = rising_end front now rising;
          below = below_end op.rooms front now (subst (AreRoomsBelow op.rooms) parts k.below);
          log = sym (steps_in_twice now left fewer c.log) ∙ ap (λ (xs : List Step). steps_in now xs) k.log ∙ steps_in_twice now left fewer k.steps;
        },
        book_ordered fit ∙ sym (ap (λ (v : RoomsView (Value T S)). v.ordered) loss.same ∙ h.ordered),
        (λ i. commits_in (held i (book_is i))) ∙ fit.doing.3,
        (λ r e. ap (λ (v : RoomsView (Value T S)). v.released r) loss.same ∙ h.released r (other_part front now r rising e) ∙ fit.doing.4 r (fewer r e)),
      )

  cut_others : (mid : RoomsView (Value T S)) (room other : ℕ) → IsLost mid b room → mid.lost ≡ a.lost → Some room ≢ Some other → (k : Bool) → (room == other) ≡ k → b.lost other ≡ a.lost other
  cut_others mid room other loss same n true e = absurd (n (ap Some (numbers_equal room other e)))
  cut_others mid room other loss same n false e = ap (λ (v : RoomsView (Value T S)). v.lost other) loss.same ∙ put_other mid.lost room (b.lost room) other e ∙ ap (λ f. f other) same

  pub cut_turn : (now : List ℕ) → IsFit op a making → IsReleaseCutShort a b c.worker c.iter number left now → TakesTurn op a b making (view_in rest c (code.Committing book number now)) (Ok events.Busy)
  cut_turn now fit h =
      let s : SessionView = making in
      let t : SessionView = view_in rest c (code.Committing book number now) in
      let k : IsCommitOf op making made = commit_of fit in
      let parts : left ≡ h.front ++ now = h.rooms_are ∙ ap (λ (xs : List ℕ). h.front ++ xs) (sym h.left_is) in
      let rising : AreRoomsRising (h.front ++ now) = subst AreRoomsRising parts k.rising in
      let below : AreRoomsBelow a.book h.front = below_front a.book h.front now (subst (AreRoomsBelow a.book) parts (below_of fit)) in
      let new : is_room_among h.front h.room ≡ false = not_in_front h.front h.room h.rest (subst AreRoomsRising h.rooms_are k.rising) in
      let after : SameGates h.mid b = lost_gates h.mid b h.room h.loss in
      let among : (room : ℕ) → is_room_among h.front room ≡ false → is_room_among now room ≡ is_room_among left room =
      λ room e. sym (ap (λ (xs : List ℕ). is_room_among xs room) parts ∙ among_both h.front now room ∙ ap (λ (x : Bool). x || is_room_among now room) e) in
      let fewer : (room : ℕ) → is_room_among now room ≡ true → is_room_among left room ≡ true =
      λ room e. ap (λ (xs : List ℕ). is_room_among xs room) parts ∙ among_both h.front now room ∙ or_right (is_room_among h.front room) (is_room_among now room) e in
      let gone : (room : ℕ) → is_room_among h.front room ≡ true → part room (steps_in now c.log) ≡ [] = λ room e. part_in now room c.log ∙ ap (λ (x : Bool). if x then part room c.log else []) (apart h.front now room rising e) in
      let stay : (room : ℕ) → is_room_among h.front room ≡ false → part room (steps_in now c.log) ≡ part room steps = λ room e. part_in now room c.log ∙ ap (λ (x : Bool). if x then part room c.log else []) (among room e) ∙ sym (part_left room) in
      let gates : ℕ → GateView = gates_then op a h.mid b s t h.front c.iter number fit h.front_released after refl below in
      let p : Place = record { gates = gates; book = book; session = s.at } in
      let q : Place = record { gates = released gates h.front c.worker c.iter number; book = book; session = t.at } in
      let l : AreLeft a b s t p q = release_left op a h.mid b s t h.front c.iter number fit h.front_released after refl below refl refl refl gone stay book book in
      let front_is : h.front ≡ before left h.room = sym (ap (λ (xs : List ℕ). before xs h.room) h.rooms_are ∙ before_is h.front h.room h.rest new) in
      let left_is : now ≡ on_from left h.room = h.left_is ∙ sym (ap (λ (xs : List ℕ). on_from xs h.room) h.rooms_are ∙ on_from_is h.front h.room h.rest new) in
      let log_is : steps_in now c.log ≡ steps_in (on_from left h.room) steps = sym (steps_in_twice now left fewer c.log) ∙ ap (λ (xs : List ℕ). steps_in xs steps) left_is in
      let needed : is_room_among left h.room ≡ true = ap (λ (xs : List ℕ). is_room_among xs h.room) h.rooms_are ∙ among_at h.front h.room h.rest in
      record {
        has_turned =
            turned op a b s t p q l (release_stands op a h.mid b s t h.front c.iter number fit h.front_released after refl below book refl (book_ordered fit)) fit refl refl refl (book_ordered fit) (Some h.room)
            (record {
              needed = λ other e. subst (λ r. needs a.book s r ≡ true) (some_number e) needed;
              risen = λ other e. subst (λ r. CountHasRisen (a.lost r) (b.lost r)) (some_number e) (subst (λ f. CountHasRisen (f h.room) (b.lost h.room)) h.front_released.lost h.loss.risen);
              others = λ other m. cut_others h.mid h.room other h.loss h.front_released.lost m (h.room == other) refl;
            })
            (Ok events.Busy) (
              record {
                event_is = refl;
                place_is = λ i. record { gates = released gates (front_is i) c.worker c.iter number; book = book; session = record t.at { outcome = record { steps = log_is i; pushes = c.pushes; withdrawn = [] } } };
                opened_is = λ i. Some (record { book = book; number = number; left = left_is i });
                pushed_is = refl;
              },
              tt,
              tt,
            )
            (lost_moves h.mid b h.room h.loss ∙ h.front_released.moves ∙ release_moves op a h.mid b s t h.front c.iter number fit h.front_released after refl below a.moves
            ∙ ap (λ (xs : List ℕ). gates_visited gates q.gates xs a.moves) front_is);
        is_fit = fits a b s t p q l fit.acts refl op fit
            (subst (AreStepsWithin op.rooms) (steps_in_twice now left fewer c.log) (steps_within op.rooms now steps fit.within))
            (cut_fits now h.front h.mid h.room fit k parts rising fewer h.front_released h.loss);
      }

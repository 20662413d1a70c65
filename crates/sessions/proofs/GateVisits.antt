-- Turns that leave one gate.
use Rattle.std.specs.Prelude.{◌≡◌, ℕ, ◌<◌, Bool, true, false, ◌==◌, Option, Some, None, IfSome, List, is_some, Result, refl}
use Rattle.std.proofs.Common.{sym, ◌∙◌, ap, subst, inl, arith}
use Rattle.gx_base.specs.declared.acts.Entry.{Entry}
use Rattle.gx_base.specs.Plans.{Operator}
use Rattle.gx_base.specs.Replays.{put}
use Rattle.gx_base.specs.RoomViews.{RoomView}
use Rattle.gate_core.specs.Views.{GateView}
use Rattle.commit_book.specs.BookViews.{BookView}
use Rattle.speculation.specs.Machines.{Place}
use Rattle.speculation.proofs.Putting.{no_bool, numbers_equal}
use Rattle.rooms.specs.RoomsViews.{RoomsView, entries_for, visited, entered, left, is_room_held, mark_entered}
use Rattle.rooms.specs.HandedOut.{IsHandedOut, MayHaveMark, MayBeLeft}
use Rattle.rooms.specs.Values.{tells}
use Rattle.rooms.specs.declared.values.Value.{Value}
use Rattle.rooms.specs.declared.values.Value.TheVariants.{Object, Book}
use Rattle.rooms.proofs.CallerLemmas.{put_same, put_other, mark_entered_here}
use Rattle.sessions.specs.declared.events.Event.{Event as CodeEvent}
use Rattle.sessions.specs.declared.events.Stop.{Stop}
use Rattle.sessions.specs.Places.{IsLogOf, IsFit, AreStepsWithin, IsFitIn, gate_of, book_of, IsGateValue, IfTold, IsBookIn, StandsOn}
use Rattle.sessions.specs.SessionViews.{OpenCommit, SessionView}
use Rattle.sessions.specs.TurnMoves.{RoomMoves}
use Rattle.sessions.specs.Turns.{OthersStay, Answers, HasMoved, TakesTurn, IsLostIn}
use Rattle.sessions.specs.Visits.{WasVisited}
use Rattle.sessions.proofs.Logs.{log_shown}
use Rattle.sessions.proofs.Standing.{AreLeft, fits, told_gate, base_gates, base_stands}
use Rattle.sessions.proofs.Visiting.{SameGates, one_left, other_than_room}
use Rattle.sessions.proofs.Turning.{held_again, turned}

module _ {T S : Type 0} where
  abbrev pub gate_place : RoomsView (Value T S) → SessionView → (room : ℕ) → GateView → BookView → Place
  gate_place a s room was bk = record { gates = put (base_gates a) room was; book = bk; session = s.at }

  module _ (op : Operator) (a x : RoomsView (Value T S)) (s : SessionView) (room : ℕ) (was : GateView) (before : SameGates a x) (handed : IsHandedOut tells x room (Object was)) (fit : IsFit op a s) (none : s.opened ≡ None)
      (below : room < a.book) (bk : BookView) (book_in : IsBookIn a None bk) (ordered : bk.ordered ≡ a.ordered) where
    here : IfTold (a.told room) (λ value. was ≡ gate_of value)
    here = subst (λ (o : Option (Value T S)). IfTold o (λ value. was ≡ gate_of value)) (before.told room below) (told_gate (x.told room) was handed.told)

    log_here : IsLogOf room s was.live
    log_here =
        log_shown a.acts_for s.worker s.at.iter s.at.item fit.acts room s.at.outcome.steps was.live
        (subst (IsLogOf room s) (sym (before.live room below) ∙ sym (handed.live refl) ∙ ap (λ f. entries_for f was.live) before.acts_for) (fit.live room below))

    gates_by : (other : ℕ) → other < a.book → (c : Bool) → (room == other) ≡ c → IfTold (a.told other) (λ value. put (base_gates a) room was other ≡ gate_of value)
    gates_by other l true e =
        subst (λ n. IfTold (a.told n) (λ value. put (base_gates a) room was n ≡ gate_of value)) (numbers_equal room other e)
        (subst (λ (g : GateView). IfTold (a.told room) (λ value. g ≡ gate_of value)) (sym (put_same (base_gates a) room was)) here)
    gates_by other l false e = subst (λ (g : GateView). IfTold (a.told other) (λ value. g ≡ gate_of value)) (sym (put_other (base_gates a) room was other e)) ((base_stands op a s fit none).gates other l)

    logs_by : (other : ℕ) → other < a.book → (c : Bool) → (room == other) ≡ c → IsLogOf other s (put (base_gates a) room was other).live
    logs_by other l true e =
        subst (λ n. IsLogOf n s (put (base_gates a) room was n).live) (numbers_equal room other e) (subst (λ (g : GateView). IsLogOf room s g.live) (sym (put_same (base_gates a) room was)) log_here)
    logs_by other l false e = subst (λ (g : GateView). IsLogOf other s g.live) (sym (put_other (base_gates a) room was other e)) ((base_stands op a s fit none).logs other l)

    pub gate_stands : StandsOn a s (gate_place a s room was bk)
    gate_stands = record {
      session_is = refl;
      gates = λ other l. gates_by other l (room == other) refl;
      no_others = λ other l. put_other (base_gates a) room was other (other_than_room room other (omega arith)) ∙ (base_stands op a s fit none).no_others other l;
      logs = λ other l. logs_by other l (room == other) refl;
      book = subst (λ (o : Option OpenCommit). IsBookIn a o bk) (sym none) book_in;
      ordered = ordered;
    }

    -- the worker's entries that were there are those of its log
    pub gate_log : IsLogOf room s was.live
    gate_log = log_here

  module _ (op : Operator) (a x y b : RoomsView (Value T S)) (s t : SessionView) (room : ℕ) (was now : GateView) (before : SameGates a x) (visit : WasVisited x y room was now) (after : SameGates y b)
      (fit : IsFit op a s) (none : s.opened ≡ None) (same : t.worker ≡ s.worker) (below : room < a.book)
      (p_book q_book : BookView) (p_in : IsBookIn a None p_book) (p_ordered : p_book.ordered ≡ a.ordered) (q_in : IsBookIn b t.opened q_book) (q_ordered : q_book.ordered ≡ a.ordered)
      (lost : Option ℕ) (found : IsLostIn a b s lost)
      (log : IsLogOf room t now.live) (others : OthersStay s.worker was.live now.live) (elsewhere : (other : ℕ) → (room == other) ≡ false → (es : List Entry) → IsLogOf other s es → IsLogOf other t es)
      (within : AreStepsWithin op.rooms t.at.outcome.steps) (doing : IsFitIn op b t t.opened) where
    abbrev p : Place
    p = gate_place a s room was p_book

    abbrev q : Place
    q = record { gates = put (put (base_gates a) room was) room now; book = q_book; session = t.at }

    are_left : AreLeft a b s t p q
    are_left =
        one_left a b s t p q x y room was now before visit.visit after below visit.handed (put_same (base_gates a) room was) refl log others elsewhere

    pub gate_turn : (r : Result CodeEvent Stop) → Answers op a.book s t (gate_place a s room was p_book) (record { gates = put (put (base_gates a) room was) room now; book = q_book; session = t.at }) lost r
        → HasMoved a.book s (gate_place a s room was p_book) (record { gates = put (put (base_gates a) room was) room now; book = q_book; session = t.at }) lost r a.moves b.moves → TakesTurn op a b s t r
    gate_turn r answers moved = record {
      has_turned = turned op a b s t p q are_left (gate_stands op a x s room was before visit.handed fit none below p_book p_in p_ordered) fit same refl q_in q_ordered lost found r answers moved;
      is_fit = fits a b s t p q are_left fit.acts same op fit within doing;
    }

  -- ---- a visit of one gate alone

  -- the gates that a place has before and after it
  pub visited_at : (a : RoomsView (Value T S)) (room : ℕ) (was now : GateView) (moves : RoomMoves T S) → visited room (Object was) (Object now) moves ≡ visited room (Object (put (base_gates a) room was room)) (Object (put (put (base_gates a) room was) room now room)) moves
  visited_at a room was now moves = λ i. visited room (Object (sym (put_same (base_gates a) room was) i)) (Object (sym (put_same (put (base_gates a) room was) room now) i)) moves

  pub gate_visited : (a x b : RoomsView (Value T S)) (room : ℕ) (was left_as now : GateView) → IsHandedOut tells a room (Object was) → x ≡ entered tells a room (Object was) → b ≡ left tells x room (Object left_as) → left_as ≡ now
      → WasVisited a b room was now
  gate_visited a x b room was left_as now handed enters leaves same = record { handed = handed; visit = leaves ∙ (λ i. left tells (enters i) room (Object (same i))) }

  -- what is handed out of a room before the book's
  pub handed_gate : (a : RoomsView (Value T S)) (room : ℕ) (value : Value T S) → IsHandedOut tells a room value → room < a.book → IsGateValue value
  handed_gate a room (Object gate) handed below = refl
  handed_gate a room (Book book) handed below = absurd (no_bool (room == a.book) (sym handed.suits.book_where) (other_than_room room a.book below))

  pub handed_gates : (a : RoomsView (Value T S)) (room : ℕ) (found : Option (Value T S)) → room < a.book → IfSome found (λ value. IsHandedOut tells a room value) → IfSome found IsGateValue
  handed_gates a room None below handed = handed
  handed_gates a room (Some value) below handed = handed_gate a room value handed below

  pub value_visited : (a x b : RoomsView (Value T S)) (room : ℕ) (value left_as : Value T S) (now : GateView) → IsGateValue value → IsGateValue left_as → IsHandedOut tells a room value → x ≡ entered tells a room value → b ≡ left tells x room left_as
      → gate_of left_as ≡ now → WasVisited a b room (gate_of value) now
  value_visited a x b room value left_as now is_gate left_gate handed enters leaves same =
      gate_visited a x b room (gate_of value) (gate_of left_as) now (subst (IsHandedOut tells a room) is_gate handed) (enters ∙ ap (entered tells a room) is_gate) (leaves ∙ ap (left tells x room) left_gate) same

  -- the gate has the mark that it had
  pub value_mark : (a x : RoomsView (Value T S)) (room : ℕ) (value : Value T S) (mark : ℕ) → IsGateValue value → x ≡ entered tells a room value → mark ≡ (gate_of value).mark → MayHaveMark x room mark
  value_mark a x room value mark is_gate enters same =
      let e : x ≡ entered tells a room (Object (gate_of value)) = enters ∙ ap (entered tells a room) is_gate in
      inl (same ∙ sym (ap (λ (v : RoomsView (Value T S)). mark_entered v room) e ∙ mark_entered_here tells a room (Object (gate_of value))))

  pub value_may_be_left : (x : RoomsView (Value T S)) (room : ℕ) (value : Value T S) → IsGateValue value → room < x.book → MayHaveMark x room (gate_of value).mark → MayBeLeft x room (tells value)
  value_may_be_left x room value is_gate below mark = subst (λ (v : Value T S). MayBeLeft x room (tells v)) (sym is_gate) (record {
    suits = record { book_where = sym (other_than_room room x.book below); ordered_as = λ e. absurd (no_bool false e refl) };
    mark = λ _. mark;
    commits = λ e. absurd (no_bool false e refl);
  })

  module _ (a b : RoomsView (Value T S)) (room : ℕ) (was now : GateView) (visit : WasVisited a b room was now) where
    field_of : {A : Type 0} → (f : RoomsView (Value T S) → A) → f b ≡ f (left tells (entered tells a room (Object was)) room (Object now))
    field_of f = ap f visit.visit

    pub gate_visit_free : ((other : ℕ) → is_room_held a other ≡ false) → (other : ℕ) → is_room_held b other ≡ false
    gate_visit_free free other = ap (λ (f : ℕ → Option RoomView). is_some (f other)) (field_of (λ v. v.held)) ∙ held_again a.held room (tells {T = T} {S = S} (Object was)) free other

    pub gate_visit_lost : (other : ℕ) → b.lost other ≡ a.lost other
    gate_visit_lost other = field_of (λ v. v.lost other)

    pub gate_visit_moves : b.moves ≡ visited room (Object was) (Object now) a.moves
    gate_visit_moves = field_of (λ v. v.moves)

    pub gate_visit_book : room < a.book → (bk : BookView) → IsBookIn a None bk → IsBookIn b None bk
    gate_visit_book below bk h =
        subst (λ (o : Option (Value T S)). IfTold o (λ value. bk ≡ book_of value))
        (sym ((λ i. b.told (field_of (λ v. v.book) i)) ∙ field_of (λ v. v.told a.book) ∙ put_other a.told room _ a.book (other_than_room room a.book below))) h

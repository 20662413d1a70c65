-- Releases in one room after another.
use Rattle.std.specs.Prelude.{◌≡◌, ℕ, ◌+◌, ◌<◌, ◌≤◌, Bool, true, false, ◌&&◌, ◌||◌, ◌==◌, if◌then◌else◌, Option, Some, None, List, [], ◌∷◌, ◌++◌, is_some, refl}
use Rattle.std.proofs.Common.{sym, ◌∙◌, ap, subst, inl, inr, append_assoc, arith}
use Rattle.std.proofs.lemmas.List.{append-nil}
use Rattle.gx_base.specs.Replays.{put}
use Rattle.gx_base.specs.RoomViews.{RoomView}
use Rattle.gate_core.specs.Entries.{has_entry}
use Rattle.gate_core.specs.Views.{GateView, release}
use Rattle.speculation.proofs.Putting.{no_bool, numbers_equal, same_number}
use Rattle.rooms.specs.RoomsViews.{RoomsView, nowhere, is_room_held, holds_book, commits_in, commits_entered, entries_for, is_release, told_with, visited, entered, left}
use Rattle.rooms.specs.HandedOut.{IsHandedOut, MayHaveMark}
use Rattle.rooms.specs.Values.{tells}
use Rattle.rooms.specs.declared.values.Value.{Value}
use Rattle.rooms.specs.declared.values.Value.TheVariants.{Object}
use Rattle.rooms.proofs.CallerLemmas.{put_same, put_other, put_back_again, held_entered, held_elsewhere, mark_entered_here, commits_entered_elsewhere}
use Rattle.sessions.specs.Places.{no_gate, gate_of, IfTold}
use Rattle.sessions.specs.RoomLists.{is_room_among, rooms_after_first, AreAbove, AreRoomsRising, AreRoomsBelow}
use Rattle.sessions.specs.Visits.{MayLeaveGate, WasVisited, AreReleased, MayRelease}
use Rattle.sessions.specs.TurnMoves.{gates_visited}
use Rattle.sessions.proofs.MovedGates.{visited_then, visited_same}
use Rattle.sessions.proofs.Standing.{told_gate}
use Rattle.sessions.proofs.Visiting.{other_than_room}

-- ---- lists of rooms

both_false : (p q : Bool) → (p || q) ≡ false → (p ≡ false) × (q ≡ false)
both_false true q e = absurd (cc)
both_false false q e = (refl, e)

pub among_append : (xs : List ℕ) (x room : ℕ) → is_room_among (xs ++ x ∷ []) room ≡ (is_room_among xs room || (x == room))
among_append [] x room = or_none (x == room) where
  or_none : (b : Bool) → (b || false) ≡ b
  or_none true = refl
  or_none false = refl
among_append (y ∷ ys) x room = ap (λ (b : Bool). (y == room) || b) (among_append ys x room) ∙ or_assoc (y == room) (is_room_among ys room) (x == room) where
  or_assoc : (p q r : Bool) → (p || (q || r)) ≡ ((p || q) || r)
  or_assoc true q r = refl
  or_assoc false q r = refl

above_append : (x : ℕ) (front : List ℕ) (room : ℕ) (rest : List ℕ) → AreAbove x (front ++ room ∷ rest) → x < room
above_append x [] room rest h = h.0
above_append x (y ∷ ys) room rest h = above_append x ys room rest h.1

not_first : (x room : ℕ) (rest : Bool) → x < room → rest ≡ false → (b : Bool) → (x == room) ≡ b → ((x == room) || rest) ≡ false
not_first x room rest l h true e = let same : x ≡ room = numbers_equal x room e in absurd (omega arith)
not_first x room rest l h false e = ap (λ (b : Bool). b || rest) e ∙ h

-- a room of a rising list isn't among those before it
pub not_in_front : (front : List ℕ) (room : ℕ) (rest : List ℕ) → AreRoomsRising (front ++ room ∷ rest) → is_room_among front room ≡ false
not_in_front [] room rest h = refl
not_in_front (x ∷ xs) room rest h = not_first x room (is_room_among xs room) (above_append x xs room rest h.0) (not_in_front xs room rest h.1) (x == room) refl

pub below_at : (n : ℕ) (front : List ℕ) (room : ℕ) (rest : List ℕ) → AreRoomsBelow n (front ++ room ∷ rest) → room < n
below_at n [] room rest h = h.0
below_at n (x ∷ xs) room rest h = below_at n xs room rest h.1

pub among_at : (front : List ℕ) (room : ℕ) (rest : List ℕ) → is_room_among (front ++ room ∷ rest) room ≡ true
among_at [] room rest = ap (λ (b : Bool). b || is_room_among rest room) (same_number room)
among_at (x ∷ xs) room rest = ap (λ (b : Bool). (x == room) || b) (among_at xs room rest) ∙ or_true (x == room) where
  or_true : (b : Bool) → (b || true) ≡ true
  or_true true = refl
  or_true false = refl

module _ {T S : Type 0} (worker iter number : ℕ) where
  pub none_released : (a : RoomsView (Value T S)) → AreReleased a a worker iter number []
  none_released a = record {
    was = λ room. no_gate;
    entries = λ room e. absurd (cc);
    gates = λ room e. absurd (cc);
    live = λ room. refl;
    told = λ room. refl;
    book = refl;
    ordered = refl;
    acts_for = refl;
    held = refl;
    released = λ room e. refl;
    lost = refl;
    moves = refl;
  }

  -- ---- one room more

  module _ (a x y : RoomsView (Value T S)) (front : List ℕ) (room : ℕ) (was : GateView) (h : AreReleased a x worker iter number front) (visit : WasVisited x y room was (release was worker iter number))
      (new : is_room_among front room ≡ false) (below : room < a.book) (free : is_room_held x room ≡ false) where
    abbrev now : GateView
    now = release was worker iter number

    abbrev seen : RoomView
    seen = tells {T = T} {S = S} (Object was)

    y_of : {A : Type 0} → (f : RoomsView (Value T S) → A) → f y ≡ f (left tells (entered tells x room (Object was)) room (Object now))
    y_of f = ap f visit.visit

    none_held : (o : Option RoomView) → is_some o ≡ false → o ≡ None
    none_held None e = refl
    none_held (Some v) e = absurd (cc)

    not_book : (room == x.book) ≡ false
    not_book = other_than_room room x.book (subst (λ n. room < n) (sym h.book) below)

    y_held : y.held ≡ x.held
    y_held = y_of (λ v. v.held) ∙ put_back_again x.held room (Some seen) None (none_held (x.held room) free)

    -- what the lists have at the room, and at another
    abbrev more : List ℕ
    more = front ++ room ∷ []

    here : is_room_among more room ≡ true
    here = among_at front room []

    there : (other : ℕ) → (room == other) ≡ false → is_room_among more other ≡ is_room_among front other
    there other e = among_append front room other ∙ ap (λ (b : Bool). is_room_among front other || b) e ∙ or_none (is_room_among front other) where
      or_none : (b : Bool) → (b || false) ≡ b
      or_none true = refl
      or_none false = refl

    gates_now : ℕ → GateView
    gates_now = put h.was room was

    x_live : x.live room ≡ a.live room
    x_live = h.live room ∙ ap (λ (b : Bool). if b then entries_for a.acts_for (release (h.was room) worker iter number).live else a.live room) new

    x_told : x.told room ≡ a.told room
    x_told = h.told room ∙ ap (λ (b : Bool). if b then told_with (a.told room) (Object (release (h.was room) worker iter number)) else a.told room) new

    entries_at : (other : ℕ) → is_room_among more other ≡ true → (c : Bool) → (room == other) ≡ c → entries_for a.acts_for (gates_now other).live ≡ a.live other
    unfolding gates_now
    entries_at other m true e =
        subst (λ n. entries_for a.acts_for (put h.was room was n).live ≡ a.live n) (numbers_equal room other e)
        ((λ i. entries_for (sym h.acts_for i) (put_same h.was room was i).live) ∙ visit.handed.live refl ∙ x_live)
    entries_at other m false e = ap (λ (g : GateView). entries_for a.acts_for g.live) (put_other h.was room was other e) ∙ h.entries other (sym (there other e) ∙ m)

    gates_at : (other : ℕ) → is_room_among more other ≡ true → (c : Bool) → (room == other) ≡ c → IfTold (a.told other) (λ value. gates_now other ≡ gate_of value)
    unfolding gates_now
    gates_at other m true e =
        subst (λ n. IfTold (a.told n) (λ value. put h.was room was n ≡ gate_of value)) (numbers_equal room other e)
        (subst (λ (g : GateView). IfTold (a.told room) (λ value. g ≡ gate_of value)) (sym (put_same h.was room was))
        (subst (λ (o : Option (Value T S)). IfTold o (λ value. was ≡ gate_of value)) x_told (told_gate (x.told room) was visit.handed.told)))
    gates_at other m false e = subst (λ (g : GateView). IfTold (a.told other) (λ value. g ≡ gate_of value)) (sym (put_other h.was room was other e)) (h.gates other (sym (there other e) ∙ m))

    live_at : (other : ℕ) → (c : Bool) → (room == other) ≡ c → y.live other ≡ (if is_room_among more other then entries_for a.acts_for (release (gates_now other) worker iter number).live else a.live other)
    unfolding gates_now
    live_at other true e =
        subst (λ n. y.live n ≡ (if is_room_among more n then entries_for a.acts_for (release (put h.was room was n) worker iter number).live else a.live n)) (numbers_equal room other e)
        (y_of (λ v. v.live room) ∙ put_same x.live room (entries_for x.acts_for now.live) ∙ (λ i. entries_for (h.acts_for i) (release (sym (put_same h.was room was) i) worker iter number).live)
        ∙ sym (ap (λ (b : Bool). if b then entries_for a.acts_for (release (put h.was room was room) worker iter number).live else a.live room) here))
    live_at other false e =
        y_of (λ v. v.live other) ∙ put_other x.live room _ other e ∙ h.live other
        ∙ (λ i. if sym (there other e) i then entries_for a.acts_for (release (sym (put_other h.was room was other e) i) worker iter number).live else a.live other)

    told_at : (other : ℕ) → (c : Bool) → (room == other) ≡ c → y.told other ≡ (if is_room_among more other then told_with (a.told other) (Object (release (gates_now other) worker iter number)) else a.told other)
    unfolding gates_now
    told_at other true e =
        subst (λ n. y.told n ≡ (if is_room_among more n then told_with (a.told n) (Object (release (put h.was room was n) worker iter number)) else a.told n)) (numbers_equal room other e)
        (y_of (λ v. v.told room) ∙ put_same x.told room (told_with (x.told room) (Object now)) ∙ (λ i. told_with (x_told i) (Object (release (sym (put_same h.was room was) i) worker iter number)))
        ∙ sym (ap (λ (b : Bool). if b then told_with (a.told room) (Object (release (put h.was room was room) worker iter number)) else a.told room) here))
    told_at other false e =
        y_of (λ v. v.told other) ∙ put_other x.told room _ other e ∙ h.told other
        ∙ (λ i. if sym (there other e) i then told_with (a.told other) (Object (release (sym (put_other h.was room was other e) i) worker iter number)) else a.told other)

    released_by : (other : ℕ) → (room == other) ≡ false → (c : Bool) → (if room == x.book then nowhere else (if c then put x.released room true else x.released)) other ≡ x.released other
    released_by other e true = ap (λ (b : Bool). (if b then nowhere else put x.released room true) other) not_book ∙ put_other x.released room true other e
    released_by other e false = ap (λ (b : Bool). (if b then nowhere else x.released) other) not_book

    entered_released : (entered tells x room (Object was)).released ≡ x.released
    entered_released = ap (λ (b : Bool). if b then nowhere else x.released) not_book

    released_at : (other : ℕ) → is_room_among more other ≡ false → y.released other ≡ a.released other
    released_at other m =
        let parts : (is_room_among front other ≡ false) × ((room == other) ≡ false) = both_false (is_room_among front other) (room == other) (sym (among_append front room other) ∙ m) in
        y_of (λ v. v.released other)
        ∙ ap (λ f. (if room == x.book then nowhere else (if is_release (entered tells x room (Object was)) now.mark then put f room true else f)) other) entered_released
        ∙ released_by other parts.1 (is_release (entered tells x room (Object was)) now.mark) ∙ h.released other parts.0

    abbrev gone : (ℕ → GateView) → ℕ → GateView
    gone gates other = release (gates other) worker iter number

    apart_by : (other : ℕ) → is_room_among front other ≡ true → (c : Bool) → (room == other) ≡ c → (room == other) ≡ false
    apart_by other m true e = absurd (no_bool (is_room_among front other) m (subst (λ n. is_room_among front n ≡ false) (numbers_equal room other e) new))
    apart_by other m false e = e

    same_gate : (other : ℕ) → is_room_among front other ≡ true → h.was other ≡ gates_now other
    unfolding gates_now
    same_gate other m = sym (put_other h.was room was other (apart_by other m (room == other) refl))

    at_room : gates_now room ≡ was
    unfolding gates_now
    at_room = put_same h.was room was

    y_moves : y.moves ≡ gates_visited gates_now (gone gates_now) more a.moves
    y_moves =
        y_of (λ v. v.moves) ∙ ap (visited room (Object was) (Object now)) (h.moves ∙ visited_same h.was (gone h.was) gates_now (gone gates_now) front same_gate (λ other m. ap (λ (g : GateView). release g worker iter number) (same_gate other m)) a.moves)
        ∙ (λ i. visited room (Object (sym at_room i)) (Object (release (sym at_room i) worker iter number)) (gates_visited gates_now (gone gates_now) front a.moves))
        ∙ sym (visited_then gates_now (gone gates_now) front room a.moves)

    pub one_released : AreReleased a y worker iter number more
    unfolding gates_now
    one_released = record {
      was = gates_now;
      entries = λ other m. entries_at other m (room == other) refl;
      gates = λ other m. gates_at other m (room == other) refl;
      live = λ other. live_at other (room == other) refl;
      told = λ other. told_at other (room == other) refl;
      book = y_of (λ v. v.book) ∙ h.book;
      ordered = y_of (λ v. v.ordered) ∙ h.ordered;
      acts_for = y_of (λ v. v.acts_for) ∙ h.acts_for;
      held = y_held ∙ h.held;
      released = released_at;
      lost = y_of (λ v. v.lost) ∙ h.lost;
      moves = y_moves;
    }

  -- ---- that the gate of a room may be released and left

  module _ (a x : RoomsView (Value T S)) (front : List ℕ) (room : ℕ) (rest : List ℕ) (h : AreReleased a x worker iter number front) (may : MayRelease a number (front ++ room ∷ rest)) where
    new_room : is_room_among front room ≡ false
    new_room = not_in_front front room rest may.rising

    pub room_below : room < a.book
    room_below = below_at a.book front room rest may.below

    pub room_in_range : room < x.book
    room_in_range = subst (λ n. room < n) (sym h.book) room_below

    pub room_free : is_room_held x room ≡ false
    room_free = ap (λ (f : ℕ → Option RoomView). is_some (f room)) h.held ∙ may.held room ∙ other_than_room room a.book room_below

    book_held : holds_book x ≡ true
    book_held = (λ i. is_some (h.held i (h.book i))) ∙ may.held a.book ∙ same_number a.book

    counted : commits_entered x ≡ number
    counted = (λ i. commits_in (h.held i (h.book i))) ∙ may.count

    unreleased : x.released room ≡ false
    unreleased = h.released room new_room ∙ may.unreleased room (among_at front room rest)

    pub mark_may_rise : (was : GateView) → IsHandedOut tells x room (Object was) → was.mark ≤ number
    mark_may_rise was handed =
        let m : was.mark ≤ (if x.released room then commits_entered x + 1 else commits_entered x) = handed.mark refl book_held in
        let n : was.mark ≤ commits_entered x = subst (λ (b : Bool). was.mark ≤ (if b then commits_entered x + 1 else commits_entered x)) unreleased m in
        subst (λ k. was.mark ≤ k) counted n

    mark_by : (y : RoomsView (Value T S)) (was : GateView) (b : Bool) → y ≡ entered tells x room (Object was) → MayHaveMark y room (if b then number + 1 else was.mark)
    mark_by y was true e =
        let z : RoomsView (Value T S) = entered tells x room (Object was) in
        let not_book : (room == x.book) ≡ false = other_than_room room x.book room_in_range in
        let holds : holds_book z ≡ true = held_elsewhere tells x room (Object was) x.book not_book ∙ book_held in
        let count : commits_entered z ≡ number = commits_entered_elsewhere tells x room (Object was) not_book ∙ counted in
        subst (λ (v : RoomsView (Value T S)). MayHaveMark v room (number + 1)) (sym e) (inr ((λ i. holds i && (number + 1 == count i + 1)) ∙ same_number (number + 1)))
    mark_by y was false e =
        subst (λ (v : RoomsView (Value T S)). MayHaveMark v room was.mark) (sym e) (inl (sym (mark_entered_here tells x room (Object was))))

    pub may_leave : (y : RoomsView (Value T S)) (was left_as : GateView) → y ≡ entered tells x room (Object was) → left_as ≡ release was worker iter number → MayLeaveGate y room left_as.mark
    may_leave y was left_as e is = record {
      in_range = subst (λ (v : RoomsView (Value T S)). room < v.book) (sym e) room_in_range;
      held = ap (λ (v : RoomsView (Value T S)). is_room_held v room) e ∙ held_entered tells x room (Object was);
      mark = subst (λ n. MayHaveMark y room n) (sym (ap (λ (g : GateView). g.mark) is)) (mark_by y was (has_entry worker iter was.live) e);
    }

    pub then_released : (y : RoomsView (Value T S)) (was : GateView) → WasVisited x y room was (release was worker iter number) → AreReleased a y worker iter number (front ++ room ∷ [])
    then_released y was visit = one_released a x y front room was h visit new_room room_below room_free

-- ---- the rooms of a loop

pub may_at : {V : Type 0} (a : RoomsView V) (number : ℕ) (all front rooms : List ℕ) (room : ℕ) → all ≡ front ++ rooms → rooms ≡ room ∷ rooms_after_first rooms → MayRelease a number all → MayRelease a number (front ++ room ∷ rooms_after_first rooms)
may_at a number all front rooms room e f h = subst (MayRelease a number) (e ∙ ap (λ (xs : List ℕ). front ++ xs) f) h

pub split_on : (all front rooms : List ℕ) (room : ℕ) (now : List ℕ) → all ≡ front ++ rooms → rooms ≡ room ∷ rooms_after_first rooms → now ≡ rooms_after_first rooms → all ≡ (front ++ room ∷ []) ++ now
split_on all front rooms room now e f n =
    e ∙ ap (λ (xs : List ℕ). front ++ xs) (f ∙ ap (λ (xs : List ℕ). room ∷ xs) (sym n)) ∙ sym (append_assoc front (room ∷ []) now)

pub split_end : (all front rooms : List ℕ) → all ≡ front ++ rooms → rooms ≡ [] → front ≡ all
split_end all front rooms e n = sym (e ∙ ap (λ (xs : List ℕ). front ++ xs) n ∙ append-nil front)

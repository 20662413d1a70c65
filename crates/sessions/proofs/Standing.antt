-- What a session stands on after its turn, from what became of each room.
use Rattle.std.specs.Prelude.{◌≡◌, ◌⊎◌, ℕ, ◌<◌, ◌≤◌, nat_lt, Bool, true, false, if◌then◌else◌, Option, Some, None, List, [], is_some, refl}
use Rattle.std.proofs.Common.{sym, ◌∙◌, ap, subst, inl, inr, arith}
use Rattle.std.proofs.lemmas.Bool.Decides.{nat_tests}
use Rattle.gx_base.specs.declared.acts.Entry.{Entry}
use Rattle.gx_base.specs.Plans.{Operator}
use Rattle.gate_core.specs.Entries.{entries_by}
use Rattle.gate_core.specs.Views.{GateView}
use Rattle.commit_book.specs.BookViews.{BookView, new_book}
use Rattle.speculation.specs.Machines.{Place}
use Rattle.rooms.specs.RoomsViews.{RoomsView, entries_for, told_with}
use Rattle.rooms.specs.HandedOut.{IsValueTold}
use Rattle.rooms.specs.declared.values.Value.{Value}
use Rattle.rooms.specs.declared.values.Value.TheVariants.{Object, Book}
use Rattle.sessions.specs.Places.{IsLogOf, IsFit, IsFitIn, AreStepsWithin, no_gate, gate_of, book_of, IfTold, IsBookIn, StandsOn}
use Rattle.sessions.specs.SessionViews.{OpenCommit, SessionView}
use Rattle.sessions.specs.Turns.{OthersStay, AreSameRooms}
use Rattle.sessions.proofs.Logs.{log_hidden, others_hidden}

module _ {T S : Type 0} where
  -- ---- what is told

  if_told : (o : Option (Value T S)) (P Q : Value T S → Type 0) → ((value : Value T S) → P value → Q value) → IfTold o P → IfTold o Q
  if_told None P Q f h = tt
  if_told (Some value) P Q f h = f value h

  pub told_itself : (o : Option (Value T S)) (g : GateView) → IfTold (told_with o (Object g)) (λ value. g ≡ gate_of value)
  told_itself None g = tt
  told_itself (Some value) g = refl

  pub told_so : (o : Option (Value T S)) (g : GateView) (P : GateView → Type 0) → P g → IfTold (told_with o (Object g)) (λ value. P (gate_of value))
  told_so None g P h = tt
  told_so (Some value) g P h = h

  pub told_book_itself : (o : Option (Value T S)) (b : BookView) (P : BookView → Type 0) → P b → IfTold (told_with o (Book b)) (λ value. P (book_of value))
  told_book_itself None b P h = tt
  told_book_itself (Some value) b P h = h

  telling_with : (o : Option (Value T S)) (value : Value T S) → is_some (told_with o value) ≡ is_some o
  telling_with None value = refl
  telling_with (Some old) value = refl

  pub told_gate : (o : Option (Value T S)) (g : GateView) → IsValueTold o (Object g) → IfTold o (λ value. g ≡ gate_of value)
  told_gate None g h = tt
  told_gate (Some value) g h = ap gate_of h

  pub told_book : (o : Option (Value T S)) (b : BookView) → IsValueTold o (Book b) → IfTold o (λ value. b ≡ book_of value)
  told_book None b h = tt
  told_book (Some value) b h = ap book_of h

  -- ---- rooms after a turn

  module _ (a b : RoomsView (Value T S)) (s t : SessionView) (p q : Place) where
    -- the room was not left
    pub record RoomKept (room : ℕ) : Type 0 where
      pub live : b.live room ≡ a.live room
      pub told : b.told room ≡ a.told room
      pub gate : q.gates room ≡ p.gates room
      pub log : (es : List Entry) → IsLogOf room s es → IsLogOf room t es

    -- or it was left with this gate
    pub record GateLeft (room : ℕ) : Type 0 where
      pub live : b.live room ≡ entries_for a.acts_for (q.gates room).live
      pub told : b.told room ≡ told_with (a.told room) (Object (q.gates room))
      pub was : entries_for a.acts_for (p.gates room).live ≡ a.live room
      pub log : IsLogOf room t (q.gates room).live
      pub others : OthersStay s.worker (p.gates room).live (q.gates room).live

    pub record AreLeft : Type 0 where
      pub book : b.book ≡ a.book
      pub ordered : b.ordered ≡ a.ordered
      pub acts_for : b.acts_for ≡ a.acts_for
      pub telling : is_some (b.told a.book) ≡ is_some (a.told a.book)
      pub ordered_told : IfTold (a.told a.book) (λ value. (book_of value).ordered ≡ a.ordered) → IfTold (b.told a.book) (λ value. (book_of value).ordered ≡ a.ordered)
      pub rooms : (room : ℕ) → room < a.book → RoomKept room ⊎ GateLeft room
      pub beyond : (room : ℕ) → a.book ≤ room → q.gates room ≡ p.gates room

    module _ (h : AreLeft) (mine : a.acts_for s.worker ≡ true) (same : t.worker ≡ s.worker) where
      gates_at : StandsOn a s p → (room : ℕ) → room < a.book → RoomKept room ⊎ GateLeft room → IfTold (b.told room) (λ value. q.gates room ≡ gate_of value)
      gates_at stood room below (inl k) =
          subst (λ (o : Option (Value T S)). IfTold o (λ value. q.gates room ≡ gate_of value)) (sym k.told)
          (if_told (a.told room) (λ value. p.gates room ≡ gate_of value) (λ value. q.gates room ≡ gate_of value) (λ value e. k.gate ∙ e) (stood.gates room below))
      gates_at stood room below (inr k) = subst (λ (o : Option (Value T S)). IfTold o (λ value. q.gates room ≡ gate_of value)) (sym k.told) (told_itself (a.told room) (q.gates room))

      logs_at : StandsOn a s p → (room : ℕ) → room < a.book → RoomKept room ⊎ GateLeft room → IsLogOf room t (q.gates room).live
      logs_at stood room below (inl k) = subst (λ (g : GateView). IsLogOf room t g.live) (sym k.gate) (k.log (p.gates room).live (stood.logs room below))
      logs_at stood room below (inr k) = k.log

      pub stands : StandsOn a s p → q.session ≡ t.at → IsBookIn b t.opened q.book → q.book.ordered ≡ b.ordered → StandsOn b t q
      stands stood session_is book ordered = record {
        session_is = session_is;
        gates = λ room below. let l : room < a.book = subst (λ n. room < n) h.book below in gates_at stood room l (h.rooms room l);
        no_others = λ room above. let l : a.book ≤ room = subst (λ n. n ≤ room) h.book above in h.beyond room l ∙ stood.no_others room l;
        logs = λ room below. let l : room < a.book = subst (λ n. room < n) h.book below in logs_at stood room l (h.rooms room l);
        book = book;
        ordered = ordered;
      }

      mine_after : a.acts_for t.worker ≡ true
      mine_after = ap a.acts_for same ∙ mine

      live_at : (room : ℕ) → IsLogOf room s (a.live room) → RoomKept room ⊎ GateLeft room → IsLogOf room t (b.live room)
      live_at room l (inl k) = subst (IsLogOf room t) (sym k.live) (k.log (a.live room) l)
      live_at room l (inr k) = subst (IsLogOf room t) (sym k.live) (log_hidden a.acts_for t.worker t.at.iter t.at.item mine_after room t.at.outcome.steps (q.gates room).live k.log)

      told_at : (room : ℕ) → IfTold (a.told room) (λ value. IsLogOf room s (gate_of value).live) → RoomKept room ⊎ GateLeft room → IfTold (b.told room) (λ value. IsLogOf room t (gate_of value).live)
      told_at room l (inl k) =
          subst (λ (o : Option (Value T S)). IfTold o (λ value. IsLogOf room t (gate_of value).live)) (sym k.told)
          (if_told (a.told room) (λ value. IsLogOf room s (gate_of value).live) (λ value. IsLogOf room t (gate_of value).live) (λ value m. k.log (gate_of value).live m) l)
      told_at room l (inr k) =
          subst (λ (o : Option (Value T S)). IfTold o (λ value. IsLogOf room t (gate_of value).live)) (sym k.told)
          (told_so (a.told room) (q.gates room) (λ g. IsLogOf room t g.live) k.log)

      pub live_fits : ((room : ℕ) → room < a.book → IsLogOf room s (a.live room)) → (room : ℕ) → room < b.book → IsLogOf room t (b.live room)
      live_fits l room below = let m : room < a.book = subst (λ n. room < n) h.book below in live_at room (l room m) (h.rooms room m)

      pub told_fits : ((room : ℕ) → room < a.book → IfTold (a.told room) (λ value. IsLogOf room s (gate_of value).live)) → (room : ℕ) → room < b.book → IfTold (b.told room) (λ value. IsLogOf room t (gate_of value).live)
      told_fits l room below = let m : room < a.book = subst (λ n. room < n) h.book below in told_at room (l room m) (h.rooms room m)

      ordered_after : IfTold (a.told a.book) (λ value. (book_of value).ordered ≡ a.ordered) → IfTold (b.told b.book) (λ value. (book_of value).ordered ≡ b.ordered)
      ordered_after l =
          subst (λ n. IfTold (b.told n) (λ value. (book_of value).ordered ≡ b.ordered)) (sym h.book)
          (if_told (b.told a.book) (λ value. (book_of value).ordered ≡ a.ordered) (λ value. (book_of value).ordered ≡ b.ordered) (λ value e. e ∙ sym h.ordered) (h.ordered_told l))

      -- the session is fit for its next turn
      pub fits : (op : Operator) → IsFit op a s → AreStepsWithin op.rooms t.at.outcome.steps → IsFitIn op b t t.opened → IsFit op b t
      fits op fit within doing = record {
        acts = ap (λ f. f t.worker) h.acts_for ∙ mine_after;
        book = h.book ∙ fit.book;
        ordered = h.ordered ∙ fit.ordered;
        ordered_told = ordered_after fit.ordered_told;
        live = live_fits fit.live;
        live_told = told_fits fit.live_told;
        within = within;
        doing = doing;
      }

      -- ---- the other workers

      telling_at : (room : ℕ) → RoomKept room ⊎ GateLeft room → is_some (b.told room) ≡ is_some (a.told room)
      telling_at room (inl k) = ap (λ (o : Option (Value T S)). is_some o) k.told
      telling_at room (inr k) = ap (λ (o : Option (Value T S)). is_some o) k.told ∙ telling_with (a.told room) (Object (q.gates room))

      telling_by : (room : ℕ) → room ≤ a.book → (c : Bool) → nat_lt room a.book ≡ c → is_some (b.told room) ≡ is_some (a.told room)
      telling_by room l true e = let m : room < a.book = grind (arith, nat_tests) in telling_at room (h.rooms room m)
      telling_by room l false e = let m : a.book ≡ room = grind (arith, nat_tests) in subst (λ n. is_some (b.told n) ≡ is_some (a.told n)) m h.telling

      others_at : (room : ℕ) → RoomKept room ⊎ GateLeft room → OthersStay s.worker (a.live room) (b.live room)
      others_at room (inl k) = λ other n. ap (λ es. entries_by other es) k.live
      others_at room (inr k) = λ other n.
          ap (λ es. entries_by other es) k.live ∙ others_hidden a.acts_for s.worker (p.gates room).live (q.gates room).live k.others other n ∙ ap (λ es. entries_by other es) k.was

      told_same : (o : Option (Value T S)) → IfTold o (λ was. IfTold o (λ now. OthersStay s.worker (gate_of was).live (gate_of now).live))
      told_same None = tt
      told_same (Some value) = λ other n. refl

      told_left : (o : Option (Value T S)) (g was : GateView) → IfTold o (λ value. was ≡ gate_of value) → OthersStay s.worker was.live g.live
          → IfTold o (λ before. IfTold (told_with o (Object g)) (λ now. OthersStay s.worker (gate_of before).live (gate_of now).live))
      told_left None g was e o = tt
      told_left (Some value) g was e o = subst (λ (x : GateView). OthersStay s.worker x.live g.live) e o

      others_told_at : StandsOn a s p → (room : ℕ) → room < a.book → RoomKept room ⊎ GateLeft room
          → IfTold (a.told room) (λ was. IfTold (b.told room) (λ now. OthersStay s.worker (gate_of was).live (gate_of now).live))
      others_told_at stood room below (inl k) =
          subst (λ (o : Option (Value T S)). IfTold (a.told room) (λ was. IfTold o (λ now. OthersStay s.worker (gate_of was).live (gate_of now).live))) (sym k.told) (told_same (a.told room))
      others_told_at stood room below (inr k) =
          subst (λ (o : Option (Value T S)). IfTold (a.told room) (λ was. IfTold o (λ now. OthersStay s.worker (gate_of was).live (gate_of now).live))) (sym k.told)
          (told_left (a.told room) (q.gates room) (p.gates room) (stood.gates room below) k.others)

      pub same_rooms : StandsOn a s p → AreSameRooms a b s.worker
      same_rooms stood = record {
        book = h.book;
        ordered = h.ordered;
        acts_for = h.acts_for;
        telling = λ room l. telling_by room l (nat_lt room a.book) refl;
        live = λ room l. others_at room (h.rooms room l);
        live_told = λ room l. others_told_at stood room l (h.rooms room l);
      }

  -- ---- a place to stand on

  gate_in : Option (Value T S) → List Entry → GateView
  gate_in None live = record no_gate { live = live }
  gate_in (Some value) live = gate_of value

  -- the gate that a room tells, or one with the entries that it tells
  pub base_gates : RoomsView (Value T S) → ℕ → GateView
  base_gates a room = if nat_lt room a.book then gate_in (a.told room) (a.live room) else no_gate

  book_in : RoomsView (Value T S) → Option (Value T S) → BookView
  book_in a None = new_book a.ordered []
  book_in a (Some value) = book_of value

  pub base_book_in : RoomsView (Value T S) → Option OpenCommit → BookView
  base_book_in a None = book_in a (a.told a.book)
  base_book_in a (Some made) = made.book

  -- the place of a session, where nothing is known of the rooms but what they tell
  abbrev pub base_place : RoomsView (Value T S) → SessionView → Place
  base_place a s = record { gates = base_gates a; book = base_book_in a s.opened; session = s.at }

  module _ (op : Operator) (a : RoomsView (Value T S)) (s : SessionView) (fit : IsFit op a s) where
    base_below : (room : ℕ) → room < a.book → base_gates a room ≡ gate_in (a.told room) (a.live room)
    unfolding base_gates
    base_below room l =
        let e : nat_lt room a.book ≡ true = grind (arith, nat_tests) in
        ap (λ (c : Bool). if c then gate_in (a.told room) (a.live room) else no_gate) e

    base_beyond : (room : ℕ) → a.book ≤ room → base_gates a room ≡ no_gate
    unfolding base_gates
    base_beyond room l =
        let e : nat_lt room a.book ≡ false = grind (arith, nat_tests) in
        ap (λ (c : Bool). if c then gate_in (a.told room) (a.live room) else no_gate) e

    base_told : (o : Option (Value T S)) (live : List Entry) → IfTold o (λ value. gate_in o live ≡ gate_of value)
    unfolding gate_in
    base_told None live = tt
    base_told (Some value) live = refl

    base_log : (room : ℕ) (o : Option (Value T S)) (live : List Entry) → IsLogOf room s live → IfTold o (λ value. IsLogOf room s (gate_of value).live) → IsLogOf room s (gate_in o live).live
    unfolding gate_in
    base_log room None live h k = h
    base_log room (Some value) live h k = k

    book_told : (o : Option (Value T S)) → IfTold o (λ value. book_in a o ≡ book_of value)
    unfolding book_in
    book_told None = tt
    book_told (Some value) = refl

    book_ordered : (o : Option (Value T S)) → IfTold o (λ value. (book_of value).ordered ≡ a.ordered) → (book_in a o).ordered ≡ a.ordered
    unfolding book_in
    book_ordered None h = refl
    book_ordered (Some value) h = h

    pub base_gates_told : (room : ℕ) → room < a.book → IfTold (a.told room) (λ value. base_gates a room ≡ gate_of value)
    base_gates_told room l = subst (λ (g : GateView). IfTold (a.told room) (λ value. g ≡ gate_of value)) (sym (base_below room l)) (base_told (a.told room) (a.live room))

    pub base_no_others : (room : ℕ) → a.book ≤ room → base_gates a room ≡ no_gate
    base_no_others room l = base_beyond room l

    pub base_logs : (room : ℕ) → room < a.book → IsLogOf room s (base_gates a room).live
    base_logs room l = subst (λ (g : GateView). IsLogOf room s g.live) (sym (base_below room l)) (base_log room (a.told room) (a.live room) (fit.live room l) (fit.live_told room l))

    pub base_stands : s.opened ≡ None → StandsOn a s (base_place a s)
    unfolding base_book_in
    base_stands none = record {
      session_is = refl;
      gates = λ room l. subst (λ (g : GateView). IfTold (a.told room) (λ value. g ≡ gate_of value)) (sym (base_below room l)) (base_told (a.told room) (a.live room));
      no_others = base_beyond;
      logs = λ room l. subst (λ (g : GateView). IsLogOf room s g.live) (sym (base_below room l)) (base_log room (a.told room) (a.live room) (fit.live room l) (fit.live_told room l));
      book = subst (λ (o : Option OpenCommit). IsBookIn a o (base_book_in a o)) (sym none) (book_told (a.told a.book));
      ordered = subst (λ (o : Option OpenCommit). (base_book_in a o).ordered ≡ a.ordered) (sym none) (book_ordered (a.told a.book) fit.ordered_told);
    }

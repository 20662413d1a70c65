-- What becomes of rooms in a turn that leaves one gate, or none.
use Rattle.std.specs.Prelude.{◌≡◌, ◌⊎◌, ℕ, ◌<◌, Bool, true, false, ◌==◌, Option, Some, None, List, is_some, refl}
use Rattle.std.proofs.Common.{sym, ◌∙◌, ap, subst, inl, inr, arith}
use Rattle.gx_base.specs.declared.acts.Entry.{Entry}
use Rattle.gx_base.specs.Replays.{put}
use Rattle.gx_base.specs.Entries.{entries_by}
use Rattle.gate_core.specs.Views.{GateView}
use Rattle.commit_book.specs.BookViews.{BookView}
use Rattle.speculation.specs.Machines.{Place}
use Rattle.speculation.proofs.Putting.{numbers_equal}
use Rattle.rooms.specs.RoomsViews.{RoomsView, entries_for, told_with, entered, left}
use Rattle.rooms.specs.HandedOut.{IsHandedOut, IsLost}
use Rattle.rooms.specs.Values.{tells}
use Rattle.rooms.specs.declared.values.Value.{Value}
use Rattle.rooms.specs.declared.values.Value.TheVariants.{Object, Book}
use Rattle.rooms.proofs.CallerLemmas.{put_same, put_other}
use Rattle.sessions.specs.Places.{IsLogOf, book_of, IfTold}
use Rattle.sessions.specs.SessionViews.{SessionView}
use Rattle.sessions.specs.Turns.{OthersStay}
use Rattle.sessions.proofs.Standing.{RoomKept, GateLeft, AreLeft, told_book_itself}

pub other_than_room : (room other : ℕ) → room < other → (room == other) ≡ false
other_than_room room other l = by_test (room == other) refl where
  by_test : (c : Bool) → (room == other) ≡ c → (room == other) ≡ false
  by_test true e = let same : room ≡ other = numbers_equal room other e in absurd (omega arith)
  by_test false e = e

pub other_than_book : (book room : ℕ) → room < book → (book == room) ≡ false
other_than_book book room l = by_test (book == room) refl where
  by_test : (c : Bool) → (book == room) ≡ c → (book == room) ≡ false
  by_test true e = let same : book ≡ room = numbers_equal book room e in absurd (omega arith)
  by_test false e = e

module _ {T S : Type 0} where
  -- the gates are as before
  pub record SameGates (a b : RoomsView (Value T S)) : Type 0 where
    pub book : b.book ≡ a.book
    pub ordered : b.ordered ≡ a.ordered
    pub acts_for : b.acts_for ≡ a.acts_for
    pub telling : is_some (b.told a.book) ≡ is_some (a.told a.book)
    pub ordered_told : IfTold (a.told a.book) (λ value. (book_of value).ordered ≡ a.ordered) → IfTold (b.told a.book) (λ value. (book_of value).ordered ≡ a.ordered)
    pub live : (room : ℕ) → room < a.book → b.live room ≡ a.live room
    pub told : (room : ℕ) → room < a.book → b.told room ≡ a.told room

  pub same_gates : (a : RoomsView (Value T S)) → SameGates a a
  same_gates a = record { book = refl; ordered = refl; acts_for = refl; telling = refl; ordered_told = λ l. l; live = λ room l. refl; told = λ room l. refl }

  -- entered, or not entered as it was lost
  pub entered_gates : (a : RoomsView (Value T S)) (room : ℕ) (value : Value T S) → SameGates a (entered tells a room value)
  entered_gates a room value = record { book = refl; ordered = refl; acts_for = refl; telling = refl; ordered_told = λ l. l; live = λ r l. refl; told = λ r l. refl }

  pub lost_gates : (a b : RoomsView (Value T S)) (room : ℕ) → IsLost a b room → SameGates a b
  lost_gates a b room h = record {
    book = ap (λ (v : RoomsView (Value T S)). v.book) h.same;
    ordered = ap (λ (v : RoomsView (Value T S)). v.ordered) h.same;
    acts_for = ap (λ (v : RoomsView (Value T S)). v.acts_for) h.same;
    telling = ap (λ (v : RoomsView (Value T S)). is_some (v.told a.book)) h.same;
    ordered_told = λ l. subst (λ (v : RoomsView (Value T S)). IfTold (v.told a.book) (λ value. (book_of value).ordered ≡ a.ordered)) (sym h.same) l;
    live = λ r l. ap (λ (v : RoomsView (Value T S)). v.live r) h.same;
    told = λ r l. ap (λ (v : RoomsView (Value T S)). v.told r) h.same;
  }

  telling_with : (o : Option (Value T S)) (value : Value T S) → is_some (told_with o value) ≡ is_some o
  telling_with None value = refl
  telling_with (Some old) value = refl

  pub book_gates : (a : RoomsView (Value T S)) (b : BookView) → b.ordered ≡ a.ordered → SameGates a (left tells a a.book (Book b))
  book_gates a b o = record {
    book = refl;
    ordered = refl;
    acts_for = refl;
    telling = ap (λ (o : Option (Value T S)). is_some o) (put_same a.told a.book (told_with (a.told a.book) (Book b))) ∙ telling_with (a.told a.book) (Book b);
    ordered_told = λ l. subst (λ (x : Option (Value T S)). IfTold x (λ value. (book_of value).ordered ≡ a.ordered)) (sym (put_same a.told a.book (told_with (a.told a.book) (Book b)))) (told_book_itself (a.told a.book) b (λ x. x.ordered ≡ a.ordered) o);
    live = λ room l. put_other a.live a.book _ room (other_than_book a.book room l);
    told = λ room l. put_other a.told a.book _ room (other_than_book a.book room l);
  }

  abbrev pub OrderedTold : ℕ → Bool → (ℕ → Option (Value T S)) → Type 0
  OrderedTold book ordered told = IfTold (told book) (λ value. (book_of value).ordered ≡ ordered)

  -- what is told of the book's order, under other names of the room and the order
  pub carried : (x y : ℕ) (o u : Bool) (f g : ℕ → Option (Value T S)) → y ≡ x → u ≡ o → (OrderedTold y u f → OrderedTold y u g) → OrderedTold x o f → OrderedTold x o g
  carried x y o u f g e d h l =
      let m : OrderedTold y u f = subst (λ n. OrderedTold n u f) (sym e) (subst (λ w. OrderedTold x w f) (sym d) l) in
      subst (λ w. OrderedTold x w g) d (subst (λ n. OrderedTold n u g) e (h m))

  pub then_same : (a b c : RoomsView (Value T S)) → SameGates a b → SameGates b c → SameGates a c
  then_same a b c h k =
      let book : c.book ≡ a.book = k.book ∙ h.book in
      record {
        book = book;
        ordered = k.ordered ∙ h.ordered;
        acts_for = k.acts_for ∙ h.acts_for;
        telling = subst (λ n. is_some (c.told n) ≡ is_some (b.told n)) h.book k.telling ∙ h.telling;
        ordered_told = λ l. carried a.book b.book a.ordered b.ordered b.told c.told h.book h.ordered k.ordered_told (h.ordered_told l);
        live = λ room l. k.live room (subst (λ n. room < n) (sym h.book) l) ∙ h.live room l;
        told = λ room l. k.told room (subst (λ n. room < n) (sym h.book) l) ∙ h.told room l;
      }

  -- ---- no gate was left

  module _ (a b : RoomsView (Value T S)) (s t : SessionView) (p q : Place) where
    pub none_left : SameGates a b → q.gates ≡ p.gates → ((room : ℕ) (es : List Entry) → IsLogOf room s es → IsLogOf room t es) → AreLeft a b s t p q
    none_left h e log = record {
      book = h.book;
      ordered = h.ordered;
      acts_for = h.acts_for;
      telling = h.telling;
      ordered_told = h.ordered_told;
      rooms = λ room l. inl (record { live = h.live room l; told = h.told room l; gate = ap (λ f. f room) e; log = log room });
      beyond = λ room l. ap (λ f. f room) e;
    }

    -- ---- one gate was left

    module _ (x y : RoomsView (Value T S)) (room : ℕ) (was now : GateView) (before : SameGates a x) (visit : y ≡ left tells (entered tells x room (Object was)) room (Object now)) (after : SameGates y b)
        (below : room < a.book) (handed : IsHandedOut tells x room (Object was)) (p_has : p.gates room ≡ was) (q_has : q.gates ≡ put p.gates room now)
        (log : IsLogOf room t now.live) (others : OthersStay s.worker was.live now.live) (elsewhere : (other : ℕ) → (room == other) ≡ false → (es : List Entry) → IsLogOf other s es → IsLogOf other t es) where
      field_of : {A : Type 0} → (f : RoomsView (Value T S) → A) → f y ≡ f (left tells (entered tells x room (Object was)) room (Object now))
      field_of f = ap f visit

      y_book : y.book ≡ a.book
      y_book = field_of (λ v. v.book) ∙ before.book

      below_y : (other : ℕ) → other < a.book → other < y.book
      below_y other l = subst (λ n. other < n) (sym y_book) l

      q_here : q.gates room ≡ now
      q_here = ap (λ f. f room) q_has ∙ put_same p.gates room now

      here : GateLeft a b s t p q room
      here = record {
        live =
            after.live room (below_y room below) ∙ field_of (λ v. v.live room) ∙ put_same x.live room (entries_for x.acts_for now.live)
            ∙ (λ i. entries_for (before.acts_for i) (sym q_here i).live);
        told =
            after.told room (below_y room below) ∙ field_of (λ v. v.told room) ∙ put_same x.told room (told_with (x.told room) (Object now))
            ∙ (λ i. told_with (before.told room below i) (Object (sym q_here i)));
        was = (λ i. entries_for (sym before.acts_for i) (p_has i).live) ∙ handed.live refl ∙ before.live room below;
        log = subst (λ (g : GateView). IsLogOf room t g.live) (sym q_here) log;
        others = λ other n. ap (λ (g : GateView). entries_by other g.live) q_here ∙ others other n ∙ ap (λ (g : GateView). entries_by other g.live) (sym p_has);
      }

      there : (other : ℕ) → other < a.book → (room == other) ≡ false → RoomKept a b s t p q other
      there other l e = record {
        live = after.live other (below_y other l) ∙ field_of (λ v. v.live other) ∙ put_other x.live room _ other e ∙ before.live other l;
        told = after.told other (below_y other l) ∙ field_of (λ v. v.told other) ∙ put_other x.told room _ other e ∙ before.told other l;
        gate = ap (λ f. f other) q_has ∙ put_other p.gates room now other e;
        log = elsewhere other e;
      }

      at_room : (other : ℕ) → other < a.book → (c : Bool) → (room == other) ≡ c → RoomKept a b s t p q other ⊎ GateLeft a b s t p q other
      at_room other l true e = inr (subst (GateLeft a b s t p q) (numbers_equal room other e) here)
      at_room other l false e = inl (there other l e)

      telling : is_some (b.told a.book) ≡ is_some (a.told a.book)
      telling =
          subst (λ n. is_some (b.told n) ≡ is_some (y.told n)) y_book after.telling ∙ ap (λ (o : Option (Value T S)). is_some o) (field_of (λ v. v.told a.book) ∙ put_other x.told room _ a.book (other_than_room room a.book below))
          ∙ before.telling

      y_ordered : y.ordered ≡ a.ordered
      y_ordered = field_of (λ v. v.ordered) ∙ before.ordered

      ordered_told : OrderedTold a.book a.ordered a.told → OrderedTold a.book a.ordered b.told
      ordered_told l =
          let at_x : OrderedTold a.book a.ordered x.told = before.ordered_told l in
          let at_y : OrderedTold a.book a.ordered y.told =
          subst (λ (o : Option (Value T S)). IfTold o (λ value. (book_of value).ordered ≡ a.ordered)) (sym (field_of (λ v. v.told a.book) ∙ put_other x.told room _ a.book (other_than_room room a.book below))) at_x in
          carried a.book y.book a.ordered y.ordered y.told b.told y_book y_ordered after.ordered_told at_y

      pub one_left : AreLeft a b s t p q
      one_left = record {
        book = after.book ∙ y_book;
        ordered = after.ordered ∙ y_ordered;
        acts_for = after.acts_for ∙ field_of (λ v. v.acts_for) ∙ before.acts_for;
        telling = telling;
        ordered_told = ordered_told;
        rooms = λ other l. at_room other l (room == other) refl;
        beyond = λ other l. ap (λ f. f other) q_has ∙ put_other p.gates room now other (other_than_room room other (omega arith));
      }

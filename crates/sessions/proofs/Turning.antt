-- Turns of sessions, put together from what became of the rooms and from what the machine does.
use Rattle.std.specs.Prelude.{◌≡◌, ◌≢◌, ℕ, Bool, true, false, ◌==◌, Option, Some, None, length, is_some, Result, Ok, refl}
use Rattle.std.proofs.Common.{sym, ◌∙◌, ap, subst}
use Rattle.gx_base.specs.Plans.{Operator}
use Rattle.gx_base.specs.Replays.{put}
use Rattle.gx_base.specs.RoomViews.{RoomView}
use Rattle.speculation.specs.Limits.{limit_at}
use Rattle.speculation.specs.Machines.{Place, Turned, turn_at}
use Rattle.speculation.proofs.Putting.{numbers_equal}
use Rattle.rooms.specs.RoomsViews.{RoomsView}
use Rattle.rooms.specs.HandedOut.{IsLost, CountHasRisen}
use Rattle.rooms.specs.declared.values.Value.{Value}
use Rattle.rooms.proofs.CallerLemmas.{put_same, put_other}
use Rattle.sessions.specs.declared.events.Event.{Event as CodeEvent}
use Rattle.sessions.specs.declared.events.Stop.{Stop}
use Rattle.sessions.specs.Needs.{gone_on, needs}
use Rattle.sessions.specs.Places.{IsFit, IsBookIn, StandsOn}
use Rattle.sessions.specs.SessionViews.{OpenCommit, SessionView}
use Rattle.sessions.specs.SharedTurns.{shared_in, pushes_by}
use Rattle.sessions.specs.Turns.{event_of, TellsRight, IsLostIn, GoesWell, IsAfter, Answers, HasMoved, HasTurned}
use Rattle.sessions.proofs.Standing.{AreLeft, stands, same_rooms}

pub some_number : {x y : ℕ} → Some x ≡ Some y → x ≡ y
some_number e = cc

-- ---- held rooms

module _ (held : ℕ → Option RoomView) (room : ℕ) (seen : RoomView) (free : (other : ℕ) → is_some (held other) ≡ false) where
  again_by : (other : ℕ) (c : Bool) → (room == other) ≡ c → is_some (put (put held room (Some seen)) room None other) ≡ false
  again_by other true e = ap (λ (o : Option RoomView). is_some o) (ap (λ n. put (put held room (Some seen)) room None n) (sym (numbers_equal room other e)) ∙ put_same (put held room (Some seen)) room None)
  again_by other false e = ap (λ (o : Option RoomView). is_some o) (put_other (put held room (Some seen)) room None other e ∙ put_other held room (Some seen) other e) ∙ free other

  -- what was entered and left again is held no more
  pub held_again : (other : ℕ) → is_some (put (put held room (Some seen)) room None other) ≡ false
  held_again other = again_by other (room == other) refl

module _ {T S : Type 0} where
  -- ---- counts of lost takes

  pub no_loss : (a b : RoomsView (Value T S)) (s : SessionView) → ((room : ℕ) → b.lost room ≡ a.lost room) → IsLostIn a b s None
  no_loss a b s h = record { needed = λ room e. absurd (cc); risen = λ room e. absurd (cc); others = λ room n. h room }

  -- a lost take is no move
  pub lost_moves : (a b : RoomsView (Value T S)) (room : ℕ) → IsLost a b room → b.moves ≡ a.moves
  lost_moves a b room h = ap (λ (v : RoomsView (Value T S)). v.moves) h.same

  loss_others : (a b : RoomsView (Value T S)) (room other : ℕ) → IsLost a b room → Some room ≢ Some other → (c : Bool) → (room == other) ≡ c → b.lost other ≡ a.lost other
  loss_others a b room other h n true e = absurd (n (ap Some (numbers_equal room other e)))
  loss_others a b room other h n false e = ap (λ (v : RoomsView (Value T S)). v.lost other) h.same ∙ put_other a.lost room (b.lost room) other e

  pub one_loss : (a b : RoomsView (Value T S)) (s : SessionView) (room : ℕ) → IsLost a b room → needs a.book s room ≡ true → IsLostIn a b s (Some room)
  one_loss a b s room h n = record {
    needed = λ other e. subst (λ r. needs a.book s r ≡ true) (some_number e) n;
    risen = λ other e. subst (λ r. CountHasRisen (a.lost r) (b.lost r)) (some_number e) h.risen;
    others = λ other m. loss_others a b room other h m (room == other) refl;
  }

  -- ---- answers of whole turns

  module _ (op : Operator) (a b : RoomsView (Value T S)) (s t : SessionView) (p q : Place) where
    pub whole : (u : Turned) (e : CodeEvent) → turn_at op p s.worker ≡ u → s.opened ≡ None → event_of e ≡ u.event → q ≡ u.place → t.opened ≡ None
        → t.pushed ≡ pushes_by u.event s.pushed (gone_on p.session).outcome.pushes → limit_at u.event p.book (length p.session.outcome.steps) ≡ None → TellsRight p s.worker e
        → Answers op a.book s t p q None (Ok e)
    whole u e turned none event_is place_is opened_is pushed_is limit tells_right = (
      subst (λ (o : Option OpenCommit). IsAfter (shared_in op a.book s p o None) (event_of e) t q) (sym none) (record {
        event_is = event_is ∙ ap (λ (x : Turned). x.event) (sym turned);
        place_is = place_is ∙ ap (λ (x : Turned). x.place) (sym turned);
        opened_is = opened_is;
        pushed_is = pushed_is ∙ ap (λ (x : Turned). pushes_by x.event s.pushed (gone_on p.session).outcome.pushes) (sym turned);
      }),
      tells_right,
      subst (λ (o : Option OpenCommit). GoesWell op a.book p s.worker o None) (sym none) (ap (λ (x : Turned). limit_at x.event p.book (length p.session.outcome.steps)) turned ∙ limit),
    )

    pub turned : AreLeft a b s t p q → StandsOn a s p → IsFit op a s → t.worker ≡ s.worker → q.session ≡ t.at → IsBookIn b t.opened q.book → q.book.ordered ≡ a.ordered
        → (lost : Option ℕ) → IsLostIn a b s lost → (r : Result CodeEvent Stop) → Answers op a.book s t p q lost r → HasMoved a.book s p q lost r a.moves b.moves → HasTurned op a b s t r
    turned h stood fit same session_is book ordered lost found r answers moved = record {
      p = p;
      q = q;
      lost = lost;
      stood = stood;
      stands = stands a b s t p q h fit.acts same stood session_is book (ordered ∙ sym h.ordered);
      found = found;
      answers = answers;
      moved = moved;
      same_rooms = same_rooms a b s t p q h fit.acts same stood;
      same_worker = same;
    }

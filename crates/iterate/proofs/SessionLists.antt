-- Lists of sessions, of which one takes a turn.
use Rattle.std.specs.Prelude.{◌≡◌, ℕ, ◌<◌, Bool, true, false, ◌==◌, if◌then◌else◌, Some, List, [], ◌∷◌, length, slice_get, slice_set, refl}
use Rattle.std.proofs.Common.{sym, ◌∙◌, ap, subst, arith}
use Rattle.std.proofs.lemmas.Option.{same_Some}
use Rattle.gx_base.specs.Plans.{Operator}
use Rattle.gx_base.specs.Replays.{put}
use Rattle.speculation.proofs.Putting.{no_bool, same_number, numbers_equal}
use Rattle.rooms.specs.RoomsViews.{RoomsView, is_room_held}
use Rattle.rooms.specs.declared.values.Value.{Value}
use Rattle.rooms.proofs.CallerLemmas.{get_set, get_other, numbers_differ}
use Rattle.sessions.specs.declared.session.Session.{Session as CodeSession}
use Rattle.iterate.specs.PlayedTurns.{session_in, sessions_of, MayTurn, MayAllTurn}
use Rattle.sessions.specs.SessionViews.{Rests, view_of}
use Rattle.iterate.proofs.SoleTurns.{free_of}

turned_round : (a b : ℕ) (c : Bool) → (a == b) ≡ false → (b == a) ≡ c → (b == a) ≡ false
turned_round a b true e h = absurd (no_bool (a == b) (subst (λ k. (a == k) ≡ true) (sym (numbers_equal b a h)) (same_number a)) e)
turned_round a b false e h = h

pub apart : (a b : ℕ) → (a == b) ≡ false → (b == a) ≡ false
apart a b e = turned_round a b (b == a) e refl

first_there : {X : Type 0} (xs : List X) → 0 < length xs → (x : X) × (slice_get xs 0 ≡ Some x)
first_there [] h = absurd (omega arith)
first_there (x ∷ xs) h = (x, refl)

module _ {O St : Type 0} (rest : Rests St) where
  pub here : (xs : List (CodeSession O St)) (place : ℕ) (x : CodeSession O St) → slice_get xs place ≡ Some x → sessions_of rest xs place ≡ (view_of rest x).at
  here xs place x e = ap (session_in rest) e

  set_by : (xs : List (CodeSession O St)) (place : ℕ) (x : CodeSession O St) → place < length xs → (number : ℕ) (b : Bool) → (place == number) ≡ b
      → sessions_of rest (slice_set xs place x) number ≡ (if b then (view_of rest x).at else sessions_of rest xs number)
  set_by xs place x h number true e = ap (session_in rest) (subst (λ k. slice_get (slice_set xs place x) k ≡ Some x) (numbers_equal place number e) (get_set xs place x h))
  set_by xs place x h number false e = ap (session_in rest) (get_other xs place number x (numbers_differ place number e))

  pub set_sessions : (xs : List (CodeSession O St)) (place : ℕ) (x : CodeSession O St) → place < length xs → sessions_of rest (slice_set xs place x) ≡ put (sessions_of rest xs) place (view_of rest x).at
  set_sessions xs place x h = λ i number. set_by xs place x h number (place == number) refl i

  module _ {T S : Type 0} (op : Operator) where
    all_by : (b : RoomsView (Value T S)) (xs : List (CodeSession O St)) (place : ℕ) (x : CodeSession O St) → place < length xs → MayTurn op b place (view_of rest x)
        → ((other : ℕ) (u : CodeSession O St) → (other == place) ≡ false → slice_get xs other ≡ Some u → MayTurn op b other (view_of rest u))
        → (worker : ℕ) (u : CodeSession O St) → slice_get (slice_set xs place x) worker ≡ Some u → (c : Bool) → (worker == place) ≡ c → MayTurn op b worker (view_of rest u)
    all_by b xs place x h mine others worker u e true q =
        let same : worker ≡ place = numbers_equal worker place q in
        subst (λ (v : CodeSession O St). MayTurn op b worker (view_of rest v)) (same_Some x u (sym (subst (λ k. slice_get (slice_set xs place x) k ≡ Some x) (sym same) (get_set xs place x h)) ∙ e))
        (subst (λ k. MayTurn op b k (view_of rest x)) (sym same) mine)
    all_by b xs place x h mine others worker u e false q = others worker u q (sym (get_other xs place worker x (numbers_differ place worker (apart worker place q))) ∙ e)

    pub all_set : (b : RoomsView (Value T S)) (xs : List (CodeSession O St)) (place : ℕ) (x : CodeSession O St) → place < length xs → MayTurn op b place (view_of rest x)
        → ((other : ℕ) (u : CodeSession O St) → (other == place) ≡ false → slice_get xs other ≡ Some u → MayTurn op b other (view_of rest u)) → MayAllTurn op b rest (slice_set xs place x)
    all_set b xs place x h mine others = λ worker u e. all_by b xs place x h mine others worker u e (worker == place) refl

    -- no room is held
    pub all_free : (a : RoomsView (Value T S)) (xs : List (CodeSession O St)) → 0 < length xs → MayAllTurn op a rest xs → (room : ℕ) → is_room_held a room ≡ false
    all_free a xs h all = let x = first_there xs h in free_of op a 0 (view_of rest x.0) (all 0 x.0 x.1)

    pub book_is : (a : RoomsView (Value T S)) (xs : List (CodeSession O St)) → 0 < length xs → MayAllTurn op a rest xs → a.book ≡ op.rooms
    book_is a xs h all = let x = first_there xs h in let may = all 0 x.0 x.1 in may.fit.book

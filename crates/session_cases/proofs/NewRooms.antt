-- Schedules, and rooms in which whole runs may begin.
use Rattle.std.specs.Prelude.{◌≡◌, ℕ, zero, suc, ◌+◌, ◌<◌, ◌≤◌, ◌^◌, false, Option, Some, None, List, [], ◌∷◌, ◌++◌, length, map, slice_get, refl}
use Rattle.std.proofs.Common.{sym, ◌∙◌, ap, subst, arith, length-append}
use Rattle.std.proofs.lemmas.Option.{slice_get_past}
use Rattle.gx_base.specs.declared.items.Item.{Item}
use Rattle.gx_base.specs.Plans.{Operator}
use Rattle.gx_base.specs.RoomViews.{RoomView}
use Rattle.gate_core.specs.Views.{GateView}
use Rattle.commit_book.specs.BookViews.{BookView, new_book}
use Rattle.speculation.specs.ScheduledRuns.{AllBelow}
use Rattle.rooms.specs.Values.{tells}
use Rattle.rooms.specs.Visits.{Visits, AreGatesAndBook, last_commits, view_of}
use Rattle.rooms.specs.declared.values.Value.{Value}
use Rattle.rooms.specs.declared.values.Value.TheVariants.{Object, Book}
use Rattle.iterate.specs.Plays.{IsNewGateIn, AreNewFor}
use Rattle.session_cases.specs.Beginnings.{HasNoEntries, AreNewGates, AreNewRooms}

pub below_push : (xs : List ℕ) (x n : ℕ) → AllBelow xs n → x < n → AllBelow (xs ++ x ∷ []) n
below_push [] x n all below = (below, tt)
below_push (y ∷ ys) x n all below = (all.0, below_push ys x n all.1 below)

no_mark : (gate : GateView) (n : ℕ) → HasNoEntries gate → gate.mark ≤ n
no_mark gate n is = let e : gate.mark ≡ 0 = is.unmarked in omega arith

module _ {T S : Type 0} where
  pub new_gates_push : (values : List (Value T S)) (gate : GateView) → AreNewGates values → HasNoEntries gate → AreNewGates (values ++ Object gate ∷ [])
  new_gates_push [] gate new is = (is, tt)
  new_gates_push (Object first ∷ values) gate new is = (new.0, new_gates_push values gate new.1 is)
  new_gates_push (Book book ∷ values) gate new is = absurd new

  pub gates_and_book : (values : List (Value T S)) (book : BookView) → AreNewGates values → AreGatesAndBook (map tells (values ++ Book book ∷ []))
  gates_and_book [] book new = refl
  gates_and_book (Object gate ∷ []) book new = (refl, no_mark gate (length book.commits) new.0, refl)
  gates_and_book (Object gate ∷ (Object next ∷ values)) book new = (refl, no_mark gate (last_commits (map tells (Object next ∷ (values ++ Book book ∷ [])))) new.0, gates_and_book (Object next ∷ values) book new.1)
  gates_and_book (Object gate ∷ (Book next ∷ values)) book new = absurd new.1
  gates_and_book (Book first ∷ values) book new = absurd new

  gate_at : (values more : List (Value T S)) (room : ℕ) → AreNewGates values → room < length values → IsNewGateIn (slice_get (values ++ more) room)
  gate_at [] more room new below = absurd (omega arith)
  gate_at (Object gate ∷ values) more zero new below = record { gate = gate; is_there = refl; no_done = new.0.no_done; no_live = new.0.no_live }
  gate_at (Object gate ∷ values) more (suc room) new below = gate_at values more room new.1 (omega arith)
  gate_at (Book book ∷ values) more room new below = absurd new

  last_at : (values : List (Value T S)) (last : Value T S) (room : ℕ) → room ≡ length values → slice_get (values ++ last ∷ []) room ≡ Some last
  last_at [] last zero e = refl
  last_at [] last (suc room) e = absurd (omega arith)
  last_at (value ∷ values) last zero e = absurd (omega arith)
  last_at (value ∷ values) last (suc room) e = last_at values last room (omega arith)

  module _ (values : List (Value T S)) (ready : List Item) (new : AreNewGates values) (few : length values + 1 < 2 ^ 32) where
    abbrev all : List (Value T S)
    all = values ++ Book (new_book false ready) ∷ []

    new_for : (op : Operator) → op.rooms ≡ length values → op.ordered ≡ false → AreNewFor op (λ room. slice_get all room)
    new_for op rooms ordered = record {
      gates = λ room below. gate_at values (Book (new_book false ready) ∷ []) room new (omega arith);
      book = record { book = new_book false ready; is_there = last_at values (Book (new_book false ready)) op.rooms (omega arith); ordered = sym ordered; no_holds = refl; no_commits = refl };
      no_more = λ room above. slice_get_past all room (let n : length all ≡ length values + 1 = length-append values (Book (new_book false ready) ∷ []) in omega arith);
      few = omega arith;
    }

    pub new_rooms_begin : AreNewRooms (length values) (view_of tells (record { values = all; moves = [] }))
    new_rooms_begin = record { free = λ room. refl; new = λ op rooms ordered. new_for op rooms ordered }

pub new_rooms_begin_as : {T S : Type 0} (values items : List (Value T S)) (ready : List Item) (book : BookView) (visits : Visits (Value T S)) → AreNewGates values → length values + 1 < 2 ^ 32 → book ≡ new_book false ready → items ≡ values ++ Book book ∷ [] → visits ≡ record { values = items; moves = [] } → AreNewRooms (length values) (view_of tells visits)
new_rooms_begin_as {T} {S} values items ready book visits new few is pushed made =
    subst (λ v. AreNewRooms (length values) (view_of tells v)) (sym made)
    (subst (λ (vs : List (Value T S)). let v : Visits (Value T S) = record { values = vs; moves = [] } in AreNewRooms (length values) (view_of tells v)) (sym (pushed ∙ ap (λ b. values ++ Book b ∷ []) is))
    (new_rooms_begin values ready new few))

pub gates_and_book_as : {T S : Type 0} (values items : List (Value T S)) (book : BookView) → AreNewGates values → items ≡ values ++ Book book ∷ [] → AreGatesAndBook (map tells items)
gates_and_book_as values items book new pushed = subst (λ vs. AreGatesAndBook (map tells vs)) (sym pushed) (gates_and_book values book new)

pub one_more_each : {A B : Type 0} (xs : List A) (ys : List B) (x : A) (y : B) → length xs ≡ length ys → length (xs ++ x ∷ []) ≡ length (ys ++ y ∷ [])
one_more_each xs ys x y e = length-append xs (x ∷ []) ∙ ap (λ n. n + 1) e ∙ sym (length-append ys (y ∷ []))

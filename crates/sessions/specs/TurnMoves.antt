-- Which rooms a turn enters and leaves, in their order: with the gates and the book that there were before it, and with those that there are
-- after it. Moves stand the newest first.
use Rattle.std.specs.Prelude.{◌≡◌, ℕ, Bool, true, false, not, ◌||◌, ◌==◌, if◌then◌else◌, Option, Some, None, List, [], ◌∷◌}
use Rattle.gx_base.specs.declared.acts.Step.{Step}
use Rattle.gate_core.specs.Views.{GateView}
use Rattle.commit_book.specs.BookViews.{BookView, is_named}
use Rattle.speculation.specs.Events.{Event}
use Rattle.speculation.specs.Events as event
use Rattle.speculation.specs.Sessions.{Session, Phase, Idle, Running, Finished, Undoing, steps_before, has_no_step}
use Rattle.rooms.specs.RoomsViews.{Move, enters, leaves, visited}
use Rattle.rooms.specs.declared.values.Value.{Value}
use Rattle.rooms.specs.declared.values.Value.TheVariants.{Object, Book}
use Rattle.sessions.specs.declared.events.Stop.{Stop}
use Rattle.sessions.specs.declared.events.Stop.TheVariants as stops
use Rattle.sessions.specs.Needs.{asks_in}
use Rattle.sessions.specs.RoomLists.{before, rooms_of}
use Rattle.sessions.specs.SessionViews.{OpenCommit}

abbrev pub RoomMoves : (T S : Type 0) → Type 0
RoomMoves T S = List (Move (Value T S))

-- gates were entered and left, one after another
abbrev pub gates_visited : {T S : Type 0} → (was now : ℕ → GateView) → List ℕ → RoomMoves T S → RoomMoves T S
gates_visited was now [] moves = moves
gates_visited was now (room ∷ rooms) moves = gates_visited was now rooms (visited room (Object (was room)) (Object (now room)) moves)

-- a call is undone in the book where it was found there that the iteration is named, or where the item is put back with it
abbrev pub undoes_in_book : Phase → List Step → Bool
undoes_in_book Idle steps = false
undoes_in_book (Running plan) steps = false
undoes_in_book Finished steps = true
undoes_in_book Undoing steps = has_no_step (steps_before steps)

module _ {T S : Type 0} (book : ℕ) (was now : ℕ → GateView) (book_was book_now : BookView) where
  abbrev pub at_gate : ℕ → RoomMoves T S → RoomMoves T S
  at_gate room moves = visited room (Object (was room)) (Object (now room)) moves

  abbrev pub enters_book : RoomMoves T S → RoomMoves T S
  enters_book moves = enters book (Book book_was) ∷ moves

  abbrev pub leaves_book : RoomMoves T S → RoomMoves T S
  leaves_book moves = leaves book (Book book_now) ∷ moves

  abbrev pub at_book : RoomMoves T S → RoomMoves T S
  at_book moves = leaves_book (enters_book moves)

  -- ---- parts of turns

  -- the item of an iteration without calls is put back at once, unless the book is held
  abbrev pub puts_back : List Step → Option ℕ → RoomMoves T S → RoomMoves T S
  puts_back steps None moves = if has_no_step steps then at_book moves else moves
  puts_back steps (Some held) moves = moves

  -- a commit is released in these rooms, one after another, and then the book is left; where one of them is held, only in those before it
  abbrev pub releases : List ℕ → Option ℕ → RoomMoves T S → RoomMoves T S
  releases rooms None moves = leaves_book (gates_visited was now rooms moves)
  releases rooms (Some held) moves = gates_visited was now (before rooms held) moves

  -- this room was held. The book is entered before another room, and is left as it was, but by a commit
  abbrev pub busy_moves : (worker : ℕ) → Session → Phase → ℕ → RoomMoves T S → RoomMoves T S
  busy_moves worker s Idle held moves = moves
  busy_moves worker s (Running plan) held moves = moves
  busy_moves worker s Finished held moves =
      if book == held then moves else (if is_named book_was worker s.iter then at_book moves else releases (rooms_of s.outcome.steps) (Some held) (enters_book moves))
  busy_moves worker s Undoing held moves = if (book == held) || not (has_no_step (steps_before s.outcome.steps)) then moves else at_book moves

  -- ---- turns

  -- a turn of a session that isn't making a commit yet, by its event
  abbrev pub moves_by : (worker : ℕ) → Session → Option ℕ → Event → RoomMoves T S → RoomMoves T S
  moves_by worker s lost (event.Take item) moves = at_book moves
  moves_by worker s lost event.Idle moves = at_book moves
  moves_by worker s lost (event.Call room call reply) moves = at_gate room moves
  moves_by worker s lost (event.Conflict room held call would) moves = puts_back s.outcome.steps lost (at_gate room moves)
  moves_by worker s lost (event.Commit number) moves = releases (rooms_of s.outcome.steps) lost (enters_book moves)
  moves_by worker s lost event.Wait moves = at_book moves
  moves_by worker s lost event.Drop moves = at_book moves
  moves_by worker s lost (event.Undo room call) moves = if undoes_in_book s.phase s.outcome.steps then leaves_book (at_gate room (enters_book moves)) else at_gate room moves
  moves_by worker s (Some held) event.Busy moves = busy_moves worker s s.phase held moves
  moves_by worker s None event.Busy moves = moves

  -- one that is making a commit goes on with its releases
  abbrev pub turn_moves : (worker : ℕ) → Session → Option OpenCommit → Option ℕ → Event → RoomMoves T S → RoomMoves T S
  turn_moves worker s None lost event moves = moves_by worker s lost event moves
  turn_moves worker s (Some made) lost event moves = releases made.left lost moves

-- ---- turns that stop

abbrev pub asks_at : Phase → ℕ → Bool
asks_at Idle room = false
asks_at (Running plan) room = asks_in plan room
asks_at Finished room = false
asks_at Undoing room = false

abbrev pub ends_in_book : Phase → Bool
ends_in_book Idle = true
ends_in_book (Running plan) = false
ends_in_book Finished = true
ends_in_book Undoing = false

-- memory was wanting before a room was entered, in the gate of the call, or in the book, which then wasn't held
pub data WasWanting {T S : Type 0} (book : ℕ) (was now : ℕ → GateView) (book_was book_now : BookView) (phase : Phase) (steps : List Step) (lost : Option ℕ) (moves after : RoomMoves T S) : Type 0 where
  in_no_room : after ≡ puts_back book was now book_was book_now steps lost moves → WasWanting book was now book_was book_now phase steps lost moves after
  in_gate : (room : ℕ) → asks_at phase room ≡ true → after ≡ puts_back book was now book_was book_now steps lost (at_gate book was now book_was book_now room moves)
      → WasWanting book was now book_was book_now phase steps lost moves after
  in_book : ends_in_book phase ≡ true → lost ≡ None → after ≡ at_book book was now book_was book_now moves → WasWanting book was now book_was book_now phase steps lost moves after

abbrev pub StopMoves : {T S : Type 0} → (book : ℕ) → (was now : ℕ → GateView) → (book_was book_now : BookView) → Stop → Phase → List Step → Option ℕ → (moves after : RoomMoves T S) → Type 0
StopMoves book was now book_was book_now stops.Spent phase steps lost moves after = after ≡ at_book book was now book_was book_now moves
StopMoves book was now book_was book_now stops.Kept phase steps lost moves after = after ≡ at_book book was now book_was book_now moves
StopMoves book was now book_was book_now stops.NoMemory phase steps lost moves after = WasWanting book was now book_was book_now phase steps lost moves after

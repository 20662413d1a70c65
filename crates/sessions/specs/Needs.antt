-- Which rooms a turn of a session needs.
use Rattle.std.specs.Prelude.{ℕ, Bool, false, ◌&&◌, ◌||◌, ◌==◌, Option, Some, None, List}
use Rattle.gx_base.specs.declared.acts.Step.{Step}
use Rattle.gx_base.specs.Plans.{Plan, Call, Push, Done}
use Rattle.speculation.specs.Sessions.{Session, Phase, Idle, Running, Finished, Undoing, Ahead, Asks, Ends, ahead, last_step, steps_before, has_no_step}
use Rattle.sessions.specs.RoomLists.{is_room_among, rooms_of}
use Rattle.sessions.specs.SessionViews.{OpenCommit, SessionView}

-- the session, once its body has come to a call or to its end
abbrev pub come_to : Ahead → Session
come_to (Asks s room call goes_on) = s
come_to (Ends s) = s

abbrev pub gone_on_in : Session → Phase → Session
gone_on_in s Idle = s
gone_on_in s (Running plan) = come_to (ahead s plan s.outcome.pushes)
gone_on_in s Finished = s
gone_on_in s Undoing = s

abbrev pub gone_on : Session → Session
gone_on s = gone_on_in s s.phase

-- the book's room, where an item is to be put back as the iteration has no steps left
abbrev pub to_put_back : (book : ℕ) → List Step → ℕ → Bool
to_put_back book steps room = has_no_step steps && (book == room)

abbrev pub asks_in : Plan → ℕ → Bool
asks_in (Call x call goes_on) room = x == room
asks_in (Push item rest) room = false
asks_in Done room = false

abbrev pub is_last : Option Step → ℕ → Bool
is_last None room = false
is_last (Some step) room = step.room == room

-- an idle session needs the book. A running one needs the room of its call, and the book where it puts its item back with no call made.
-- A finished one needs the book and the rooms of its calls. One that undoes needs the room of its last call, and with the last of
-- its calls the book
abbrev pub needs_at : (book : ℕ) → Session → Phase → ℕ → Bool
needs_at book s Idle room = book == room
needs_at book s (Running plan) room = asks_in plan room || to_put_back book s.outcome.steps room
needs_at book s Finished room = (book == room) || is_room_among (rooms_of s.outcome.steps) room
needs_at book s Undoing room = is_last (last_step s.outcome.steps) room || to_put_back book (steps_before s.outcome.steps) room

-- one that commits needs the rooms that it has still to release
abbrev pub needs_in : (book : ℕ) → Session → Option OpenCommit → ℕ → Bool
needs_in book s None room = needs_at book s s.phase room
needs_in book s (Some commit) room = is_room_among commit.left room

abbrev pub needs : (book : ℕ) → SessionView → ℕ → Bool
needs book session room = needs_in book (gone_on session.at) session.opened room

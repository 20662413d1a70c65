-- The table of the machine's events: where each one happens, and what follows from it.
use Rattle.std.specs.Prelude.{◌≡◌, ◌⊎◌, ℕ, ◌<◌, Bool, true, false, ◌&&◌, if◌then◌else◌, Some, None, [], length, slice_get, take}
use Rattle.gx_base.specs.declared.calls.Call.{Call as CallOf}
use Rattle.gx_base.specs.declared.calls.Reply.{Reply}
use Rattle.gx_base.specs.declared.acts.Entry.{Entry}
use Rattle.gx_base.specs.declared.acts.Step.{Step}
use Rattle.gx_base.specs.Plans.{Plan, Operator}
use Rattle.gx_base.specs.Worklists.{has_item, is_before, is_least}
use Rattle.gate_core.specs.Replays.{after, pair_ok}
use Rattle.gate_core.specs.Views.{GateView, gate_rows, live_start}
use Rattle.commit_book.specs.BookViews.{free_item, is_named, is_in_turn}
use Rattle.speculation.specs.Events.{Event}
use Rattle.speculation.specs.Events as event
use Rattle.speculation.specs.Sessions.{Session, Idle, Running, Finished, Undoing, Asks, Ends, ahead, last_step}
use Rattle.speculation.specs.Machines.{Machine, place_of, settled, taken, reply_in, called, named_off, let_go, given_up, undone, committed, entry_of}

-- ---- what is in a call's way

-- the uncommitted entry at this place and the one asked are of one iteration, or their row is true, where the state functions are
-- those of the state before the earlier one
abbrev pub may_stand : GateView → ℕ → Entry → Entry → Bool
may_stand g place held asked = pair_ok (gate_rows g) (after (live_start g) (take place g.live)) held asked

-- each uncommitted entry may stand with the one asked
abbrev pub NoneInWay : GateView → Entry → Type 0
NoneInWay g asked = (place : ℕ) (held : Entry) → slice_get g.live place ≡ Some held → may_stand g place held asked ≡ true

-- an uncommitted entry of another iteration has a false row, and those before it may stand with the one asked
pub record IsFirstInWay (g : GateView) (asked held : Entry) : Type 0 where
  pub place : ℕ
  pub is_there : slice_get g.live place ≡ Some held
  pub in_way : may_stand g place held asked ≡ false
  pub is_first : (earlier : ℕ) (other : Entry) → earlier < place → slice_get g.live earlier ≡ Some other → may_stand g earlier other asked ≡ true

-- ---- where a worker stands. The second session is the first one with the pushes noted that the body makes before its next call
-- or its end

-- its body asks this call next
abbrev pub IsAsking : Session → Session → ℕ → CallOf → (Reply → Plan) → Type 0
IsAsking s t room call goes_on = (plan : Plan) × (s.phase ≡ Running plan) × (ahead s plan s.outcome.pushes ≡ Asks t room call goes_on)

-- it is finished, or its body comes to its end in this turn
abbrev pub IsFinished : Session → Session → Type 0
IsFinished s t = ((s.phase ≡ Finished) × (t ≡ s)) ⊎ ((plan : Plan) × (s.phase ≡ Running plan) × (ahead s plan s.outcome.pushes ≡ Ends t))

-- it is finished, and named or not
abbrev pub IsFinishedAnd : Bool → Machine → ℕ → Session → Type 0
IsFinishedAnd named m worker t = IsFinished (m.sessions worker) t × (is_named m.book worker t.iter ≡ named)

-- it is undoing, or finished and named
abbrev pub HasToUndo : Machine → ℕ → Session → Type 0
HasToUndo m worker t = (((m.sessions worker).phase ≡ Undoing) × (t ≡ m.sessions worker)) ⊎ IsFinishedAnd true m worker t

-- ---- the table

-- the event happens in a turn of the worker, and leads to this machine
abbrev pub Happens : Operator → Machine → ℕ → Event → Machine → Type 0
-- idle, and the item is the least ready one that no iteration holds: a new iteration runs, which holds it
Happens op m worker (event.Take item) next =
    ((m.sessions worker).phase ≡ Idle) × (free_item m.book ≡ Some item) × (next ≡ settled m worker (taken op (place_of m worker) worker item))
-- idle, and every ready item is held: nothing. Or the worker has to undo and has no entry: its item is held no more, and it is idle
Happens op m worker event.Idle next =
    (((m.sessions worker).phase ≡ Idle) × (free_item m.book ≡ None) × (next ≡ m))
    ⊎ ((t : Session) × HasToUndo m worker t × (t.outcome.steps ≡ []) × (next ≡ settled m worker (let_go (place_of m worker) worker t)))
-- each uncommitted entry of another iteration in the room has a true row with the call: it is done, and is the last uncommitted entry
Happens op m worker (event.Call room call reply) next =
    (t : Session) × (goes_on : Reply → Plan) × IsAsking (m.sessions worker) t room call goes_on × NoneInWay (m.gates room) (entry_of (place_of m worker) worker t room call)
    × (reply ≡ reply_in (place_of m worker) room call) × (next ≡ settled m worker (called (place_of m worker) worker t room call goes_on))
-- some such row is false: the first such entry is told. In an ordered loop an iteration of a greater item is named, and the worker stays
-- where it is; else it gives up
Happens op m worker (event.Conflict room held call would) next =
    (t : Session) × (goes_on : Reply → Plan) × IsAsking (m.sessions worker) t room call goes_on × IsFirstInWay (m.gates room) (entry_of (place_of m worker) worker t room call) held
    × (would ≡ reply_in (place_of m worker) room call)
    × (next ≡ settled m worker (if m.book.ordered && is_before t.item held.item then named_off (place_of m worker) t held else given_up (place_of m worker) worker t))
-- finished, not named, and its item is ready, and in an ordered loop the least ready one: it commits
Happens op m worker (event.Commit number) next =
    (t : Session) × IsFinishedAnd false m worker t × (is_in_turn m.book t.item ≡ true) × (number ≡ length m.book.commits) × (next ≡ settled m worker (committed (place_of m worker) worker t))
-- finished, not named, and its item is ready, but in an ordered loop a smaller one is: it stays finished
Happens op m worker event.Wait next =
    (t : Session) × IsFinishedAnd false m worker t × (has_item m.book.ready t.item ≡ true) × (m.book.ordered ≡ true) × (is_least m.book.ready t.item ≡ false)
    × (next ≡ settled m worker (record (place_of m worker) { session = t }))
-- finished, not named, and its item isn't ready: it gives up
Happens op m worker event.Drop next =
    (t : Session) × IsFinishedAnd false m worker t × (has_item m.book.ready t.item ≡ false) × (next ≡ settled m worker (given_up (place_of m worker) worker t))
-- it has to undo, and its last entry is of this call: that is undone
Happens op m worker (event.Undo room call) next =
    (t : Session) × (last : Step) × HasToUndo m worker t × (last_step t.outcome.steps ≡ Some last) × (room ≡ last.room) × (call ≡ last.call)
    × (next ≡ settled m worker (undone (place_of m worker) worker t last))
-- no turn is busy where no room is shared
Happens op m worker event.Busy next = ⊥

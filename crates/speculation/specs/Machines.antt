-- The speculative machine: what one turn of a worker makes of the gates, the book and the worker's session.
use Rattle.std.specs.Prelude.{ℕ, not, ◌&&◌, ◌||◌, if◌then◌else◌, Option, Some, None, length, slice_index_or}
use Rattle.gx_base.specs.declared.calls.Call.{Call as CallOf}
use Rattle.gx_base.specs.declared.calls.Reply.{Reply}
use Rattle.gx_base.specs.declared.items.Item.{Item}
use Rattle.gx_base.specs.declared.acts.Entry.{Entry}
use Rattle.gx_base.specs.declared.acts.Step.{Step}
use Rattle.gx_base.specs.Plans.{Plan, Operator}
use Rattle.gx_base.specs.Replays.{put}
use Rattle.gx_base.specs.Steps.{reply_to}
use Rattle.gx_base.specs.Worklists.{has_item, is_before, is_least}
use Rattle.gate_core.specs.Views.{GateView, asked_entry, in_way, admit, undo_last, release}
use Rattle.commit_book.specs.BookViews.{BookView, free_item, give, put_back, name_off, is_named, commit}
use Rattle.speculation.specs.Events.{Event}
use Rattle.speculation.specs.Events as event
use Rattle.speculation.specs.Sessions.{Session, Phase, Idle, Running, Finished, Undoing, begun_on, ended, with_call, undoing, undone_to, Ahead, Asks, Ends, ahead, last_step, steps_before, has_no_step}

-- the gates of the rooms by their numbers, the book, and what each worker is at
pub record Machine : Type 0 where
  pub gates : ℕ → GateView
  pub book : BookView
  pub sessions : ℕ → Session

-- what a turn of one worker may change: all but the sessions of the others
pub record Place : Type 0 where
  pub gates : ℕ → GateView
  pub book : BookView
  pub session : Session

abbrev pub place_of : Machine → ℕ → Place
place_of m worker = record { gates = m.gates; book = m.book; session = m.sessions worker }

-- the machine in which the worker has this place
abbrev pub settled : Machine → ℕ → Place → Machine
settled m worker p = record { gates = p.gates; book = p.book; sessions = put m.sessions worker p.session }

-- ---- what follows from each event

-- a new iteration runs on the item, and holds it
abbrev pub taken : Operator → Place → ℕ → Item → Place
taken op p worker item = record { gates = p.gates; book = give p.book worker p.session.next_iter item; session = begun_on op p.session item }

-- the reply that the call has now
abbrev pub reply_in : Place → ℕ → CallOf → Reply
reply_in p room call = reply_to (p.gates room).state call

-- the call is done, and is the room's last uncommitted entry
abbrev pub called : Place → ℕ → Session → ℕ → CallOf → (Reply → Plan) → Place
called p worker s room call goes_on = record {
  gates = put p.gates room (admit (p.gates room) worker s.iter s.item call);
  book = p.book;
  session = with_call s room call goes_on (reply_in p room call);
}

-- the iteration of an entry is named, and this one stays as it is
abbrev pub named_off : Place → Session → Entry → Place
named_off p s held = record { gates = p.gates; book = name_off p.book held.worker held.iter s.item; session = s }

-- the iteration is over, and its item is held no more
abbrev pub let_go : Place → ℕ → Session → Place
let_go p worker s = record { gates = p.gates; book = put_back p.book worker s.iter; session = ended s }

-- an iteration without entries is over, and one with entries has to undo them
abbrev pub given_up : Place → ℕ → Session → Place
given_up p worker s = if has_no_step s.outcome.steps then let_go p worker s else record p { session = undoing s }

-- the last of its entries is undone. With the only one it is over, and its item is held no more
abbrev pub undone : Place → ℕ → Session → Step → Place
undone p worker s last =
    let gates = put p.gates last.room (undo_last (p.gates last.room) worker s.iter) in
    let left = steps_before s.outcome.steps in
    if has_no_step left then record { gates = gates; book = put_back p.book worker s.iter; session = ended s }
    else record { gates = gates; book = p.book; session = undone_to s left }

-- its entries are committed in each room, under the number of commits before; its item leaves the ready set, its pushes enter it, and
-- it is over
abbrev pub committed : Place → ℕ → Session → Place
committed p worker s = record {
  gates = λ room. release (p.gates room) worker s.iter (length p.book.commits);
  book = commit p.book worker s.iter s.item s.outcome;
  session = ended s;
}

-- ---- which event happens

-- an event, and the place after it
pub record Turned : Type 0 where
  pub event : Event
  pub place : Place

-- an idle worker takes the least ready item that no iteration holds
abbrev pub take : Operator → Place → ℕ → Option Item → Turned
take op p worker None = record { event = event.Idle; place = p }
take op p worker (Some item) = record { event = event.Take item; place = taken op p worker item }

-- in an ordered loop an iteration of a greater item is named, else this one gives up
abbrev pub conflict : Place → ℕ → Session → ℕ → CallOf → Entry → Turned
conflict p worker s room call held = record {
  event = event.Conflict room held call (reply_in p room call);
  place = if p.book.ordered && is_before s.item held.item then named_off p s held else given_up p worker s;
}

-- an entry at a place of a gate's uncommitted ones
abbrev pub live_at : GateView → ℕ → Entry → Entry
live_at g place default = slice_index_or g.live place default

-- a call is done where no uncommitted entry is in its way
abbrev pub answer : Place → ℕ → Session → ℕ → CallOf → (Reply → Plan) → Entry → Option ℕ → Turned
answer p worker s room call goes_on asked None = record { event = event.Call room call (reply_in p room call); place = called p worker s room call goes_on }
answer p worker s room call goes_on asked (Some place) = conflict p worker s room call (live_at (p.gates room) place asked)

-- what the entry of a call would be
abbrev pub entry_of : Place → ℕ → Session → ℕ → CallOf → Entry
entry_of p worker s room call = asked_entry worker s.iter s.item call (p.gates room).state

abbrev pub ask : Place → ℕ → Session → ℕ → CallOf → (Reply → Plan) → Turned
ask p worker s room call goes_on = answer p worker s room call goes_on (entry_of p worker s room call) (in_way (p.gates room) (entry_of p worker s room call))

-- the last entry is undone. An iteration that has none is over without an event
abbrev pub undo_step : Place → ℕ → Session → Option Step → Turned
undo_step p worker s None = record { event = event.Idle; place = let_go p worker s }
undo_step p worker s (Some last) = record { event = event.Undo last.room last.call; place = undone p worker s last }

abbrev pub undo : Place → ℕ → Session → Turned
undo p worker s = undo_step p worker s (last_step s.outcome.steps)

-- a finished iteration undoes where it is named; else it commits where its item is ready, and is the least ready one of an ordered loop
abbrev pub finish : Place → ℕ → Session → Turned
finish p worker s =
    if is_named p.book worker s.iter then undo p worker s
    else (if has_item p.book.ready s.item
    then (if not p.book.ordered || is_least p.book.ready s.item then record { event = event.Commit (length p.book.commits); place = committed p worker s } else record { event = event.Wait; place = record p { session = s } })
    else record { event = event.Drop; place = given_up p worker s })

-- a body whose end has come goes on as finished in the same turn
abbrev pub go : Place → ℕ → Ahead → Turned
go p worker (Asks s room call goes_on) = ask p worker s room call goes_on
go p worker (Ends s) = finish p worker s

abbrev pub turn_in : Operator → Place → ℕ → Phase → Turned
turn_in op p worker Idle = take op p worker (free_item p.book)
turn_in op p worker (Running plan) = go p worker (ahead p.session plan p.session.outcome.pushes)
turn_in op p worker Finished = finish p worker p.session
turn_in op p worker Undoing = undo p worker p.session

-- one turn of a worker
unfoldable pub turn_at : Operator → Place → ℕ → Turned
turn_at op p worker = turn_in op p worker p.session.phase

-- the machine after it
abbrev pub turn : Operator → Machine → ℕ → Machine
turn op m worker = settled m worker (turn_at op (place_of m worker) worker).place

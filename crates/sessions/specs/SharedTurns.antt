-- A turn of a session over rooms that others may hold. It finds at most one room held, and is then cut short there.
use Rattle.std.specs.Prelude.{ℕ, ◌==◌, if◌then◌else◌, Option, Some, None, List, length}
use Rattle.gx_base.specs.declared.items.Item.{Item}
use Rattle.gx_base.specs.Plans.{Operator}
use Rattle.gate_core.specs.Views.{GateView, release}
use Rattle.commit_book.specs.BookViews.{commit, is_named}
use Rattle.speculation.specs.Events.{Event}
use Rattle.speculation.specs.Events as event
use Rattle.speculation.specs.Sessions.{Session, Phase, Idle, Running, Finished, Undoing, ended, undoing, undone_to, has_no_step}
use Rattle.speculation.specs.Machines.{Place, let_go, turn_at}
use Rattle.sessions.specs.RoomLists.{is_room_among, rooms_of, steps_in, before, on_from}
use Rattle.sessions.specs.SessionViews.{OpenCommit, SessionView}
use Rattle.sessions.specs.Needs.{gone_on}

-- what happened, the values and the worker's session after it, the commit that it is making then, and the pushes of its last one
pub record Shared : Type 0 where
  pub event : Event
  pub place : Place
  pub opened : Option OpenCommit
  pub pushed : List Item

-- the iteration's calls in these rooms are committed under a number
abbrev pub released : (ℕ → GateView) → List ℕ → (worker iter number : ℕ) → ℕ → GateView
released gates rooms worker iter number room = if is_room_among rooms room then release (gates room) worker iter number else gates room

-- a commit is made in rooms before this one, which is held: the session has still to make it there and in the rooms after it
abbrev pub cut_commit : Place → (worker : ℕ) → Session → List Item → OpenCommit → ℕ → Shared
cut_commit p worker s pushed made room = record {
  event = event.Busy;
  place = record {
    gates = released p.gates (before made.left room) worker s.iter made.number;
    book = made.book;
    session = record s { outcome = record s.outcome { steps = steps_in (on_from made.left room) s.outcome.steps } };
  };
  opened = Some (record made { left = on_from made.left room });
  pushed = pushed;
}

-- nothing happens but what the session does by itself
abbrev pub stays : Place → Session → List Item → Shared
stays p s pushed = record { event = event.Busy; place = record p { session = s }; opened = None; pushed = pushed }

-- what an iteration's commit makes, before any room is released
abbrev pub begun_commit : Place → (worker : ℕ) → Session → OpenCommit
begun_commit p worker s = record { book = commit p.book worker s.iter s.item s.outcome; number = length p.book.commits; left = rooms_of s.outcome.steps }

-- this room is held: a room that the session would have entered first, or else the one where its event is cut short. Of an
-- iteration without calls that gives up after a conflict, the item is still to be put back
abbrev pub cut_at : Operator → (book : ℕ) → Place → (worker : ℕ) → Session → List Item → Phase → ℕ → Shared
cut_at op book p worker s pushed Idle room = stays p s pushed
cut_at op book p worker s pushed (Running plan) room =
    if book == room then record { event = (turn_at op p worker).event; place = record p { session = undoing s }; opened = None; pushed = pushed }
    else stays p s pushed
cut_at op book p worker s pushed Finished room =
    if book == room then stays p s pushed
    else (if is_named p.book worker s.iter then stays p (undoing s) pushed else cut_commit p worker s pushed (begun_commit p worker s) room)
cut_at op book p worker s pushed Undoing room = stays p s pushed

-- the pushes of a commit
abbrev pub pushes_by : Event → (before now : List Item) → List Item
pushes_by (event.Take item) before now = before
pushes_by event.Idle before now = before
pushes_by (event.Call room call reply) before now = before
pushes_by (event.Conflict room held call would) before now = before
pushes_by (event.Commit number) before now = now
pushes_by event.Wait before now = before
pushes_by event.Drop before now = before
pushes_by (event.Undo room call) before now = before
pushes_by event.Busy before now = before

-- the whole turn of the machine, where no room is held
abbrev pub whole_turn : Operator → Place → (worker : ℕ) → List Item → Shared
whole_turn op p worker pushed = record {
  event = (turn_at op p worker).event;
  place = (turn_at op p worker).place;
  opened = None;
  pushed = pushes_by (turn_at op p worker).event pushed (gone_on p.session).outcome.pushes;
}

-- the rest of a commit
abbrev pub rest_of_commit : Place → (worker : ℕ) → OpenCommit → Shared
rest_of_commit p worker made = record {
  event = event.Commit made.number;
  place = record { gates = released p.gates made.left worker p.session.iter made.number; book = made.book; session = ended p.session };
  opened = None;
  pushed = p.session.outcome.pushes;
}

-- an iteration gives up for want of memory, or as a limit is reached
abbrev pub given_back : Place → (worker : ℕ) → Option ℕ → Place
given_back p worker None = if has_no_step p.session.outcome.steps then let_go p worker p.session else record p { session = undone_to p.session p.session.outcome.steps }
given_back p worker (Some room) = record p { session = undone_to p.session p.session.outcome.steps }

-- a turn of a session that is making a commit or not, by the room that it finds held, if any
abbrev pub shared_in : Operator → (book : ℕ) → SessionView → Place → Option OpenCommit → Option ℕ → Shared
shared_in op book session p None None = whole_turn op p session.worker session.pushed
shared_in op book session p None (Some room) = cut_at op book p session.worker (gone_on p.session) session.pushed (gone_on p.session).phase room
shared_in op book session p (Some made) None = rest_of_commit p session.worker made
shared_in op book session p (Some made) (Some room) = cut_commit p session.worker p.session session.pushed made room

abbrev pub shared_turn : Operator → (book : ℕ) → SessionView → Place → Option ℕ → Shared
shared_turn op book session p lost = shared_in op book session p session.opened lost

-- ---- a turn that stops

-- the values and the session after it. An idle session stays so. Else the iteration has to undo; with no calls, its item is put back
-- at once, unless the book is held
abbrev pub stopped_at : Place → (worker : ℕ) → Phase → Option ℕ → Place
stopped_at p worker Idle lost = p
stopped_at p worker (Running plan) lost = given_back p worker lost
stopped_at p worker Finished lost = given_back p worker lost
stopped_at p worker Undoing lost = given_back p worker lost

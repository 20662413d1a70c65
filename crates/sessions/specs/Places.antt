-- What a session may rely on before each of its turns, and the place of the machine that it stands on.
use Rattle.std.specs.Prelude.{◌≡◌, ℕ, ◌<◌, ◌≤◌, true, false, ◌==◌, Option, Some, None, List, [], ◌∷◌, ◌++◌, length, ⊤}
use Rattle.std.specs.FinMap as map
use Rattle.gx_base.specs.declared.acts.Entry.{Entry}
use Rattle.gx_base.specs.declared.acts.Step.{Step}
use Rattle.gx_base.specs.declared.items.Item.{Item}
use Rattle.gx_base.specs.declared.kinds.Kind.TheVariants.{Set}
use Rattle.gx_base.specs.Kinds.{kind_number}
use Rattle.gx_base.specs.BodyRuns.{RunsTo}
use Rattle.gx_base.specs.Outcomes.{WholeCommit}
use Rattle.gx_base.specs.Plans.{Operator, Done}
use Rattle.gx_base.specs.Replays.{no_state, part}
use Rattle.gate_core.specs.Entries.{Each, mades_of, entries_of}
use Rattle.gate_core.specs.Views.{GateView}
use Rattle.commit_book.specs.BookViews.{BookView, new_book}
use Rattle.speculation.specs.Sessions.{Phase, Idle, Running, Finished, Undoing}
use Rattle.speculation.specs.Machines.{Place}
use Rattle.rooms.specs.RoomsViews.{RoomsView, is_room_held, commits_entered}
use Rattle.rooms.specs.declared.values.Value.{Value}
use Rattle.rooms.specs.declared.values.Value.TheVariants.{Object, Book}
use Rattle.sessions.specs.RoomLists.{is_room_among, steps_in, AreRoomsRising, AreRoomsBelow}
use Rattle.sessions.specs.SessionViews.{OpenCommit, SessionView}

-- ---- values of rooms

-- a gate without entries, over an empty set, with a table in which each two calls are in conflict
abbrev pub no_gate : GateView
no_gate = record { kind = kind_number Set; table = map.empty; state = no_state; done = []; live = []; mark = 0 }

abbrev pub gate_of : {T S : Type 0} → Value T S → GateView
gate_of (Object gate) = gate
gate_of (Book book) = no_gate

-- a value is a gate
abbrev pub IsGateValue : {T S : Type 0} → Value T S → Type 0
IsGateValue value = value ≡ Object (gate_of value)

abbrev pub book_of : {T S : Type 0} → Value T S → BookView
book_of (Object gate) = new_book false []
book_of (Book book) = book

-- what is told
abbrev pub IfTold : {T S : Type 0} → Option (Value T S) → (Value T S → Type 0) → Type 0
IfTold None P = ⊤
IfTold (Some value) P = P value

-- ---- what is asked of a session and its rooms

-- the worker's live entries in a room are of its present iteration, and are its steps there
pub record IsLogIn (room worker iter : ℕ) (item : Item) (steps : List Step) (live : List Entry) : Type 0 where
  pub current : Each (λ e. (e.worker == worker) ≡ true → (e.iter ≡ iter) × (e.item ≡ item)) live
  pub entries : mades_of (entries_of worker iter live) ≡ part room steps

abbrev pub IsLogOf : ℕ → SessionView → List Entry → Type 0
IsLogOf room session live = IsLogIn room session.worker session.at.iter session.at.item session.at.outcome.steps live

-- each step is in one of so many rooms
abbrev pub AreStepsWithin : ℕ → List Step → Type 0
AreStepsWithin rooms [] = ⊤
AreStepsWithin rooms (step ∷ steps) = (step.room < rooms) × AreStepsWithin rooms steps

-- the room of a call that was asked is one of so many
abbrev pub IsAskedWithin : ℕ → Option ℕ → Type 0
IsAskedWithin rooms None = ⊤
IsAskedWithin rooms (Some room) = room < rooms

-- a running session has come so far on its item, by the replies of its log; a finished one has come to the end; an idle one has no log
abbrev pub IsBody : Operator → SessionView → Phase → Type 0
IsBody op s Idle = s.at.outcome.steps ≡ []
IsBody op s (Running plan) = RunsTo (op.plan s.at.item) s.at.outcome.steps s.at.outcome.pushes plan × IsAskedWithin op.rooms s.asked
IsBody op s Finished = RunsTo (op.plan s.at.item) s.at.outcome.steps s.at.outcome.pushes Done
IsBody op s Undoing = ⊤

-- the commit is the last one of the book, and is that of a whole run on the session's item
pub record IsCommitOf (op : Operator) (session : SessionView) (made : OpenCommit) : Type 0 where
  pub earlier : List WholeCommit
  pub steps : List Step
  pub runs : RunsTo (op.plan session.at.item) steps session.at.outcome.pushes Done
  pub last : made.book.commits ≡ earlier ++ record { worker = session.worker; iter = session.at.iter; item = session.at.item; outcome = record { steps = steps; pushes = session.at.outcome.pushes; withdrawn = [] } } ∷ []
  pub number : made.number ≡ length earlier
  -- the rooms that are left stand by rising number
  pub rising : AreRoomsRising made.left
  pub below : AreRoomsBelow op.rooms made.left
  -- the log is the part of these steps in them
  pub log : session.at.outcome.steps ≡ steps_in made.left steps

-- no room is held, and the body is where the log says
abbrev pub IsFitIn : {V : Type 0} → Operator → RoomsView V → SessionView → Option OpenCommit → Type 0
IsFitIn op rooms session None = ((room : ℕ) → is_room_held rooms room ≡ false) × IsBody op session session.at.phase
-- or the book is held, which has the commit, and no room that is left was released under its number
IsFitIn op rooms session (Some made) =
    ((room : ℕ) → is_room_held rooms room ≡ (room == rooms.book)) × IsCommitOf op session made × (made.book.ordered ≡ rooms.ordered)
    × (commits_entered rooms ≡ made.number) × ((room : ℕ) → is_room_among made.left room ≡ true → rooms.released room ≡ false)

-- a session may take a turn in these rooms
pub record IsFit {T S : Type 0} (op : Operator) (rooms : RoomsView (Value T S)) (session : SessionView) : Type 0 where
  pub acts : rooms.acts_for session.worker ≡ true
  pub book : rooms.book ≡ op.rooms
  pub ordered : rooms.ordered ≡ op.ordered
  pub ordered_told : IfTold (rooms.told rooms.book) (λ value. (book_of value).ordered ≡ rooms.ordered)
  -- the live entries of the worker, as the rooms tell them, and in the values that they tell
  pub live : (room : ℕ) → room < rooms.book → IsLogOf room session (rooms.live room)
  pub live_told : (room : ℕ) → room < rooms.book → IfTold (rooms.told room) (λ value. IsLogOf room session (gate_of value).live)
  pub within : AreStepsWithin op.rooms session.at.outcome.steps
  pub doing : IsFitIn op rooms session session.opened

-- ---- places

-- the book is the one with the commit that is being made, or else the book's room has it
abbrev pub IsBookIn : {T S : Type 0} → RoomsView (Value T S) → Option OpenCommit → BookView → Type 0
IsBookIn rooms None b = IfTold (rooms.told rooms.book) (λ value. b ≡ book_of value)
IsBookIn rooms (Some made) b = b ≡ made.book

-- The place has the session, the book, and for each room a gate: the one that it tells, or else one in which the session's live entries
-- are those of its log
pub record StandsOn {T S : Type 0} (rooms : RoomsView (Value T S)) (session : SessionView) (p : Place) : Type 0 where
  pub session_is : p.session ≡ session.at
  pub gates : (room : ℕ) → room < rooms.book → IfTold (rooms.told room) (λ value. p.gates room ≡ gate_of value)
  pub no_others : (room : ℕ) → rooms.book ≤ room → p.gates room ≡ no_gate
  pub logs : (room : ℕ) → room < rooms.book → IsLogOf room session (p.gates room).live
  pub book : IsBookIn rooms session.opened p.book
  pub ordered : p.book.ordered ≡ rooms.ordered

-- Sessions of the code, as the machine has them.
use Rattle.std.specs.Prelude.{◌≡◌, ℕ, pos, Bool, Option, Some, None, List, []}
use Rattle.gx_base.specs.declared.acts.Step.{Step}
use Rattle.gx_base.specs.declared.calls.Reply.{Reply}
use Rattle.gx_base.specs.declared.items.Item.{Item}
use Rattle.gx_base.specs.Plans.{Plan, Call}
use Rattle.gx_base.specs.Outcomes.{nothing_done}
use Rattle.commit_book.specs.BookViews.{BookView}
use Rattle.speculation.specs.Sessions.{Session, Phase, Idle, Running, Finished, Undoing, is_idle, following}
use Rattle.sessions.specs.RoomLists.{steps_in}
use Rattle.sessions.specs.declared.session.Session.{Session as CodeSession}
use Rattle.sessions.specs.declared.session.Phase.{Phase as CodePhase}
use Rattle.sessions.specs.declared.session.Phase.TheVariants as code

-- a commit that isn't released everywhere: the book with it, the number of commits before it, and the rooms that are
-- still to be released, in their order
pub record OpenCommit : Type 0 where
  pub book : BookView
  pub number : ℕ
  pub left : List ℕ

-- the worker, where it is by the machine, the room of a call that its body has asked and that isn't done yet, the commit that it is
-- making, and the pushes of its last one
pub record SessionView : Type 0 where
  pub worker : ℕ
  pub at : Session
  pub asked : Option ℕ
  pub opened : Option OpenCommit
  pub pushed : List Item

-- ---- views

-- how a body goes on from where it stands, given the reply to its last call
abbrev pub Rests : Type 0 → Type 0
Rests St = St → Option Reply → Plan

abbrev pub phase_of : {St : Type 0} → Rests St → CodePhase St → Phase
phase_of rest code.Idle = Idle
phase_of rest (code.Running st last) = Running (rest st last)
phase_of rest (code.Asking st room call) = Running (Call room call (λ reply. rest st (Some reply)))
phase_of rest code.Finished = Finished
phase_of rest (code.Committing book number left) = Finished
phase_of rest code.Undoing = Undoing

-- of a commit's steps only those are left that aren't released
abbrev pub log_of : {St : Type 0} → CodePhase St → List Step → List Step
log_of code.Idle log = log
log_of (code.Running st last) log = log
log_of (code.Asking st room call) log = log
log_of code.Finished log = log
log_of (code.Committing book number left) log = steps_in left log
log_of code.Undoing log = log

abbrev pub opened_of : {St : Type 0} → CodePhase St → Option OpenCommit
opened_of code.Idle = None
opened_of (code.Running st last) = None
opened_of (code.Asking st room call) = None
opened_of code.Finished = None
opened_of (code.Committing book number left) = Some (record { book = book; number = number; left = left })
opened_of code.Undoing = None

abbrev pub asked_of : {St : Type 0} → CodePhase St → Option ℕ
asked_of code.Idle = None
asked_of (code.Running st last) = None
asked_of (code.Asking st room call) = Some room
asked_of code.Finished = None
asked_of (code.Committing book number left) = None
asked_of code.Undoing = None

-- what a session has besides its phase
pub record Core : Type 0 where
  pub worker : ℕ
  pub iter : ℕ
  pub item : Item
  pub next_iter : ℕ
  pub log : List Step
  pub pushes : List Item
  pub pushed : List Item

abbrev pub core_of : {O St : Type 0} → CodeSession O St → Core
core_of s = record { worker = s.worker; iter = s.iter; item = s.item; next_iter = s.next_iter; log = s.log.items; pushes = s.pushes.items; pushed = s.pushed.items }

abbrev pub at_in : {St : Type 0} → Rests St → Core → CodePhase St → Session
at_in rest c phase = record {
  phase = phase_of rest phase;
  iter = c.iter;
  item = c.item;
  outcome = record { steps = log_of phase c.log; pushes = c.pushes; withdrawn = [] };
  next_iter = c.next_iter;
}

abbrev pub view_in : {St : Type 0} → Rests St → Core → CodePhase St → SessionView
view_in rest c phase = record { worker = c.worker; at = at_in rest c phase; asked = asked_of phase; opened = opened_of phase; pushed = c.pushed }

abbrev pub view_of : {O St : Type 0} → Rests St → CodeSession O St → SessionView
view_of rest s = view_in rest (core_of s) s.phase

-- a worker that has no iteration yet
abbrev pub begun_view : ℕ → SessionView
begun_view worker = record {
  worker = worker;
  at = record { phase = Idle; iter = 0; item = record { k0 = pos 0; k1 = pos 0; k2 = pos 0; k3 = pos 0 }; outcome = nothing_done; next_iter = 0 };
  asked = None;
  opened = None;
  pushed = [];
}

-- it has no iteration
abbrev pub is_idle_view : SessionView → Bool
is_idle_view session = is_idle session.at.phase

-- a new iteration begins on an item
abbrev pub begins : Core → Item → Core
begins c item = record c { iter = c.next_iter; item = item; next_iter = following c.next_iter; log = []; pushes = [] }

-- a session runs with this plan left
abbrev pub IsBegun : {St : Type 0} → Rests St → Plan → CodePhase St → Type 0
IsBegun rest plan (code.Running st last) = rest st last ≡ plan
IsBegun rest plan code.Idle = ⊥
IsBegun rest plan (code.Asking st room call) = ⊥
IsBegun rest plan code.Finished = ⊥
IsBegun rest plan (code.Committing book number left) = ⊥
IsBegun rest plan code.Undoing = ⊥

-- an iteration that isn't over undoes
abbrev pub left_off : Phase → Phase
left_off Idle = Idle
left_off (Running plan) = Undoing
left_off Finished = Undoing
left_off Undoing = Undoing

abbrev pub with_left_off : Session → Session
with_left_off s = record s { phase = left_off s.phase }

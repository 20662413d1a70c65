-- Where a body of the code comes to.
use Rattle.std.specs.Prelude.{◌≡◌, ℕ, ◌<◌, Option, Some, None, List, ⊤}
use Rattle.gx_base.specs.declared.calls.Call.{Call as CallOf}
use Rattle.gx_base.specs.declared.calls.Reply.{Reply}
use Rattle.gx_base.specs.declared.items.Item.{Item}
use Rattle.gx_base.specs.Plans.{Plan, Call}
use Rattle.speculation.specs.Sessions.{Session, Ahead, Asks, Ends, ahead, at_plan, at_end}
use Rattle.sessions.specs.Needs.{gone_on}
use Rattle.sessions.specs.SessionViews.{Rests, Core, at_in}
use Rattle.sessions.specs.declared.session.Phase.{Phase as CodePhase}
use Rattle.sessions.specs.declared.session.Phase.TheVariants as code

-- it asks this call, or is at its end
abbrev pub came_to : {St : Type 0} → Rests St → Session → Option (ℕ × CallOf) → St → List Item → Ahead
came_to rest s None st pushes = Ends (at_end s pushes)
came_to rest s (Some asked) st pushes =
    Asks (at_plan s (Call asked.0 asked.1 (λ reply. rest st (Some reply))) pushes) asked.0 asked.1 (λ reply. rest st (Some reply))

-- whatever the session, the rest of its plan comes to that
abbrev pub ComesTo : {St : Type 0} → Rests St → Plan → List Item → Option (ℕ × CallOf) → St → List Item → Type 0
ComesTo rest plan pushes asked st now = (s : Session) → ahead s plan pushes ≡ came_to rest s asked st now

abbrev pub IsAskedIn : ℕ → Option (ℕ × CallOf) → Type 0
IsAskedIn rooms None = ⊤
IsAskedIn rooms (Some asked) = asked.0 < rooms

-- a session is running, or has asked a call
abbrev pub IsAtWork : {St : Type 0} → CodePhase St → Type 0
IsAtWork code.Idle = ⊥
IsAtWork (code.Running st last) = ⊤
IsAtWork (code.Asking st room call) = ⊤
IsAtWork code.Finished = ⊥
IsAtWork (code.Committing book number left) = ⊥
IsAtWork code.Undoing = ⊥

-- it has asked this call, or is finished
abbrev pub HasAsked : {St : Type 0} → Option (ℕ × CallOf) → CodePhase St → Type 0
HasAsked asked code.Idle = ⊥
HasAsked asked (code.Running st last) = ⊥
HasAsked asked (code.Asking st room call) = asked ≡ Some (room, call)
HasAsked asked code.Finished = asked ≡ None
HasAsked asked (code.Committing book number left) = ⊥
HasAsked asked code.Undoing = ⊥

-- the body has gone on to a call or to its end, and nothing else changed
pub record HasGoneOn {St : Type 0} (rest : Rests St) (old new : Core) (before after : CodePhase St) (asked : Option (ℕ × CallOf)) : Type 0 where
  pub at : at_in rest new after ≡ gone_on (at_in rest old before)
  pub core : new ≡ record old { pushes = new.pushes }
  pub phase : HasAsked asked after

-- the body of a session that asked a call goes on from this reply
abbrev pub IsNoted : {St : Type 0} → Reply → CodePhase St → CodePhase St → Type 0
IsNoted reply code.Idle after = ⊤
IsNoted reply (code.Running st last) after = ⊤
IsNoted reply (code.Asking st room call) after = after ≡ code.Running st (Some reply)
IsNoted reply code.Finished after = ⊤
IsNoted reply (code.Committing book number left) after = ⊤
IsNoted reply code.Undoing after = ⊤

-- a session makes a commit
abbrev pub IsCommitting : {St : Type 0} → CodePhase St → Type 0
IsCommitting code.Idle = ⊥
IsCommitting (code.Running st last) = ⊥
IsCommitting (code.Asking st room call) = ⊥
IsCommitting code.Finished = ⊥
IsCommitting (code.Committing book number left) = ⊤
IsCommitting code.Undoing = ⊥

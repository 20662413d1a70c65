-- What a worker is at: its iteration, and how far the body of that has come.
use Rattle.std.specs.Prelude.{ℕ, ◌+◌, ◌-◌, ◌^◌, ◌==◌, Bool, true, false, if◌then◌else◌, Option, Some, None, List, [], ◌∷◌, ◌++◌}
use Rattle.gx_base.specs.declared.calls.Call.{Call as CallOf}
use Rattle.gx_base.specs.declared.calls.Reply.{Reply}
use Rattle.gx_base.specs.declared.items.Item.{Item}
use Rattle.gx_base.specs.declared.acts.Step.{Step}
use Rattle.gx_base.specs.Plans.{Plan, Call, Push, Done, Operator}
use Rattle.gx_base.specs.Outcomes.{Outcome, nothing_done}

-- a running body has this plan left
pub data Phase : Type 0 where
  Idle : Phase
  Running : (plan : Plan) → Phase
  Finished : Phase
  Undoing : Phase

-- the worker's iteration with its number and its item, what its body has done that isn't undone, and the number of the next iteration.
-- An idle worker has that of its last iteration
pub record Session : Type 0 where
  pub phase : Phase
  pub iter : ℕ
  pub item : Item
  pub outcome : Outcome
  pub next_iter : ℕ

abbrev pub is_idle : Phase → Bool
is_idle Idle = true
is_idle (Running plan) = false
is_idle Finished = false
is_idle Undoing = false

-- 0 comes after the greatest number of 64 bits
abbrev pub following : ℕ → ℕ
following n = if n == 2 ^ 64 - 1 then 0 else n + 1

-- a new iteration begins on an item
abbrev pub begun_on : Operator → Session → Item → Session
begun_on op s item = record { phase = Running (op.plan item); iter = s.next_iter; item = item; outcome = nothing_done; next_iter = following s.next_iter }

-- the iteration is over
abbrev pub ended : Session → Session
ended s = record s { phase = Idle; outcome = nothing_done }

-- the body stands at a plan, and has pushed these items
abbrev pub at_plan : Session → Plan → List Item → Session
at_plan s plan pushes = record s { phase = Running plan; outcome = record s.outcome { pushes = pushes } }

-- the body has come to its end, and has pushed these items
abbrev pub at_end : Session → List Item → Session
at_end s pushes = record s { phase = Finished; outcome = record s.outcome { pushes = pushes } }

-- the call was done with this reply
abbrev pub with_call : Session → ℕ → CallOf → (Reply → Plan) → Reply → Session
with_call s room call goes_on reply = record s { phase = Running (goes_on reply); outcome = record s.outcome { steps = s.outcome.steps ++ record { room = room; call = call; reply = reply } ∷ [] } }

-- the iteration has to undo its calls
abbrev pub undoing : Session → Session
undoing s = record s { phase = Undoing }

-- it has these steps left
abbrev pub undone_to : Session → List Step → Session
undone_to s steps = record s { phase = Undoing; outcome = record { steps = steps; pushes = []; withdrawn = [] } }

-- where a body comes to without a call: it asks one, after which the plan goes on by the reply, or it is at its end
pub data Ahead : Type 0 where
  Asks : (s : Session) (room : ℕ) (call : CallOf) (goes_on : Reply → Plan) → Ahead
  Ends : (s : Session) → Ahead

-- the pushes up to there are noted
abbrev pub ahead : Session → Plan → List Item → Ahead
ahead s (Call room call goes_on) pushes = Asks (at_plan s (Call room call goes_on) pushes) room call goes_on
ahead s (Push item rest) pushes = ahead s rest (pushes ++ item ∷ [])
ahead s Done pushes = Ends (at_end s pushes)

-- the last of some steps, and those before it
abbrev pub last_step : List Step → Option Step
last_step [] = None
last_step (x ∷ []) = Some x
last_step (x ∷ y ∷ ys) = last_step (y ∷ ys)

abbrev pub steps_before : List Step → List Step
steps_before [] = []
steps_before (x ∷ []) = []
steps_before (x ∷ y ∷ ys) = x ∷ steps_before (y ∷ ys)

abbrev pub has_no_step : List Step → Bool
has_no_step [] = true
has_no_step (x ∷ xs) = false

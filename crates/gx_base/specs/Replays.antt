-- Replays: of the calls of one room, and of steps over the states of all rooms.
use Rattle.std.specs.Prelude.{◌≡◌, ℕ, ◌==◌, if◌then◌else◌, List, [], ◌∷◌, slice_index_or, ⊤}
use Rattle.std.specs.FinMap as map
use Rattle.gx_base.specs.declared.calls.Made.{Made}
use Rattle.gx_base.specs.declared.acts.Step.{Step}
use Rattle.gx_base.specs.declared.kinds.Kind.TheVariants.{Set}
use Rattle.gx_base.specs.Kinds.{kind_number}
use Rattle.gx_base.specs.States.{State}
use Rattle.gx_base.specs.Steps.{next_state, reply_to, inverse, IsCall}

-- ---- one room

-- the state after calls
abbrev pub after : State → List Made → State
after s [] = s
after s (made ∷ mades) = after (next_state s made.call) mades

-- the calls lead from s to t, and each reply is that of the state at its turn
abbrev pub Legal : State → List Made → State → Type 0
Legal s [] t = s ≡ t
Legal s (made ∷ mades) t = (reply_to s made.call ≡ made.reply) × Legal (next_state s made.call) mades t

-- the state before calls that led to t
abbrev pub start_of : State → List Made → State
start_of t [] = t
start_of t (made ∷ mades) = inverse (start_of t mades) made.call made.reply

-- each of them is a call that an object may be asked
abbrev pub AreCalls : List Made → Type 0
AreCalls [] = ⊤
AreCalls (made ∷ mades) = IsCall made.call × AreCalls mades

-- ---- all rooms

-- an empty set
abbrev pub no_state : State
no_state = record { kind = kind_number Set; rows = map.empty }

-- the states of rooms by their numbers, from those of a list; a room past its end counts as empty
abbrev pub in_rooms : List State → ℕ → State
in_rooms states room = slice_index_or states room no_state

-- the same but for one number
abbrev pub put : {A : Type 0} → (ℕ → A) → ℕ → A → ℕ → A
put values place value number = if place == number then value else values number

-- the call of a step, with its reply
abbrev pub made_by : Step → Made
made_by step = record { call = step.call; reply = step.reply }

-- the projection of steps to a room
abbrev pub part : ℕ → List Step → List Made
part room [] = []
part room (step ∷ steps) = if step.room == room then made_by step ∷ part room steps else part room steps

-- the steps are legal from some states, and lead to others: each reply is that of its room's state at its turn
abbrev pub Replays : (ℕ → State) → List Step → (ℕ → State) → Type 0
Replays states [] ends = states ≡ ends
Replays states (step ∷ steps) ends =
    (reply_to (states step.room) step.call ≡ step.reply) × Replays (put states step.room (next_state (states step.room) step.call)) steps ends

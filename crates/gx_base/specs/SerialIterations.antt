-- Serial iteration: the bodies of an order of items, one after another on the plain states.
use Rattle.std.specs.Prelude.{ℕ, Bool, true, not, ◌&&◌, ◌||◌, if◌then◌else◌, Option, Some, None, List, [], ◌∷◌, ◌++◌}
use Rattle.gx_base.specs.declared.items.Item.{Item}
use Rattle.gx_base.specs.States.{State}
use Rattle.gx_base.specs.Steps.{next_state, reply_to}
use Rattle.gx_base.specs.Plans.{Plan, Call, Push, Done, Operator}
use Rattle.gx_base.specs.Replays.{put}
use Rattle.gx_base.specs.Outcomes.{Outcome, nothing_done, after_step, after_push}
use Rattle.gx_base.specs.Worklists.{has_item, is_least, without_item, without_items, with_items}

-- what a body did, and the states after it
pub record Ran : Type 0 where
  pub outcome : Outcome
  pub states : ℕ → State

-- the run of a plan from some states: each call is done in its room, and its reply is given to what follows
unfoldable pub body : Plan → (ℕ → State) → Ran
body (Call room call goes_on) states =
    let rest = body (goes_on (reply_to (states room) call)) (put states room (next_state (states room) call)) in
    record { outcome = after_step (record { room = room; call = call; reply = reply_to (states room) call }) rest.outcome; states = rest.states }
body (Push item plan) states =
    let rest = body plan states in
    record { outcome = after_push item rest.outcome; states = rest.states }
body Done states = record { outcome = nothing_done; states = states }

-- the item may commit now: it is ready, and in an ordered loop no ready one is before it
abbrev pub may_commit : Bool → List Item → Item → Bool
may_commit ordered ready item = has_item ready item && (not ordered || is_least ready item)

-- the ready set after a commit: the item leaves it, then what its body withdraws, and its pushes enter
abbrev pub ready_after : List Item → Item → Outcome → List Item
ready_after ready item o = with_items (without_items (without_item ready item) o.withdrawn) o.pushes

-- the end of a serial iteration: the states, what is ready, and what each body did
pub record Ended : Type 0 where
  pub states : ℕ → State
  pub ready : List Item
  pub outcomes : List Outcome

-- an end, where there is one, with the outcome of the body that ran first
abbrev pub with_first : Outcome → Option Ended → Option Ended
with_first o None = None
with_first o (Some ended) = Some (record ended { outcomes = o ∷ ended.outcomes })

-- an end, where there is one, with the outcomes of bodies that ran before
abbrev pub with_before : List Outcome → Option Ended → Option Ended
with_before outcomes None = None
with_before outcomes (Some ended) = Some (record ended { outcomes = outcomes ++ ended.outcomes })

-- defined where each item of the order may commit at its turn
unfoldable pub serial : Operator → (ℕ → State) → List Item → List Item → Option Ended
serial op states ready [] = Some (record { states = states; ready = ready; outcomes = [] })
serial op states ready (item ∷ order) =
    if may_commit op.ordered ready item
    then with_first (body (op.plan item) states).outcome (serial op (body (op.plan item) states).states (ready_after ready item (body (op.plan item) states).outcome) order)
    else None

-- a serial iteration that goes on where another one has ended
abbrev pub then_serial : Operator → List Item → Option Ended → Option Ended
then_serial op order None = None
then_serial op order (Some ended) = with_before ended.outcomes (serial op ended.states ended.ready order)

-- the same operator in a loop that takes the least ready item at each turn
abbrev pub least_first : Operator → Operator
least_first op = record op { ordered = true }

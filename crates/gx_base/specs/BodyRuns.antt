-- Runs of a body by the replies to its calls, whatever the states are.
use Rattle.std.specs.Prelude.{ℕ, List, [], ◌∷◌, ◌++◌}
use Rattle.gx_base.specs.declared.calls.Call.{Call as CallOf}
use Rattle.gx_base.specs.declared.calls.Reply.{Reply}
use Rattle.gx_base.specs.declared.items.Item.{Item}
use Rattle.gx_base.specs.declared.acts.Step.{Step}
use Rattle.gx_base.specs.Plans.{Plan, Call, Push}

-- the steps with one more
abbrev pub then_step : List Step → ℕ → CallOf → Reply → List Step
then_step steps room call reply = steps ++ record { room = room; call = call; reply = reply } ∷ []

-- the plan has made these steps and pushes, by the replies of the steps, and another plan is left of it
pub data RunsTo (plan : Plan) : List Step → List Item → Plan → Type 0 where
  begun : RunsTo plan [] [] plan
  called : (steps : List Step) (pushes : List Item) (room : ℕ) (call : CallOf) (goes_on : Reply → Plan) (reply : Reply)
      → RunsTo plan steps pushes (Call room call goes_on) → RunsTo plan (then_step steps room call reply) pushes (goes_on reply)
  pushed : (steps : List Step) (pushes : List Item) (item : Item) (rest : Plan) → RunsTo plan steps pushes (Push item rest) → RunsTo plan steps (pushes ++ item ∷ []) rest

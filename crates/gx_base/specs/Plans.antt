-- What an operator does for a work item, as a plan: each call stands with what is done after its reply.
use Rattle.std.specs.Prelude.{◌≡◌, ℕ, ◌<◌, Bool, Option, Some, None, ⊤}
use Rattle.gx_base.specs.declared.calls.Call.{Call as CallOf}
use Rattle.gx_base.specs.declared.calls.Reply.{Reply}
use Rattle.gx_base.specs.declared.items.Item.{Item}
use Rattle.gx_base.specs.declared.acts.Act.{Act}
use Rattle.gx_base.specs.declared.acts.Act.TheVariants as acts

-- a call in a room, after which the plan goes on by the reply; a push of an item; or the end
pub data Plan : Type 0 where
  Call : (room : ℕ) (call : CallOf) (goes_on : Reply → Plan) → Plan
  Push : (item : Item) (rest : Plan) → Plan
  Done : Plan

-- whether items are to commit in their order, how many rooms there are, and what is done for each item
pub record Operator : Type 0 where
  pub ordered : Bool
  pub rooms : ℕ
  pub plan : Item → Plan

-- the act is the first one of the plan, and what is left after it, given the reply to it, is the rest of the plan
abbrev pub Follows : Plan → Act → (Option Reply → Plan) → Type 0
Follows (Call room call goes_on) act left = (act ≡ acts.Call room call) × ((reply : Reply) → left (Some reply) ≡ goes_on reply)
Follows (Push item rest) act left = (act ≡ acts.Push item) × (left None ≡ rest)
Follows Done act left = act ≡ acts.Done

-- a call is in one of so many rooms
abbrev pub IsInRoom : ℕ → Act → Type 0
IsInRoom rooms (acts.Call room call) = room < rooms
IsInRoom rooms (acts.Push item) = ⊤
IsInRoom rooms acts.Done = ⊤

-- each act but the last leaves less to go
abbrev pub FallsUnlessDone : Act → ℕ → ℕ → Type 0
FallsUnlessDone (acts.Call room call) before now = now < before
FallsUnlessDone (acts.Push item) before now = now < before
FallsUnlessDone acts.Done before now = ⊤

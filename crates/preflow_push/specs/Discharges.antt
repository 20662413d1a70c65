-- What a `Discharge` does, and how a body goes on from a stage.
use Rattle.std.specs.Prelude.{ℕ, Option, List, length, if◌then◌else◌}
use Rattle.gx_base.specs.declared.calls.Reply.{Reply}
use Rattle.gx_base.specs.declared.items.Item.{Item}
use Rattle.gx_base.specs.declared.acts.Act.{Act}
use Rattle.gx_base.specs.Plans.{Plan, Done}
use Rattle.commit_book.specs.Moves.{Moves}
use Rattle.preflow_push.specs.declared.touches.Touch.{Touch}
use Rattle.preflow_push.specs.declared.stages.Stage.{Stage}
use Rattle.preflow_push.specs.declared.stages.Walk.{Walk}
use Rattle.preflow_push.specs.declared.discharge.Discharge.{Discharge}
use Rattle.preflow_push.specs.FlowCalls.{rooms}
use Rattle.preflow_push.specs.TouchLists.{list_at, touches_of}
use Rattle.preflow_push.specs.Discharge.{Terminals, Onward, names_node, node_plan}
use Rattle.preflow_push.specs.Stages as stages

abbrev pub ends_of : Discharge → Terminals
ends_of d = record { source = d.source; sink = d.sink }

abbrev pub lists_of : Discharge → ℕ → List Touch
lists_of d list = list_at d.touches list

-- what is done for an item
abbrev pub item_plan : Discharge → Item → Plan
item_plan d item = if names_node d.nodes item then node_plan (ends_of d) item.k0 (touches_of d.touches item.k0) else Done

abbrev pub body_rest : Discharge → Stage → Option Reply → Plan
body_rest d stage reply = stages.rest_at (ends_of d) (lists_of d) stage (stages.value_of_reply reply)

abbrev pub acts_of : Discharge → Stage → ℕ
acts_of d stage = stages.acts_left (lists_of d) stage

-- what follows on a walk
abbrev pub onward_of : Discharge → Walk → Onward
onward_of d walk = stages.onward (ends_of d) (lists_of d) walk

-- how many acts are left at most before the next arc of a walk
abbrev pub acts_onward : Discharge → Walk → ℕ
acts_onward d walk = stages.acts_over (length (stages.arcs_left (lists_of d) walk))

-- the act begins the plan, the stage is where the rest of it is done, and the bound on the acts falls
abbrev pub MovesTo : Discharge → Plan → ℕ → Act → Stage → Type 0
MovesTo d plan bound act stage = Moves rooms (body_rest d) (acts_of d) plan bound act stage

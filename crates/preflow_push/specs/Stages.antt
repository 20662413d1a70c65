-- What a body that stands at a stage has still to do.
use Rattle.std.specs.Prelude.{ℕ, ◌+◌, ◌*◌, ℤ, pos, Option, Some, None, List, length, drop}
use Rattle.gx_base.specs.declared.calls.Reply.{Reply}
use Rattle.gx_base.specs.Plans.{Plan, Call, Push, Done}
use Rattle.preflow_push.specs.declared.touches.Touch.{Touch}
use Rattle.preflow_push.specs.declared.stages.Stage.{Stage}
use Rattle.preflow_push.specs.declared.stages.Walk.{Walk}
use Rattle.preflow_push.specs.declared.stages.Stage.TheVariants as stages
use Rattle.preflow_push.specs.FlowCalls.{room_of, gain, minus}
use Rattle.preflow_push.specs.Discharge.{Terminals, Onward, node_item, node_plan, with_excess, along, after_flow, after_height, after_gains, unless_spent}

-- a reply that was due and didn't come counts as four zeros
abbrev pub value_of_reply : Option Reply → ℤ
value_of_reply None = pos 0
value_of_reply (Some reply) = reply.p

-- at most six acts for each arc, and two after the last
abbrev pub acts_over : ℕ → ℕ
acts_over arcs = 6 * arcs + 2

module _ (lists : ℕ → List Touch) where
  -- the arcs that a walk has not gone over
  abbrev pub arcs_left : Walk → List Touch
  arcs_left walk = drop walk.at (lists walk.list)

  -- a bound on the acts that are left
  abbrev pub acts_left : Stage → ℕ
  acts_left (stages.Begin node list) = acts_over (length (lists list)) + 2
  acts_left (stages.AfterExcess node list) = acts_over (length (lists list)) + 1
  acts_left (stages.AfterHeight node list e) = acts_over (length (lists list))
  acts_left (stages.AfterFlow walk arc) = acts_over (length (arcs_left walk)) + 5
  acts_left (stages.AfterOther walk arc r) = acts_over (length (arcs_left walk)) + 4
  acts_left (stages.AfterSend walk arc x) = acts_over (length (arcs_left walk)) + 3
  acts_left (stages.AfterLoss walk arc x) = acts_over (length (arcs_left walk)) + 2
  acts_left (stages.AfterGain walk arc x) = acts_over (length (arcs_left walk)) + 1
  acts_left (stages.AfterPush walk) = acts_over (length (arcs_left walk))
  acts_left (stages.AfterRelabel node) = 1
  acts_left stages.End = 0

module _ (ends : Terminals) (lists : ℕ → List Touch) where
  abbrev pub onward : Walk → Onward
  onward walk = along ends walk.node walk.height (arcs_left lists walk)

  -- given the value that the last call replied
  abbrev pub rest_at : Stage → ℤ → Plan
  rest_at (stages.Begin node list) value = node_plan ends node (lists list)
  rest_at (stages.AfterExcess node list) value = with_excess ends node (lists list) value
  rest_at (stages.AfterHeight node list e) value = along ends node value (lists list) e None
  rest_at (stages.AfterFlow walk arc) value = after_flow ends walk.node walk.height arc value walk.excess walk.least (onward walk)
  rest_at (stages.AfterOther walk arc r) value = after_height ends walk.node walk.height arc r value walk.excess walk.least (onward walk)
  rest_at (stages.AfterSend walk arc x) value =
      Call (room_of walk.node) (gain walk.node (minus x)) (λ _.
      Call (room_of arc.other) (gain arc.other x) (λ _.
      after_gains ends walk.node walk.height arc x walk.excess walk.least (onward walk)))
  rest_at (stages.AfterLoss walk arc x) value =
      Call (room_of arc.other) (gain arc.other x) (λ _.
      after_gains ends walk.node walk.height arc x walk.excess walk.least (onward walk))
  rest_at (stages.AfterGain walk arc x) value = after_gains ends walk.node walk.height arc x walk.excess walk.least (onward walk)
  rest_at (stages.AfterPush walk) value = unless_spent walk.excess walk.least (onward walk)
  rest_at (stages.AfterRelabel node) value = Push (node_item node) Done
  rest_at stages.End value = Done

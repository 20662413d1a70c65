-- What is done for a node: its excess is pushed along its arcs to lower nodes, and where some is left the node rises.
use Rattle.std.specs.Prelude.{ℤ, pos, ◌&&◌, ◌||◌, Bool, true, false, Option, Some, None, List, [], ◌∷◌, if◌then◌else◌, int_le}
use Rattle.std.specs.Ordering.{int_eq}
use Rattle.std.specs.Int.{w64, int_min, int_wrapping_add, int_wrapping_sub}
use Rattle.gx_base.specs.declared.items.Item.{Item}
use Rattle.gx_base.specs.Plans.{Plan, Call, Push, Done, Operator}
use Rattle.preflow_push.specs.declared.touches.Touch.{Touch}
use Rattle.flow_files.specs.Networks.{Net}
use Rattle.preflow_push.specs.Touching.{touching}
use Rattle.preflow_push.specs.FlowCalls.{rooms, height, relabel, excess, gain, flow, send, room_of, minus}

abbrev pub node_item : ℤ → Item
node_item node = record { k0 = node; k1 = pos 0; k2 = pos 0; k3 = pos 0 }

-- the nodes are numbered from 1
abbrev pub is_node : ℤ → ℤ → Bool
is_node nodes u = int_le (pos 1) u && int_le u nodes

-- the item is (u, 0, 0, 0), with u a node
abbrev pub names_node : ℤ → Item → Bool
names_node nodes item = int_eq item.k1 (pos 0) && int_eq item.k2 (pos 0) && int_eq item.k3 (pos 0) && is_node nodes item.k0

-- how much more can be sent along an arc that carries f
abbrev pub residual : Touch → ℤ → ℤ
residual arc f = if arc.leaves then int_wrapping_sub w64 arc.cap f else f

-- what is sent along an arc where x goes to its other end
abbrev pub sent_along : Touch → ℤ → ℤ
sent_along arc x = if arc.leaves then x else minus x

abbrev pub lesser : Option ℤ → ℤ → ℤ
lesser None k = k
lesser (Some least) k = int_min least k

-- a node of height h may push to one of height k
abbrev pub is_just_above : ℤ → ℤ → Bool
is_just_above h k = int_eq h (int_wrapping_add w64 k (pos 1))

-- the node's end: where a height counted, the node rises just above the least one
abbrev pub rise : ℤ → Option ℤ → Plan
rise u None = Done
rise u (Some least) = Call (room_of u) (relabel u (int_wrapping_add w64 least (pos 1))) (λ _. Push (node_item u) Done)

-- the push of a node, which is left out at the source and the sink
abbrev pub push_unless : Bool → ℤ → Plan → Plan
push_unless true v rest = rest
push_unless false v rest = Push (node_item v) rest

-- the two ends between which all flows
pub record Terminals : Type 0 where
  pub source : ℤ
  pub sink : ℤ

abbrev pub is_terminal : Terminals → ℤ → Bool
is_terminal ends v = int_eq v ends.source || int_eq v ends.sink

-- what comes after an arc: the excess that is left, and the least height that counted
abbrev pub Onward : Type 0
Onward = ℤ → Option ℤ → Plan

-- Where the excess left is 0 it is Done.
abbrev pub unless_spent : ℤ → Option ℤ → Onward → Plan
unless_spent e least onward = if int_eq e (pos 0) then Done else onward e least

module _ (ends : Terminals) (u h : ℤ) where
  -- after x was sent along the arc, and both excesses were told
  abbrev pub after_gains : Touch → ℤ → ℤ → Option ℤ → Onward → Plan
  after_gains arc x e least onward = push_unless (is_terminal ends arc.other) arc.other (unless_spent (int_wrapping_sub w64 e x) least onward)

  abbrev pub sending : Touch → ℤ → ℤ → Option ℤ → Onward → Plan
  sending arc x e least onward =
      Call (room_of arc.number) (send arc.number (sent_along arc x)) (λ _.
      Call (room_of u) (gain u (minus x)) (λ _.
      Call (room_of arc.other) (gain arc.other x) (λ _.
      after_gains arc x e least onward)))

  -- after the height k of the other end
  abbrev pub after_height : Touch → ℤ → ℤ → ℤ → Option ℤ → Onward → Plan
  after_height arc r k e least onward =
      if is_just_above h k then sending arc (int_min e r) e least onward
      else onward e (Some (lesser least k))

  -- after the flow f of the arc
  abbrev pub after_flow : Touch → ℤ → ℤ → Option ℤ → Onward → Plan
  after_flow arc f e least onward =
      if int_le (residual arc f) (pos 0) then onward e least
      else Call (room_of arc.other) (height arc.other) (λ reply. after_height arc (residual arc f) reply.p e least onward)

  -- the arcs one after another, with the excess e, and then the node's end
  abbrev pub along : List Touch → Onward
  along [] e least = rise u least
  along (arc ∷ arcs) e least = Call (room_of arc.number) (flow arc.number) (λ reply. after_flow arc reply.p e least (along arcs))

abbrev pub with_excess : Terminals → ℤ → List Touch → ℤ → Plan
with_excess ends u arcs e =
    if int_le e (pos 0) then Done
    else Call (room_of u) (height u) (λ reply. along ends u reply.p arcs e None)

-- the body of a node, which these arcs touch
abbrev pub node_plan : Terminals → ℤ → List Touch → Plan
node_plan ends u arcs = Call (room_of u) (excess u) (λ reply. with_excess ends u arcs reply.p)

abbrev pub terminals : Net → Terminals
terminals net = record { source = net.source; sink = net.sink }

abbrev pub discharge_plan : Net → Item → Plan
discharge_plan net item = if names_node net.nodes item then node_plan (terminals net) item.k0 (touching item.k0 net.arcs) else Done

abbrev pub discharge_operator : Net → Operator
discharge_operator net = record { ordered = false; rooms = rooms; plan = discharge_plan net }

-- Where a flow program starts: the arcs out of the source are full, and the source is as high as there are nodes.
use Rattle.std.specs.Prelude.{ℕ, suc, ℤ, pos, negsuc, Bool, not, ◌&&◌, List, [], ◌∷◌, map, replicate, if◌then◌else◌, int_lt}
use Rattle.std.specs.List.{filter, range_with_len}
use Rattle.std.specs.Ordering.{int_eq}
use Rattle.std.specs.Int.{w64, int_wrapping_add}
use Rattle.std.specs.FinMap as finite
use Rattle.gx_base.specs.declared.items.Item.{Item}
use Rattle.gx_base.specs.declared.kinds.Kind.TheVariants.{Flow}
use Rattle.gx_base.specs.Kinds.{kind_number}
use Rattle.gx_base.specs.FlowKind.{height_sort, excess_sort, flow_sort}
use Rattle.gx_base.specs.States.{State, with_number}
use Rattle.gx_base.specs.Replays.{in_rooms, put}
use Rattle.flow_files.specs.declared.network.Arc.{Arc}
use Rattle.flow_files.specs.Networks.{Net}
use Rattle.preflow_push.specs.FlowCalls.{rooms, room_of, minus}
use Rattle.preflow_push.specs.FlowStates.{excess_in}
use Rattle.preflow_push.specs.Discharge.{terminals, is_terminal, node_item}

-- the states with another number in a row, in the room of its node or arc
abbrev pub set_in : ℕ → ℤ → ℤ → (ℕ → State) → ℕ → State
set_in sort number x states = put states (room_of number) (with_number (states (room_of number)) (sort, number) x)

abbrev pub with_height : ℤ → ℤ → (ℕ → State) → ℕ → State
with_height node level states = set_in height_sort node level states

abbrev pub with_gain : ℤ → ℤ → (ℕ → State) → ℕ → State
with_gain node x states = set_in excess_sort node (int_wrapping_add w64 (excess_in states node) x) states

abbrev pub with_flow : ℤ → ℤ → (ℕ → State) → ℕ → State
with_flow arc x states = set_in flow_sort arc x states

-- an arc is full: its flow is its capacity, which the one end has lost and the other has gained
abbrev pub filled : ℤ → Arc → (ℕ → State) → ℕ → State
filled number arc states = with_gain arc.to arc.cap (with_gain arc.from (minus arc.cap) (with_flow number arc.cap states))

-- the same for an arc that leaves the source, and for no other one
abbrev pub filled_from : ℤ → ℤ → Arc → (ℕ → State) → ℕ → State
filled_from source number arc states = if int_eq arc.from source then filled number arc states else states

-- those of the arcs that leave the source are full, where the first arc has the number n
abbrev pub poured : ℤ → ℕ → List Arc → (ℕ → State) → ℕ → State
poured source n [] states = states
poured source n (arc ∷ arcs) states = poured source (suc n) arcs (filled_from source (pos n) arc states)

abbrev pub empty_shard : State
empty_shard = record { kind = kind_number Flow; rows = finite.empty }

abbrev pub empty_rooms : ℕ → State
empty_rooms = in_rooms (replicate rooms empty_shard)

abbrev pub start_states : Net → ℕ → State
start_states net = poured net.source 1 net.arcs (with_height net.source net.nodes empty_rooms)

-- the nodes by rising number
abbrev pub nodes_to : ℤ → List ℤ
nodes_to (pos n) = map pos (range_with_len 1 n)
nodes_to (negsuc n) = []

-- there is something to do for a node: its excess is positive, and it is neither the source nor the sink
abbrev pub is_active : Net → (ℕ → State) → ℤ → Bool
is_active net states node = not (is_terminal (terminals net) node) && int_lt (pos 0) (excess_in states node)

abbrev pub start_ready : Net → List Item
start_ready net = map node_item (filter (is_active net (start_states net)) (nodes_to net.nodes))

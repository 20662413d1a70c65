-- The start of a flow program in plain words.
use Rattle.std.specs.Prelude.{◌≡◌, ◌≢◌, ◌↔◌, ℕ, suc, ℤ, pos, ◌+ℤ◌, ◌-ℤ◌, ◌≤ℤ◌, ◌<ℤ◌, List, [], ◌∷◌, Contains, if◌then◌else◌, ⊤}
use Rattle.std.specs.Ordering.{int_eq}
use Rattle.std.specs.Int.{w64, int_wrap}
use Rattle.gx_base.specs.declared.items.Item.{Item}
use Rattle.gx_base.specs.States.{State}
use Rattle.flow_files.specs.declared.network.Arc.{Arc}
use Rattle.flow_files.specs.Networks.{Net}
use Rattle.preflow_push.specs.FlowStates.{height_in, excess_in, flow_in}
use Rattle.preflow_push.specs.Discharge.{node_item}

-- what an arc carries at the start: its capacity where it leaves the source, and else nothing
abbrev pub carried : ℤ → Arc → ℤ
carried source arc = if int_eq arc.from source then arc.cap else pos 0

-- each arc carries that, where the first one has the number n
abbrev pub AreCarried : ℤ → (ℤ → ℤ) → ℕ → List Arc → Type 0
AreCarried source flows n [] = ⊤
AreCarried source flows n (arc ∷ arcs) = (flows (pos n) ≡ carried source arc) × AreCarried source flows (suc n) arcs

-- what an arc that carries x brings to a node, less what it takes from it
abbrev pub brought : ℤ → Arc → ℤ → ℤ
brought node arc x = (if int_eq node arc.to then x else pos 0) -ℤ (if int_eq node arc.from then x else pos 0)

-- the same of all arcs, where each carries its flow and the first one has the number n
abbrev pub balance : (ℤ → ℤ) → ℤ → ℕ → List Arc → ℤ
balance flows node n [] = pos 0
balance flows node n (arc ∷ arcs) = brought node arc (flows (pos n)) +ℤ balance flows node (suc n) arcs

-- the item is that of a node other than the source and the sink, and the node's excess is positive
pub record IsOfExcess (net : Net) (states : ℕ → State) (item : Item) : Type 0 where
  pub node : ℤ
  pub is : item ≡ node_item node
  pub from_one : pos 1 ≤ℤ node
  pub within : node ≤ℤ net.nodes
  pub no_source : node ≢ net.source
  pub no_sink : node ≢ net.sink
  pub excess : pos 0 <ℤ excess_in states node

-- The source is as high as there are nodes, and every other node has the height 0. The arcs out of the source carry
-- their capacities, and no other one carries anything. The excess of a node is what its arcs bring less what they
-- take, in 64 bits. Ready are just the items of the nodes with a positive excess, source and sink aside.
pub record IsStart (net : Net) (states : ℕ → State) (ready : List Item) : Type 0 where
  pub heights : (node : ℤ) → height_in states node ≡ (if int_eq node net.source then net.nodes else pos 0)
  pub flows : AreCarried net.source (flow_in states) 1 net.arcs
  pub excesses : (node : ℤ) → excess_in states node ≡ int_wrap w64 (balance (flow_in states) node 1 net.arcs)
  pub are_ready : (item : Item) → Contains ready item ↔ IsOfExcess net states item

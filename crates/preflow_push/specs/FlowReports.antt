-- The report of a flow, byte by byte.
use Rattle.std.specs.Prelude.{ℕ, suc, ℤ, pos, List, [], ◌∷◌, ◌++◌, codes}
use Rattle.std.specs.Fmt.{signed_decimal}
use Rattle.std.specs.List.{flat_map}
use Rattle.gx_base.specs.declared.items.Item.{Item}
use Rattle.gx_base.specs.States.{State}
use Rattle.flow_files.specs.declared.network.Arc.{Arc}
use Rattle.flow_files.specs.Networks.{Net}
use Rattle.preflow_push.specs.FlowStates.{excess_in, flow_in}
use Rattle.line_writer.specs.Lines.{line}

-- a commit of the work on a node
abbrev pub node_line : ℤ → List ℕ
node_line node = line (codes "c" ∷ codes "i" ∷ signed_decimal node ∷ [])

abbrev pub commit_line : Item → List ℕ
commit_line item = node_line item.k0

abbrev pub value_line : ℤ → List ℕ
value_line value = line (codes "s" ∷ signed_decimal value ∷ [])

abbrev pub flow_line : ℤ → ℤ → ℤ → List ℕ
flow_line from to flow = line (codes "f" ∷ signed_decimal from ∷ signed_decimal to ∷ signed_decimal flow ∷ [])

abbrev pub arc_line : (ℕ → State) → ℤ → Arc → List ℕ
arc_line states number arc = flow_line arc.from arc.to (flow_in states number)

-- a line for each arc, where the first one has the number n
abbrev pub arc_lines : (ℕ → State) → ℕ → List Arc → List ℕ
arc_lines states n [] = []
arc_lines states n (arc ∷ arcs) = arc_line states (pos n) arc ++ arc_lines states (suc n) arcs

-- The commits in their order, the value of the flow, which is the excess of the sink, and the flow of each arc.
abbrev pub flow_report : Net → List Item → (ℕ → State) → List ℕ
flow_report net order states = flat_map commit_line order ++ value_line (excess_in states net.sink) ++ arc_lines states 1 net.arcs

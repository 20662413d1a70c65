-- Two workers that discharge the nodes of a small network in turn.
use Rattle.std.specs.Prelude.{ℕ, zero, suc, pos, negsuc, false, List, [], ◌∷◌}
use Rattle.gx_base.specs.declared.kinds.Kind.TheVariants.{Flow}
use Rattle.gx_base.specs.Meanings.{number_reply}
use Rattle.gx_base.specs.TableRows.{RowMap}
use Rattle.preflow_push.specs.Networks.{Arc, Net}
use Rattle.preflow_push.specs.Discharge.{node_item}
use Rattle.preflow_push.specs.FlowCalls.{height, relabel, excess, gain, flow, send}
use Rattle.speculation.specs.Events.{Turn}
use Rattle.speculation.specs.Events as event
use Rattle.speculation.specs.Machines.{Machine}
use Rattle.speculation_cases.specs.Beginnings.{WrittenNumbers, written_gate, starting, turn_0, turn_1}

-- node 1 is the source, node 4 the sink, and two ways of two arcs lead from the one to the other
abbrev pub arc : ℕ → ℕ → Arc
arc from to = record { from = pos from; to = pos to; cap = pos 1 }

abbrev pub net : Net
net = record { nodes = pos 4; source = pos 1; sink = pos 4; arcs = arc 1 2 ∷ arc 1 3 ∷ arc 2 4 ∷ arc 3 4 ∷ [] }

-- the source is as high as there are nodes, and both arcs out of it are full
abbrev pub first_numbers : ℕ → WrittenNumbers
first_numbers (suc zero) = ((1, pos 1), negsuc 1) ∷ ((2, pos 1), pos 1) ∷ ((0, pos 1), pos 4) ∷ []
first_numbers (suc (suc zero)) = ((2, pos 2), pos 1) ∷ ((1, pos 2), pos 1) ∷ []
first_numbers (suc (suc (suc zero))) = ((1, pos 3), pos 1) ∷ []
first_numbers room = []

-- nodes 2 and 3 have an excess
abbrev pub diamond : RowMap → Machine
diamond table = starting (λ room. written_gate Flow table (first_numbers room)) false (node_item (pos 2) ∷ node_item (pos 3) ∷ [])

-- workers 0 and 1 by turns, so many times
abbrev pub alternating : ℕ → List ℕ
alternating zero = []
alternating (suc times) = 0 ∷ 1 ∷ alternating times

abbrev pub turns_of_both : List Turn
turns_of_both =
    turn_0 0 (event.Take (node_item (pos 2)))
    ∷ turn_1 1 (event.Take (node_item (pos 3)))
    ∷ turn_0 2 (event.Call 2 (excess (pos 2)) (number_reply (pos 1)))
    ∷ turn_1 3 (event.Call 3 (excess (pos 3)) (number_reply (pos 1)))
    ∷ turn_0 4 (event.Call 2 (height (pos 2)) (number_reply (pos 0)))
    ∷ turn_1 5 (event.Call 3 (height (pos 3)) (number_reply (pos 0)))
    ∷ turn_0 6 (event.Call 1 (flow (pos 1)) (number_reply (pos 1)))
    ∷ turn_1 7 (event.Call 2 (flow (pos 2)) (number_reply (pos 1)))
    ∷ turn_0 8 (event.Call 1 (height (pos 1)) (number_reply (pos 4)))
    ∷ turn_1 9 (event.Call 1 (height (pos 1)) (number_reply (pos 4)))
    ∷ turn_0 10 (event.Call 3 (flow (pos 3)) (number_reply (pos 0)))
    ∷ turn_1 11 (event.Call 4 (flow (pos 4)) (number_reply (pos 0)))
    ∷ turn_0 12 (event.Call 4 (height (pos 4)) (number_reply (pos 0)))
    ∷ turn_1 13 (event.Call 4 (height (pos 4)) (number_reply (pos 0)))
    ∷ turn_0 14 (event.Call 2 (relabel (pos 2) (pos 1)) (number_reply (pos 0)))
    ∷ turn_1 15 (event.Call 3 (relabel (pos 3) (pos 1)) (number_reply (pos 0)))
    ∷ turn_0 16 (event.Commit 0)
    ∷ turn_1 17 (event.Commit 1)
    ∷ turn_0 18 (event.Take (node_item (pos 2)))
    ∷ turn_1 19 (event.Take (node_item (pos 3)))
    ∷ turn_0 20 (event.Call 2 (excess (pos 2)) (number_reply (pos 1)))
    ∷ turn_1 21 (event.Call 3 (excess (pos 3)) (number_reply (pos 1)))
    ∷ turn_0 22 (event.Call 2 (height (pos 2)) (number_reply (pos 1)))
    ∷ turn_1 23 (event.Call 3 (height (pos 3)) (number_reply (pos 1)))
    ∷ turn_0 24 (event.Call 1 (flow (pos 1)) (number_reply (pos 1)))
    ∷ turn_1 25 (event.Call 2 (flow (pos 2)) (number_reply (pos 1)))
    ∷ turn_0 26 (event.Call 1 (height (pos 1)) (number_reply (pos 4)))
    ∷ turn_1 27 (event.Call 1 (height (pos 1)) (number_reply (pos 4)))
    ∷ turn_0 28 (event.Call 3 (flow (pos 3)) (number_reply (pos 0)))
    ∷ turn_1 29 (event.Call 4 (flow (pos 4)) (number_reply (pos 0)))
    ∷ turn_0 30 (event.Call 4 (height (pos 4)) (number_reply (pos 0)))
    ∷ turn_1 31 (event.Call 4 (height (pos 4)) (number_reply (pos 0)))
    ∷ turn_0 32 (event.Call 3 (send (pos 3) (pos 1)) (number_reply (pos 0)))
    ∷ turn_1 33 (event.Call 4 (send (pos 4) (pos 1)) (number_reply (pos 0)))
    ∷ turn_0 34 (event.Call 2 (gain (pos 2) (negsuc 0)) (number_reply (pos 0)))
    ∷ turn_1 35 (event.Call 3 (gain (pos 3) (negsuc 0)) (number_reply (pos 0)))
    ∷ turn_0 36 (event.Call 4 (gain (pos 4) (pos 1)) (number_reply (pos 0)))
    ∷ turn_1 37 (event.Call 4 (gain (pos 4) (pos 1)) (number_reply (pos 0)))
    ∷ turn_0 38 (event.Commit 2)
    ∷ turn_1 39 (event.Commit 3)
    ∷ []

-- after the sixth turn, the drain
abbrev pub turns_with_drain : List Turn
turns_with_drain =
    turn_0 0 (event.Take (node_item (pos 2)))
    ∷ turn_1 1 (event.Take (node_item (pos 3)))
    ∷ turn_0 2 (event.Call 2 (excess (pos 2)) (number_reply (pos 1)))
    ∷ turn_1 3 (event.Call 3 (excess (pos 3)) (number_reply (pos 1)))
    ∷ turn_0 4 (event.Call 2 (height (pos 2)) (number_reply (pos 0)))
    ∷ turn_1 5 (event.Call 3 (height (pos 3)) (number_reply (pos 0)))
    ∷ turn_0 6 (event.Undo 2 (height (pos 2)))
    ∷ turn_0 7 (event.Undo 2 (excess (pos 2)))
    ∷ turn_1 8 (event.Undo 3 (height (pos 3)))
    ∷ turn_1 9 (event.Undo 3 (excess (pos 3)))
    ∷ []

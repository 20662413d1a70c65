-- The arcs that touch a node.
use Rattle.std.specs.Prelude.{ℕ, suc, ℤ, pos, true, false, Option, Some, None, List, [], ◌∷◌, ◌++◌, if◌then◌else◌}
use Rattle.std.specs.Option.{option_to_list}
use Rattle.std.specs.Ordering.{int_eq}
use Rattle.flow_files.specs.declared.network.Arc.{Arc}
use Rattle.preflow_push.specs.declared.touches.Touch.{Touch}

-- the arc of this number as the node sees it: it leaves the node, or it enters it, or neither
abbrev pub touch_of : ℤ → ℤ → Arc → Option Touch
touch_of node number arc =
    if int_eq arc.from node then Some (record { number = number; other = arc.to; cap = arc.cap; leaves = true })
    else if int_eq arc.to node then Some (record { number = number; other = arc.from; cap = arc.cap; leaves = false })
    else None

-- those of the arcs that touch the node, by rising number, where the first arc has the number n
abbrev pub touching_from : ℕ → ℤ → List Arc → List Touch
touching_from n node [] = []
touching_from n node (arc ∷ arcs) = option_to_list (touch_of node (pos n) arc) ++ touching_from (suc n) node arcs

-- arcs are numbered from 1
abbrev pub touching : ℤ → List Arc → List Touch
touching node arcs = touching_from 1 node arcs

-- The lists of arcs that touch nodes.
use Rattle.std.specs.Prelude.{◌≡◌, ℕ, ℤ, Option, Some, None, List, [], ◌∷◌, ◌++◌, slice_get, if◌then◌else◌}
use Rattle.std.specs.Ordering.{int_eq}
use Rattle.std.specs.Global.{Vec}
use Rattle.indexmap.specs.IndexMap.{get, values}
use Rattle.preflow_push.specs.declared.touches.Touch.{Touch}
use Rattle.preflow_push.specs.declared.touches.Touches.{Touches}

abbrev pub items_or_none : Option (Vec Touch) → List Touch
items_or_none None = []
items_or_none (Some list) = list.items

-- the list of a node
abbrev pub touches_of : Touches → ℤ → List Touch
touches_of t node = items_or_none (get int_eq t.lists node)

-- the list of this number
abbrev pub list_at : Touches → ℕ → List Touch
list_at t list = items_or_none (slice_get (values t.lists) list)

-- the node's list has one more at its end, and all others stay
abbrev pub IsAdded : Touches → Touches → ℤ → Touch → Type 0
IsAdded old new node touch = (q : ℤ) → touches_of new q ≡ touches_of old q ++ (if int_eq node q then touch ∷ [] else [])

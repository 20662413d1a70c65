-- The report of a clustering, byte by byte.
use Rattle.std.specs.Prelude.{ℕ, ℤ, pos, Option, Some, None, List, [], ◌∷◌, ◌++◌, codes}
use Rattle.std.specs.Fmt.{signed_decimal}
use Rattle.std.specs.List.{flat_map, range_with_len}
use Rattle.gx_base.specs.declared.calls.Spot.{Spot}
use Rattle.gx_base.specs.declared.items.Item.{Item}
use Rattle.gx_base.specs.States.{State}
use Rattle.line_writer.specs.Lines.{line}
use Rattle.clustering.specs.Chain.{into_key, weight_key}
use Rattle.clustering.specs.CloudRooms.{point_in, cell_in}

-- a commit of the work on a point
abbrev pub id_line : ℤ → List ℕ
id_line id = line (codes "i" ∷ signed_decimal id ∷ [])

abbrev pub commit_line : Item → List ℕ
commit_line item = id_line item.k0

-- a point that is gone: what it became a part of, and the weight of that
abbrev pub merge_line : ℤ → ℤ → ℤ → List ℕ
merge_line id into weight = line (codes "m" ∷ signed_decimal id ∷ signed_decimal into ∷ signed_decimal weight ∷ [])

-- a point that is left, and its weight
abbrev pub left_line : Spot → ℤ → List ℕ
left_line spot weight = line (codes "c" ∷ signed_decimal spot.id ∷ signed_decimal spot.x ∷ signed_decimal spot.y ∷ signed_decimal weight ∷ [])

-- a line for a number whose point is gone
abbrev pub if_gone : (ℕ → State) → ℤ → Option Spot → List ℕ
if_gone states id None = merge_line id (cell_in states (into_key id)) (cell_in states (weight_key id))
if_gone states id (Some spot) = []

-- a line for a number whose point is there
abbrev pub if_left : (ℕ → State) → ℤ → Option Spot → List ℕ
if_left states id None = []
if_left states id (Some spot) = left_line spot (cell_in states id)

abbrev pub gone_line : (ℕ → State) → ℕ → List ℕ
gone_line states id = if_gone states (pos id) (point_in states (pos id))

abbrev pub there_line : (ℕ → State) → ℕ → List ℕ
there_line states id = if_left states (pos id) (point_in states (pos id))

-- The commits in their order; then, of so many numbers from 0, those whose points are gone, rising; then those whose
-- points are left, rising.
abbrev pub cluster_report : ℕ → List Item → (ℕ → State) → List ℕ
cluster_report count order states =
    flat_map commit_line order ++ flat_map (gone_line states) (range_with_len 0 count) ++ flat_map (there_line states) (range_with_len 0 count)

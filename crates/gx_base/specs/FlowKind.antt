-- Flow shards: heights, excesses and flows, each in the rows of a sort of its own.
use Rattle.std.specs.Prelude.{ℕ, ◌+◌, false, ◌==◌, if◌then◌else◌, [], ◌∷◌, codes}
use Rattle.gx_base.specs.States.{HoldsNumbers}
use Rattle.gx_base.specs.ObjectKinds.{ObjectKind}
use Rattle.gx_base.specs.RegisterDeeds.{Reads, Adds, Sets, Use, Nothing, On, register_meaning}

-- the number of the first method of flow shards
abbrev pub flow_first : ℕ
flow_first = 16

-- the methods of flow shards
abbrev pub height_method : ℕ
height_method = flow_first

abbrev pub relabel_method : ℕ
relabel_method = flow_first + 1

abbrev pub excess_method : ℕ
excess_method = flow_first + 2

abbrev pub gain_method : ℕ
gain_method = flow_first + 3

abbrev pub flow_method : ℕ
flow_method = flow_first + 4

abbrev pub send_method : ℕ
send_method = flow_first + 5

-- the sorts of their numbers: heights and excesses of nodes, and flows of arcs
abbrev pub height_sort : ℕ
height_sort = 0

abbrev pub excess_sort : ℕ
excess_sort = 1

abbrev pub flow_sort : ℕ
flow_sort = 2

-- what each method of a flow shard does
abbrev pub flow_use : ℕ → Use
flow_use method =
    if method == height_method then On height_sort Reads
    else if method == relabel_method then On height_sort Sets
    else if method == excess_method then On excess_sort Reads
    else if method == gain_method then On excess_sort Adds
    else if method == flow_method then On flow_sort Reads
    else if method == send_method then On flow_sort Adds
    else Nothing

-- the kind of flow shards
abbrev pub flow_kind : ObjectKind
flow_kind = record {
  word = codes "flow";
  first = flow_first;
  words = codes "height" ∷ codes "relabel" ∷ codes "excess" ∷ codes "gain" ∷ codes "flow" ∷ codes "send" ∷ [];
  meaning = register_meaning flow_use;
  may_hold = HoldsNumbers;
  has_state_function = false;
}

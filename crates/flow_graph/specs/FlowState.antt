-- What a flow shard stands for.
use Rattle.std.specs.Prelude.{◌≡◌, ℕ, ℤ, pos, Bool, true, false, Option, Some, None, IsTrue, ⊤, unwrap_or, refl, FitsSigned}
use Rattle.std.specs.Int.{w64}
use Rattle.std.proofs.Common.{sym, subst}
use Rattle.std.proofs.Math.Facts.{sfits_lit}
use Rattle.std.specs.FinMap as map
use Rattle.std.specs.Global.{Box}
use Rattle.std.specs.Ordering.{int_cmp}
use Rattle.gx_base.specs.declared.calls.Made.{Made}
use Rattle.gx_base.specs.declared.kinds.Kind.{Kind}
use Rattle.gx_base.specs.declared.kinds.Kind.TheVariants.{Flow}
use Rattle.gx_base.proofs.CallerLemmas.{flow_use-foreign}
use Rattle.gx_base.specs.Kinds.{kind_number}
use Rattle.gx_base.specs.Methods.{is_method}
use Rattle.gx_base.specs.ShippedTables.{SuitKind}
use Rattle.gx_base.specs.States.{State}
use Rattle.gx_base.specs.RegisterDeeds.{Use, Nothing, On, Reads, Adds, Sets}
use Rattle.gx_base.specs.FlowKind.{flow_use, height_sort, excess_sort, flow_sort}
use Rattle.gx_base.specs.Steps.{IsState}
use Rattle.kind_tables.specs.TablesOfKinds.{tables_of}
use Rattle.kind_tables.proofs.CallerLemmas.{tables_of-SuitKind}
use Rattle.number_rows.specs.NumberRows.{number_rows_of, IsLean, dead_rows}
use Rattle.number_rows.specs.NumbersAsRows.{number_in}
use Rattle.number_rows.proofs.CallerLemmas.{number-fits}
use Rattle.flow_graph.specs.declared.numbers.FlowNumbers.{FlowNumbers}
use Rattle.flow_graph.specs.declared.shard.FlowShard.{FlowShard}
use Rattle.flow_graph.specs.FlowNumbers.{sorted}
use Rattle.flow_graph.specs.FlowRows.{Numbers, flow_rows, flow_rows-HoldNumbers}

-- the rows of a sort that are there: none before the first write
abbrev pub rows_in : Option (Box FlowNumbers) → ℕ → Numbers
rows_in None sort = map.empty
rows_in (Some numbers) sort = number_rows_of (sorted numbers.value sort)

-- nothing was written yet
abbrev pub IsUnwritten : FlowShard → Type 0
IsUnwritten shard = shard.numbers ≡ None

-- the rows of a sort of the shard
abbrev pub numbers_of : FlowShard → ℕ → Numbers
numbers_of shard sort = rows_in shard.numbers sort

-- the state of a shard
abbrev pub state_of : FlowShard → State
state_of shard = record { kind = kind_number Flow; rows = flow_rows (numbers_of shard height_sort) (numbers_of shard excess_sort) (numbers_of shard flow_sort) }

abbrev pub has_row_in : FlowShard → ℕ → ℤ → Bool
has_row_in shard sort k = map.contains_key (numbers_of shard sort) k

abbrev pub room_in_shard : Use → FlowShard → ℤ → Bool
room_in_shard Nothing shard k = true
room_in_shard (On sort Reads) shard k = true
room_in_shard (On sort Adds) shard k = has_row_in shard sort k
room_in_shard (On sort Sets) shard k = has_row_in shard sort k

-- a call that writes has its row, so it is undone and done again in that row
abbrev pub has_room_in : FlowShard → Made → Bool
has_room_in shard made = room_in_shard (flow_use made.call.method) shard made.call.a

-- a table is lean, where there is one
abbrev pub IsLeanAt : Option (Box FlowNumbers) → ℕ → Type 0
IsLeanAt None sort = ⊤
IsLeanAt (Some numbers) sort = IsLean (sorted numbers.value sort)

-- the table of a sort is lean
abbrev pub IsLeanIn : FlowShard → ℕ → Type 0
IsLeanIn shard sort = IsLeanAt shard.numbers sort

-- each table of the shard is lean
abbrev pub IsLeanShard : FlowShard → Type 0
IsLeanShard shard = IsLeanIn shard height_sort × IsLeanIn shard excess_sort × IsLeanIn shard flow_sort

abbrev pub dead_at : Option (Box FlowNumbers) → ℕ → ℕ
dead_at None sort = 0
dead_at (Some numbers) sort = dead_rows (sorted numbers.value sort)

-- how many rows of a sort hold 0
abbrev pub dead_of_sort : FlowShard → ℕ → ℕ
dead_of_sort shard sort = dead_at shard.numbers sort

abbrev pub holds_flow : Kind → Bool
holds_flow Flow = true
holds_flow _ = false

-- What follows is what the object says of every value and kind. It stands here since that takes nothing from this
-- crate's proofs.

pub held-SuitKind : (kind : Kind) → IsTrue (holds_flow kind) → SuitKind (kind_number kind) (tables_of kind)
held-SuitKind kind held = tables_of-SuitKind kind

pub foreign-has_room_in : (shard : FlowShard) (made : Made) → is_method (state_of shard).kind made.call.method ≡ false → IsTrue (has_room_in shard made)
foreign-has_room_in shard made foreign = subst (λ u. IsTrue (room_in_shard u shard made.call.a)) (sym (flow_use-foreign made.call.method foreign)) refl

fits_at : (numbers : Option (Box FlowNumbers)) (sort : ℕ) (k : ℤ) → FitsSigned w64 (number_in (rows_in numbers sort) k)
fits_at None sort k = subst (λ (number : Option ℤ). FitsSigned w64 (unwrap_or number (pos 0))) (sym (map.get-empty int_cmp k)) (sfits_lit tt)
fits_at (Some numbers) sort k = number-fits (sorted numbers.value sort) k

pub state_of-IsState : (shard : FlowShard) → IsState (state_of shard)
state_of-IsState shard = flow_rows-HoldNumbers _ _ _ (fits_at shard.numbers height_sort) (fits_at shard.numbers excess_sort) (fits_at shard.numbers flow_sort)

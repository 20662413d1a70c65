-- What the tables of a flow shard hold.
use Rattle.std.specs.Prelude.{ℕ, zero, suc, ℤ, Bool}
use Rattle.std.specs.FinMap as map
use Rattle.gx_base.specs.declared.kinds.Kind.TheVariants.{Flow}
use Rattle.gx_base.specs.Kinds.{kind_number}
use Rattle.gx_base.specs.States.{State}
use Rattle.number_rows.specs.declared.rows.NumberRows.{NumberRows}
use Rattle.number_rows.specs.NumberRows.{number_rows_of, IsLean}
use Rattle.flow_graph.specs.declared.numbers.FlowNumbers.{FlowNumbers}
use Rattle.flow_graph.specs.FlowRows.{flow_rows}

-- the state of a shard with these numbers
abbrev pub state_with : FlowNumbers → State
state_with numbers = record { kind = kind_number Flow; rows = flow_rows (number_rows_of numbers.heights) (number_rows_of numbers.excesses) (number_rows_of numbers.flows) }

-- the numbers of a sort
abbrev pub sorted : FlowNumbers → ℕ → NumberRows
sorted numbers zero = numbers.heights
sorted numbers (suc zero) = numbers.excesses
sorted numbers (suc (suc n)) = numbers.flows

abbrev pub has_row_at : FlowNumbers → ℕ → ℤ → Bool
has_row_at numbers sort k = map.contains_key (number_rows_of (sorted numbers sort)) k

-- each table is lean
abbrev pub AreLean : FlowNumbers → Type 0
AreLean numbers = IsLean numbers.heights × IsLean numbers.excesses × IsLean numbers.flows

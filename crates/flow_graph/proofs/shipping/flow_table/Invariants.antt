use Rattle.std.proofs.Common.{◌≡◌, ℕ}
use Rattle.gx_base.specs.FlowKind.{flow_first}
use Rattle.gx_base.specs.ShippedTables.{rows_chosen}
use Rattle.gx_base.specs.TableRows.{row_of}
use Rattle.kind_tables.specs.FlowTables.{flow_tables}
use Rattle.gx_base.specs.Kinds.{kind_number}
use Rattle.gx_base.specs.declared.kinds.Kind.TheVariants.{Flow}
use Rattle.kind_tables.proofs.CallerLemmas.{filled_to}
use Rattle.flow_graph.proofs.shipping.flow_table.Given as goal

abbrev pub invariant-loop-first : goal.invariant-loop-first
invariant-loop-first l = (m n : ℕ) → row_of l.table m n ≡ filled_to (kind_number Flow) (rows_chosen flow_tables l.choice) l.first flow_first m n

abbrev pub invariant-loop-second : goal.invariant-loop-second
invariant-loop-second l = (m n : ℕ) → row_of l.table m n ≡ filled_to (kind_number Flow) (rows_chosen flow_tables l.choice) l.first l.second m n

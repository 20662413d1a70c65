-- What the methods of a flow shard use, as the meanings of calls name it.
use Rattle.std.specs.Prelude.{ℕ, Option, Some, None}
use Rattle.gx_base.specs.FlowKind.{height_sort, excess_sort, flow_sort}
use Rattle.gx_base.specs.RegisterDeeds as meaning
use Rattle.flow_graph.specs.declared.uses.Quantity.{Quantity}
use Rattle.flow_graph.specs.declared.uses.Quantity.TheVariants.{Height, Excess, Flow}
use Rattle.kind_tables.specs.declared.register_rows.Deed.{Deed}
use Rattle.kind_tables.specs.Deeds.{deed_of}

abbrev pub sort_of : Quantity → ℕ
sort_of Height = height_sort
sort_of Excess = excess_sort
sort_of Flow = flow_sort

abbrev pub use_from : Option (Quantity × Deed) → meaning.Use
use_from None = meaning.Nothing
use_from (Some p) = meaning.On (sort_of p.0) (deed_of p.1)

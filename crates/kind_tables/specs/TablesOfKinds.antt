-- What the kinds ship whose tables stand here. The tables of a kind whose type has a crate of its own may stand there.
use Rattle.gx_base.specs.declared.kinds.Kind.{Kind}
use Rattle.gx_base.specs.declared.kinds.Kind.TheVariants.{Flow, Domains}
use Rattle.gx_base.specs.declared.kinds.Choice.{Choice}
use Rattle.gx_base.specs.ShippedTables.{KindTables, rows_chosen, false_rows}
use Rattle.gx_base.specs.Tables.{Rows}
use Rattle.kind_tables.specs.FlowTables.{flow_tables}
use Rattle.kind_tables.specs.DomainTables.{domain_tables}

-- each row is false
abbrev pub false_tables : KindTables
false_tables = record { precise = false_rows; simple = false_rows; reader_writer = false_rows }

-- false ones for the kinds whose tables stand elsewhere
abbrev pub tables_of : Kind → KindTables
tables_of Flow = flow_tables
tables_of Domains = domain_tables
tables_of _ = false_tables

-- the shipped table of a kind
abbrev pub shipped_rows : Kind → Choice → Rows
shipped_rows kind choice = rows_chosen (tables_of kind) choice

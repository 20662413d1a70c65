-- The tables that flow shards ship.
use Rattle.gx_base.specs.FlowKind.{flow_use}
use Rattle.gx_base.specs.ShippedTables.{KindTables}
use Rattle.kind_tables.specs.RegisterTables.{register_tables}

abbrev pub flow_tables : KindTables
flow_tables = register_tables flow_use

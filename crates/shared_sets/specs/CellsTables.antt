-- The tables that cells ship.
use Rattle.gx_base.specs.CellsKind.{cells_use}
use Rattle.gx_base.specs.ShippedTables.{KindTables}
use Rattle.kind_tables.specs.RegisterTables.{register_tables}

abbrev pub cells_tables : KindTables
cells_tables = register_tables cells_use

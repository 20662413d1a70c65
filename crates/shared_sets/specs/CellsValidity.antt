-- The tables of cells: the precise one is valid, and the others are as they should be. These laws stand here since
-- cells say of what they ship that it suits them, and that takes nothing from this crate's proofs.
use Rattle.gx_base.proofs.CallerLemmas.{cells_use-foreign}
use Rattle.gx_base.specs.CellsKind.{cells_use}
use Rattle.gx_base.specs.declared.kinds.Kind.TheVariants.{Cells}
use Rattle.gx_base.specs.Kinds.{kind_number}
use Rattle.shared_sets.specs.CellsTables.{cells_tables}
use Rattle.kind_tables.proofs.CallerLemmas.{TableFacts, register_table, register_facts}

pub cells_facts : TableFacts (kind_number Cells) cells_tables
cells_facts = register_facts cells_use (kind_number Cells) (register_table cells_use) cells_use-foreign

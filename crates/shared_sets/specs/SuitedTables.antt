-- The objects may use what they ship. It stands here since the objects say it, and that takes nothing from this
-- crate's proofs; so do the laws of the tables on which it rests.
use Rattle.std.specs.Prelude.{IsTrue}
use Rattle.gx_base.specs.declared.kinds.Kind.{Kind}
use Rattle.gx_base.specs.declared.kinds.Kind.TheVariants.{Set, Cells, Flow, Points, Domains}
use Rattle.gx_base.specs.Kinds.{kind_number}
use Rattle.gx_base.specs.ShippedTables.{SuitKind}
use Rattle.kind_tables.proofs.CallerLemmas.{tables-SuitKind}
use Rattle.shared_sets.specs.SetTables.{set_tables}
use Rattle.shared_sets.specs.CellsTables.{cells_tables}
use Rattle.shared_sets.specs.SetState.{holds_sets}
use Rattle.shared_sets.specs.CellsState.{holds_cells}
use Rattle.shared_sets.specs.SetValidity.{set_facts}
use Rattle.shared_sets.specs.CellsValidity.{cells_facts}

pub set_tables-SuitKind : (kind : Kind) → IsTrue (holds_sets kind) → SuitKind (kind_number kind) set_tables
set_tables-SuitKind Set held = tables-SuitKind (kind_number Set) set_tables set_facts
set_tables-SuitKind Cells held = absurd (cc)
set_tables-SuitKind Flow held = absurd (cc)
set_tables-SuitKind Points held = absurd (cc)
set_tables-SuitKind Domains held = absurd (cc)

pub cells_tables-SuitKind : (kind : Kind) → IsTrue (holds_cells kind) → SuitKind (kind_number kind) cells_tables
cells_tables-SuitKind Set held = absurd (cc)
cells_tables-SuitKind Cells held = tables-SuitKind (kind_number Cells) cells_tables cells_facts
cells_tables-SuitKind Flow held = absurd (cc)
cells_tables-SuitKind Points held = absurd (cc)
cells_tables-SuitKind Domains held = absurd (cc)

use Rattle.std.proofs.Common.{refl}
use Rattle.gx_base.specs.declared.kinds.Kind.TheVariants.{Set, Cells}
use Rattle.shared_sets.specs.SuitedTables.{set_tables-SuitKind, cells_tables-SuitKind}
use Rattle.shared_sets.proofs.laws.shipped_tables_suit_their_kinds.Goals as goal

pub returns-clause-sets : goal.returns-clause-sets
returns-clause-sets c = set_tables-SuitKind Set refl

pub returns-clause-cells : goal.returns-clause-cells
returns-clause-cells c = cells_tables-SuitKind Cells refl

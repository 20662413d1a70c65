use Rattle.gx_base.specs.Kinds.{kind_number}
use Rattle.kind_tables.specs.TablesOfKinds.{tables_of}
use Rattle.kind_tables.proofs.kinds.TableFacts.{simple-below}
use Rattle.kind_tables.proofs.kinds.AllKinds.{facts_of}
use Rattle.kind_tables.proofs.laws.shipped_tables_are_in_order.Goals as goal

pub returns : goal.returns
returns c = record {
  simple = λ kind. simple-below (kind_number kind) (tables_of kind) (facts_of kind);
  readers = λ kind. (facts_of kind).readers_below;
}

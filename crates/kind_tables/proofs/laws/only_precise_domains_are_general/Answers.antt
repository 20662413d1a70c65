use Rattle.std.specs.Prelude.{refl}
use Rattle.kind_tables.specs.TablesOfKinds.{shipped_rows}
use Rattle.kind_tables.proofs.classes.GradeLaws.{shipped-HasNoGeneralRow, class-none}
use Rattle.kind_tables.proofs.laws.only_precise_domains_are_general.Goals as goal

pub returns : goal.returns
returns c = record {
  rows = shipped-HasNoGeneralRow;
  class = λ kind choice n. class-none kind (shipped_rows kind choice) (shipped-HasNoGeneralRow kind choice n);
  domains = refl;
}

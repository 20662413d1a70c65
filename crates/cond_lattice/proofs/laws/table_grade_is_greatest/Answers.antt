use Rattle.std.specs.Prelude.{refl}
use Rattle.cond_lattice.proofs.tables.Greatest.{table_grade-greatest}
use Rattle.cond_lattice.proofs.laws.table_grade_is_greatest.Goals as goal

pub returns : goal.returns
returns c = λ kind rows. table_grade-greatest kind rows _ refl

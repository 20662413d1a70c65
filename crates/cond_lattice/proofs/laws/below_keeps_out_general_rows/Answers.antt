use Rattle.cond_lattice.proofs.tables.Greatest.{row-below-not-general, table-below-not-general}
use Rattle.cond_lattice.proofs.laws.below_keeps_out_general_rows.Goals as goal

pub returns : goal.returns
returns c = record { rows = row-below-not-general; tables = table-below-not-general }

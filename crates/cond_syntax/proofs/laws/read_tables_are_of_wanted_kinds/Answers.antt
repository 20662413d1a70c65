use Rattle.cond_syntax.proofs.texts.ReadTables.{read_table-wanted}
use Rattle.cond_syntax.proofs.laws.read_tables_are_of_wanted_kinds.Goals as goal

pub returns : goal.returns
returns c = read_table-wanted

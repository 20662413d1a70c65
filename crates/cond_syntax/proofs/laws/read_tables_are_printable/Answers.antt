use Rattle.cond_syntax.proofs.texts.ReadTables.{read_table-printable}
use Rattle.cond_syntax.proofs.laws.read_tables_are_printable.Goals as goal

pub returns : goal.returns
returns c = read_table-printable

use Rattle.cond_syntax.proofs.printing.PrintedTables.{printed_table}
use Rattle.cond_syntax.proofs.laws.printed_tables_are_read_back.Goals as goal

pub returns : goal.returns
returns c = printed_table

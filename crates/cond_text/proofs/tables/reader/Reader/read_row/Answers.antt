use Rattle.cond_text.proofs.texts.RowFaults.{row_untyped}
use Rattle.cond_text.proofs.tables.reader.Reader.read_row.Goals as goal

pub returns-in-Untyped-clause-fault : goal.returns-in-Untyped-clause-fault
returns-in-Untyped-clause-fault c = rw c.in-Untyped.is (λ wanted ts. row_untyped wanted ts _ _ _)

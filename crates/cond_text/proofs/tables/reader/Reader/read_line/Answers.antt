use Rattle.std.proofs.Common.{sym, ◌∙◌}
use Rattle.cond_syntax.specs.TableTexts.{skipped}
use Rattle.cond_text.proofs.texts.RowFaults.{no_line}
use Rattle.cond_text.proofs.tables.reader.Reader.read_line.Goals as goal

pub returns-then-is_skipped-clause-read : goal.returns-then-is_skipped-clause-read
returns-then-is_skipped-clause-read c = skipped (sym c.is_skipped.ensures ∙ c.if-is_skipped.true)

pub returns-in-Other-clause-fault : goal.returns-in-Other-clause-fault
returns-in-Other-clause-fault c = no_line _ _ _ c.in-Other.ensures

-- How a condition is read from token to token, as the contracts of the reader's functions say it. The machine is no part
-- of the language, which `cond_syntax` defines by a grammar: it stands beside the proof that it finds just what the
-- grammar spells.
pub use Rattle.cond_syntax.proofs.machine.Machine.{Frame, OrLeft, AndLeft, Negation, Group, Due, First, Second}
pub use Rattle.cond_syntax.proofs.machine.Machine.{ReadingState, Operand, OperatorDue, TermDue, OpenDue, FirstDue, FirstDone, SecondDue, SecondDone, ThirdDue, ThirdDone, Done}
pub use Rattle.cond_syntax.proofs.machine.Machine.{unit_done, term_done, or_read, group_closed, close_read, operator_read, operand_read, term_read, conjunction_read, open_read, word_read, comma_read, close_due, step, whole, run}
pub use Rattle.cond_syntax.proofs.machine.Machine.{Reading, Wrong, Cut, Whole, whole_or_wrong, ended, read_from, reading_of}

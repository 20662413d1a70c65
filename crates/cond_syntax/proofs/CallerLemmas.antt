-- What a caller cites of the language: of the machine that reads it, of its texts, and of what is printed.
pub use Rattle.cond_syntax.proofs.grammar.FrontLemmas.{front_whole}
pub use Rattle.cond_syntax.proofs.grammar.KnownWords.{known_words, unknown_word}
pub use Rattle.cond_syntax.proofs.machine.MachineLemmas.{whole_is_spelled, whole_is_not_cut, whole_has_form, cut_is_cut, cut_has_form, wrong_has_no_form}
pub use Rattle.cond_syntax.proofs.printing.PrintedConditions.{printed_condition}
pub use Rattle.cond_syntax.proofs.printing.PrintedTables.{printed_table}
pub use Rattle.cond_syntax.proofs.texts.TableLemmas.{same_table, no_fault_of_a_table, same_fault}

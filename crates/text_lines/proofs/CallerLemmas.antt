-- What a caller cites of lines and numbers.
pub use Rattle.text_lines.proofs.lemmas.CleanLines.{is_clean, clean-append, digits-clean, lines-append}
pub use Rattle.text_lines.proofs.lemmas.NumberLemmas.{number_of-below}
pub use Rattle.text_lines.proofs.lemmas.DecimalLemmas.{AreDigitsOf, decimal-AreDigitsOf, number_of-AreDigitsOf, length-decimal}

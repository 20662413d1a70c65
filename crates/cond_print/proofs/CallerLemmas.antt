-- What a caller cites of texts that grow by one piece for each method of a kind.
pub use Rattle.cond_print.proofs.methods.PrintedRows.{one_more_piece, all_pieces}

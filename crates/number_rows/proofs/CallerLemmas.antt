-- What the proofs of other crates may use of this one.
pub use Rattle.number_rows.proofs.entries.Lookups.{number-fits}
pub use Rattle.number_rows.proofs.entries.Presence.{kept_after_write, KeepsRows, put_at, wrote_there, rewrote_kept}
pub use Rattle.number_rows.proofs.state_rows.Sorts.{apart_sorts, IsFree, IsFree-rows_onto, get-rows_onto-other, rows_onto-insert, rows_onto-rows_with, number-rows_onto, HoldNumbers, HoldNumbers-rows_onto, rows_onto-same, rows_onto-empty}

-- What the proofs of other crates may use of this one: what reading comes to.
pub use Rattle.cond_terms.proofs.reading.SourceLemmas.{words_known-end, reading-start, reading-next, reading-end, reading-cut, reading-none, IsLater-then}

-- What the proofs of other crates cite of flow files, passed on: a text calls for one answer.
pub use Rattle.flow_files.proofs.CallerLemmas.{one_answer}

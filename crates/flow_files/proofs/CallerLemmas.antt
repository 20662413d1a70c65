-- What the proofs of other crates cite: a text calls for one answer.
pub use Rattle.flow_files.proofs.files.FileAnswers.{one_answer}

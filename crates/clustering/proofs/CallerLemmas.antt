-- What the proofs of other crates cite of files of points, passed on: a text calls for one answer.
pub use Rattle.point_files.proofs.CallerLemmas.{one_answer}

-- What a caller cites of the run of a loop: that it passes one limit first, or ends; and what is known of an answer that is passed on.
pub use Rattle.loop_runs.proofs.LimitedRuns.{same_limit, ended}
pub use Rattle.loop_runs.proofs.LoopPlays.{of_answer}

-- What a caller cites of sessions: what logs that differ in hidden parts show.
pub use Rattle.sessions.proofs.Logs.{log_shown, log_hidden}

-- What proofs of other crates may use: what holds between turns, that each turn keeps it, and what worker 0 alone does in a turn.
pub use Rattle.speculation.proofs.IterationEntries.{IsCurrent}
pub use Rattle.speculation.proofs.Sound.{SoundGate, SoundLog, SoundLogOf, IsSoFar, SoundPhase, SoundBook, SoundMachine}
pub use Rattle.speculation.proofs.SoundIsSerial.{new_is_sound, sound_is_serial, idle_is_clear, sound_has_no_trace}
pub use Rattle.speculation.proofs.Bodies.{Same, ComesTo, comes_to}
pub use Rattle.speculation.proofs.Turns.{turn_is_sound, undoes, gives_up, lets_go}
pub use Rattle.speculation.proofs.Quiet.{Quiet, quiet, quiet_undo, quiet_let_go}
pub use Rattle.speculation.proofs.Runs.{IdleAt, scheduled_is_sound, drained_is_sound, played_is_sound, drained_idles, played_idles}
pub use Rattle.speculation.proofs.Tidy.{IsTidy, new_is_tidy, tidy_turn, tidy_scheduled, tidy_drain}
pub use Rattle.speculation.proofs.Lone.{IsLeftOf, Works, Rests, Brings, Goes, Begins, works_on, takes_turn, lone_ends}

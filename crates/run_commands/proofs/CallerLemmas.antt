-- What a caller cites of the commands: what one may tell, and that nothing is told of inputs that have a run to its end.
pub use Rattle.run_commands.proofs.meanings.CommandLaws.{conditions_fault_is_told, line_is_told, limit_is_told, runs_on, no_bad_table, no_line, no_large, no_past}

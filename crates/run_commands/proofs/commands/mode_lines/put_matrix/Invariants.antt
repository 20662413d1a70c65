use Rattle.std.proofs.Common.{◌≡◌, ◌++◌, string_bytes}
use Rattle.std.specs.List.{flat_map, range_with_len}
use Rattle.run_commands.specs.commands.ModeLines.{matrix_line}
use Rattle.run_commands.proofs.commands.mode_lines.put_matrix.Given as goal

-- the lines so far were put
abbrev pub invariant-loop-held : goal.invariant-loop-held
invariant-loop-held l = string_bytes l.text ≡ string_bytes l.fn.text ++ flat_map (matrix_line l.modes) (range_with_len 0 l.held)

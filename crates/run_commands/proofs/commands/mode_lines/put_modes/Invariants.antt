use Rattle.std.proofs.Common.{◌≡◌, ◌++◌, string_bytes}
use Rattle.std.specs.List.{flat_map, range_with_len}
use Rattle.run_commands.specs.commands.ModeLines.{mode_line}
use Rattle.run_commands.proofs.commands.mode_lines.put_modes.Given as goal

-- the modes so far were put
abbrev pub invariant-loop-mode : goal.invariant-loop-mode
invariant-loop-mode l = string_bytes l.text ≡ string_bytes l.fn.text ++ flat_map (mode_line l.modes) (range_with_len 0 l.mode)

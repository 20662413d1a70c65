use Rattle.std.proofs.Common.{◌≡◌, ◌++◌, map, string_bytes}
use Rattle.std.specs.List.{range_with_len}
use Rattle.run_commands.specs.commands.ModeLines.{exclusion_sign}
use Rattle.run_commands.proofs.commands.mode_lines.put_signs.Given as goal

-- the signs so far were put
abbrev pub invariant-loop-asked : goal.invariant-loop-asked
invariant-loop-asked l = string_bytes l.text ≡ string_bytes l.fn.text ++ map (exclusion_sign l.modes l.held) (range_with_len 0 l.asked)

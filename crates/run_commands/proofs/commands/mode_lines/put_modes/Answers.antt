use Rattle.std.proofs.Common.{string_bytes}
use Rattle.run_commands.specs.commands.ModeLines.{mode_line}
use Rattle.run_commands.proofs.meanings.ModeTexts.{one_more_line}
use Rattle.run_commands.proofs.commands.mode_lines.put_modes.Goals as goal

pub loop-mode-preserved : goal.loop-mode-preserved
loop-mode-preserved c = one_more_line (mode_line c.args.modes.now) c.loop-mode.mode (string_bytes c.args.text.now) (string_bytes c.loop-mode.text) _ c.loop-mode.invariant c.in_ok-put_mode.ensures

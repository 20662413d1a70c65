use Rattle.std.proofs.Common.{string_bytes}
use Rattle.run_commands.specs.commands.ModeLines.{matrix_line}
use Rattle.run_commands.proofs.meanings.ModeTexts.{one_more_line}
use Rattle.run_commands.proofs.commands.mode_lines.put_matrix.Goals as goal

pub loop-held-preserved : goal.loop-held-preserved
loop-held-preserved c =
    one_more_line (matrix_line c.args.modes.now) c.loop-held.held (string_bytes c.args.text.now) (string_bytes c.loop-held.text) _ c.loop-held.invariant c.in_ok-put_matrix_line.ensures

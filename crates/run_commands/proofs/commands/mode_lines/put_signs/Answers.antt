use Rattle.std.proofs.Common.{string_bytes}
use Rattle.run_commands.specs.commands.ModeLines.{exclusion_sign}
use Rattle.run_commands.proofs.meanings.ModeTexts.{one_more_sign}
use Rattle.run_commands.proofs.commands.mode_lines.put_signs.Goals as goal

pub loop-asked-preserved : goal.loop-asked-preserved
loop-asked-preserved c =
    one_more_sign (exclusion_sign c.args.modes.now c.args.held) c.loop-asked.asked c.exclusion_sign.result (string_bytes c.args.text.now) (string_bytes c.loop-asked.text) _ _ c.loop-asked.invariant c.in_ok-push.ensures.bytes
    (c.in_ok-push.ensures.ascii c.exclusion_sign.ensures.ascii) c.exclusion_sign.ensures.is

use Rattle.std.proofs.Common.{string_bytes}
use Rattle.std.specs.Fmt.{decimal}
use Rattle.lock_compiler.specs.LockModes.{members_at}
use Rattle.run_commands.specs.commands.ModeLines.{member_text}
use Rattle.run_commands.proofs.meanings.ModeTexts.{whole_line}
use Rattle.run_commands.proofs.commands.mode_lines.put_mode.Goals as goal

pub returns : goal.returns
returns c =
    whole_line member_text (decimal c.args.mode) c.members.result.now (members_at c.args.modes.now c.args.mode) (string_bytes c.args.text.now) (string_bytes c.write.new.self) (string_bytes c.put_members.new.text) _
    c.in_ok-write.ensures.bytes c.in_ok-put_members.ensures c.members.ensures c.in_ok-push_str.ensures.bytes

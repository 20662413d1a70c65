use Rattle.std.proofs.Common.{rules}
use Rattle.line_writer.specs.Lines.{field_text}
use Rattle.line_writer.proofs.lines.Spacing.{spaced-added}
use Rattle.line_writer.proofs.put_spaced.Goals as goal

pub returns-in_ok-put_others : goal.returns-in_ok-put_others
returns-in_ok-put_others c =
    spaced-added field_text c.args.fields.now c.in-Some.others.now c.in-Some.first.now c.args.text.now.items c.put_field.new.text.items c.put_others.new.text.items
    (search rules) c.in_ok-put_field.ensures c.in_ok-put_others.ensures

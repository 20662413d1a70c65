use Rattle.std.proofs.Common.{◌≡◌, drop}
use Rattle.text_lines.specs.Fields.{fields_of}
use Rattle.text_lines.proofs.fields.front_while_blank.Given as goal

abbrev pub invariant-loop-at : goal.invariant-loop-at
invariant-loop-at l = fields_of l.line ≡ fields_of (drop l.at l.line)

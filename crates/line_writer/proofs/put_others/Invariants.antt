use Rattle.std.proofs.Common.{◌≡◌, ◌++◌, ◌∷◌, take}
use Rattle.std.specs.List.{flat_map}
use Rattle.line_writer.specs.Lines.{field_text}
use Rattle.line_writer.proofs.put_others.Given as goal

-- the fields so far were added
abbrev pub invariant-loop-field : goal.invariant-loop-field
invariant-loop-field l = l.text.items ≡ l.fn.text.items ++ flat_map (λ field. 32 ∷ field_text field) (take l.field-index l.fields)

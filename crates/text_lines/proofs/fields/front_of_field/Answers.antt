use Rattle.std.proofs.Common.{◌≡◌, true, length, get_or, drop, arith, ◌∙◌, ap, sym}
use Rattle.std.proofs.lemmas.List.{at_drop_more, drop_all}
use Rattle.text_lines.specs.Fields.{ends_here, is_blank}
use Rattle.text_lines.proofs.lemmas.FieldLemmas.{field_to, not_at_start}
use Rattle.text_lines.proofs.fields.front_of_field.Goals as goal

pub returns-then-is_blank-clause-field : goal.returns-then-is_blank-clause-field
returns-then-is_blank-clause-field c =
    let line = c.args.line.now in
    let blank : is_blank (get_or line c.loop-at.at 0) ≡ true = sym c.is_blank.ensures ∙ c.if-is_blank.true in
    let ends : ends_here (drop c.loop-at.at line) ≡ true = at_drop_more ends_here line c.loop-at.at 0 c.loop-at-test.true ∙ blank in
    field_to line c.loop-at.at (not_at_start line c.loop-at.at c.requires.starts c.requires.some blank) (omega arith) c.loop-at.invariant ends

pub returns-clause-field : goal.returns-clause-field
returns-clause-field c =
    let line = c.args.line.now in
    let ends : ends_here (drop (length line) line) ≡ true = ap ends_here (drop_all (length line) line (omega arith)) in
    field_to line (length line) c.requires.some (omega arith) (λ k lt. c.loop-at.invariant k (omega arith)) ends

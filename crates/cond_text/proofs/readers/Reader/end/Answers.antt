use Rattle.std.proofs.Common.{◌≡◌, length, ap, arith}
use Rattle.std.proofs.lemmas.Bool.Decides.{nat_tests}
use Rattle.std.proofs.lemmas.List.{nil_from_length}
use Rattle.cond_text.proofs.reading.ReaderLemmas.{ended_open, ended_closed}
use Rattle.cond_text.proofs.readers.Reader.end.Goals as goal

pub returns-then-not-is_empty : goal.returns-then-not-is_empty
returns-then-not-is_empty c kind state read =
    ended_open kind c.args.self c.in-Done.conjunction state read c.in-Done.is (λ none. let length_0 : length c.args.self.outer.items ≡ 0 = ap length none in grind (arith, nat_tests))

pub returns : goal.returns
returns c kind state read =
    let length_0 : length c.args.self.outer.items ≡ 0 = grind (arith, nat_tests, c.if-not-is_empty.ensures) in
    ended_closed kind c.args.self c.in-Done.conjunction state _ read c.in-Done.is (nil_from_length _ length_0) (c.in_ok-draft.ensures kind)

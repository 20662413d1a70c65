use Rattle.std.proofs.Common.{Some, ◌∙◌, ap}
use Rattle.std.proofs.lemmas.Result.{IfOk-weaker}
use Rattle.cond_text.specs.Levels.{outside, or_frames}
use Rattle.cond_text.proofs.reading.LevelLemmas.{left_given}
use Rattle.cond_text.proofs.levels.Conjunction.condition.Goals as goal

pub returns-in-Some : goal.returns-in-Some
returns-in-Some c kind base last frames is =
    let given = left_given kind is.or_left c.args.self.or_left c.in-Some.left is.is_or_left c.in-Some.is in
    IfOk-weaker c.either.result _ _ (λ draft kept. (Some given.0, kept, is.is ∙ ap (λ left. or_frames left (outside base)) given.2)) (c.either.ensures kind given.0 last given.1 is.is_last)

use Rattle.std.proofs.Common.{Some, None, ◌∷◌, ◌∙◌, refl, ap}
use Rattle.cond_terms.specs.Machine.{OrLeft, or_read}
use Rattle.cond_text.specs.Drafts.{either_of}
use Rattle.cond_text.specs.Levels.{outside}
use Rattle.cond_text.proofs.reading.LevelLemmas.{or_read-frames}
use Rattle.cond_text.proofs.levels.Conjunction.after_or.Goals as goal

pub returns : goal.returns
returns c kind base last frames is =
    let whole = c.in_ok-left.ensures kind base last frames is in
    let left = either_of whole.0 last in (
      OrLeft left ∷ outside base,
      record {
        or_left = Some left;
        and_left = None;
        nots = 0;
        is_or_left = whole.1;
        is_and_left = tt;
        is_nots = refl;
        is = refl;
      },
      ap (or_read last) whole.2 ∙ or_read-frames whole.0 base last,
    )

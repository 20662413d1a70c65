use Rattle.std.proofs.Common.{refl, ap, ◌∙◌}
use Rattle.cond_terms.specs.Machine.{unit_done}
use Rattle.cond_text.specs.Drafts.{negated_by, both_of}
use Rattle.cond_text.specs.Levels.{outside, or_frames, and_frames}
use Rattle.cond_text.proofs.reading.LevelLemmas.{unit_done-not, unit_done-and}
use Rattle.cond_text.proofs.levels.Level.after_unit.Goals as goal

pub returns : goal.returns
returns c kind base frames written is kept =
    let unit = negated_by is.nots written in
    let negated = c.in_ok-unit.ensures kind is.nots written is.is_nots kept in
    let inner = and_frames is.and_left (or_frames is.or_left (outside base)) in (
      both_of is.and_left unit,
      or_frames is.or_left (outside base),
      record {
        or_left = is.or_left;
        is_or_left = is.is_or_left;
        is_last = c.in_ok-last.ensures kind is.and_left unit is.is_and_left negated;
        is = refl;
      },
      ap (unit_done written) is.is ∙ unit_done-not is.nots written inner ∙ unit_done-and is.and_left is.or_left base unit,
    )

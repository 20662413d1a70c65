use Rattle.std.proofs.Common.{ap, ◌∙◌}
use Rattle.cond_terms.specs.Machine.{close_read, unit_done}
use Rattle.cond_text.specs.Drafts.{either_of}
use Rattle.cond_text.specs.Levels.{outside, or_frames}
use Rattle.cond_text.proofs.reading.LevelLemmas.{close_read-some}
use Rattle.cond_text.proofs.reading.ReaderLemmas.{AreOutside-pop}
use Rattle.cond_text.proofs.readers.after_close.Goals as goal

pub returns : goal.returns
returns c kind base last frames outer is =
    let popped = AreOutside-pop kind c.args.outer.items c.pop.new.self.items c.in-Some.level base c.in-Some.ensures.items outer in
    let whole = c.in_ok-unit.ensures kind base last frames is in
    let unit = either_of whole.0 last in
    let closed = ap (close_read last) (whole.2 ∙ ap (λ b. or_frames whole.0 (outside b)) popped.2) ∙ close_read-some whole.0 popped.0 last in
    (unit_done unit popped.0, c.in_ok-reader.ensures kind popped.1 popped.0 unit popped.4 popped.3 whole.1, closed)

use Rattle.std.proofs.Common.{reverse, Some, ◌∷◌}
use Rattle.cond_terms.specs.Machine.{Group}
use Rattle.cond_text.specs.Readers.{AreOutside}
use Rattle.cond_text.proofs.reading.ReaderLemmas.{AreOutside-push}
use Rattle.cond_text.proofs.readers.after_open.Goals as goal

pub returns : goal.returns
returns c kind base frames outer level =
    let pushed : AreOutside kind (reverse c.push.new.self.items) (Some frames) = rw c.in_ok-push.ensures.items (AreOutside-push kind c.args.outer.items c.args.level base frames outer level) in
    c.due.ensures kind (Some frames) (Group ∷ frames) pushed (c.new.ensures kind (Some frames))

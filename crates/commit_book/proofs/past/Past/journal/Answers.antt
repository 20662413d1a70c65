use Rattle.std.proofs.Common.{◌∙◌, sym, ap}
use Rattle.gx_base.specs.Outcomes.{journal}
use Rattle.commit_book.proofs.books.Pasts.{journal-whole}
use Rattle.commit_book.proofs.past.Past.journal.Goals as goal

pub returns : goal.returns
returns c = c.as_slice.ensures.value ∙ sym (journal-whole c.self.inside.commits.items _ c.self.inside.push_counts.items c.self.inside.pushes.items c.self.invariant) ∙ ap journal c.self.view_is

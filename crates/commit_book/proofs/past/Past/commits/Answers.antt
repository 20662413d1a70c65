use Rattle.std.proofs.Common.{◌∙◌, sym, ap}
use Rattle.gx_base.specs.SerialRuns.{all_counted}
use Rattle.commit_book.proofs.books.Pasts.{all_counted-whole}
use Rattle.commit_book.proofs.past.Past.commits.Goals as goal

pub returns : goal.returns
returns c = c.as_slice.ensures.value ∙ sym (all_counted-whole _ _ _ _ c.self.invariant) ∙ ap all_counted c.self.view_is

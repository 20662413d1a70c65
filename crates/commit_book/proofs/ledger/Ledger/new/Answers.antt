use Rattle.std.proofs.Common.{[], ◌∙◌, ap}
use Rattle.gx_base.specs.Worklists.{with_items}
use Rattle.commit_book.proofs.books.LawfulLemmas.{new_as}
use Rattle.commit_book.proofs.ledger.Ledger.new.Goals as goal

pub invariant_of-result : goal.invariant_of-result
invariant_of-result c =
    new_as c.args.ordered c.args.ready.now _ _ _ _ (ap (with_items []) c.in_ok-from_slice.ensures.items) (c.in_ok-insert_all.ensures.ok ∙ ap (λ ready. with_items ready c.args.ready.now) c.new-worklist.ensures) c.new.ensures c.new-2.ensures

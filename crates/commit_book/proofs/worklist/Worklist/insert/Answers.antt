use Rattle.std.proofs.Common.{◌∙◌, sym, ap}
use Rattle.std.specs.BTreeSet.{insert_key}
use Rattle.gx_base.specs.Worklists.{item_cmp}
use Rattle.commit_book.proofs.ready.ReadySets.{with_item-insert_key}
use Rattle.commit_book.proofs.worklist.Worklist.insert.Goals as goal

pub returns-clause-ok : goal.returns-clause-ok
unfolding item_cmp
returns-clause-ok c =
    c.in_ok-insert.ensures.keys ∙ ap (λ keys. insert_key item_cmp keys c.args.item) c.self.view_is
    ∙ sym (with_item-insert_key c.args.self.now c.args.item)

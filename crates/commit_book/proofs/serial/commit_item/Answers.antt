use Rattle.std.proofs.Common.{◌∙◌, sym, ap}
use Rattle.gx_base.specs.Worklists.{with_items, without_item}
use Rattle.commit_book.proofs.ready.ReadySets.{ready_after-pushes}
use Rattle.commit_book.proofs.serial.commit_item.Goals as goal

pub returns-clause-ready : goal.returns-clause-ready
returns-clause-ready g c =
    c.in_ok-replace_by_pushes.ensures ∙ ap (with_items (without_item c.args.worklist.now c.args.item)) c.deref.ensures.value
    ∙ sym (ready_after-pushes c.args.worklist.now c.args.item c.run_body.new.outcome.steps.items c.run_body.new.outcome.pushes.items)

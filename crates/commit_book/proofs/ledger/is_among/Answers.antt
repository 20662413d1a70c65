use Rattle.std.proofs.Common.{◌∙◌, sym, ap}
use Rattle.std.specs.Ordering.{is_eq}
use Rattle.gx_base.specs.Worklists.{item_cmp}
use Rattle.commit_book.proofs.ready.RisingItems.{among_at, among_after, among_none}
use Rattle.commit_book.proofs.ledger.is_among.Goals as goal

pub returns-then-is_eq : goal.returns-then-is_eq
unfolding item_cmp
returns-then-is_eq c =
    among_at c.args.items.now c.args.item c.loop-other.other-index _ c.loop-other-test.true c.loop-other.invariant (sym (c.is_eq.ensures ∙ ap is_eq c.cmp.ensures) ∙ c.if-is_eq.true)

pub loop-other-preserved : goal.loop-other-preserved
unfolding item_cmp
loop-other-preserved c =
    among_after c.args.items.now c.args.item c.loop-other.other-index _ c.loop-other-test.true c.loop-other.invariant (sym (c.is_eq.ensures ∙ ap is_eq c.cmp.ensures) ∙ c.if-is_eq.false)

pub returns : goal.returns
returns c = among_none c.args.items.now c.args.item c.loop-other.other-index c.loop-other-test.false c.loop-other.invariant

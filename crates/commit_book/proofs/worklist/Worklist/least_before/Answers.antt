use Rattle.std.proofs.Common.{◌∙◌, sym, ap, Some, None}
use Rattle.std.specs.Prelude.{if◌then◌else◌}
use Rattle.std.specs.Ordering.{is_lt}
use Rattle.gx_base.specs.Worklists.{item_cmp}
use Rattle.commit_book.specs.LawfulBooks.{least_before}
use Rattle.commit_book.proofs.ready.RisingItems.{least_before-first}
use Rattle.commit_book.proofs.worklist.Worklist.least_before.Goals as goal

pub returns-then-is_lt : goal.returns-then-is_lt
unfolding item_cmp
returns-then-is_lt c =
    sym
    (ap (λ ready. least_before ready c.args.item) (sym c.self.view_is)
    ∙ least_before-first c.self.inside.items.keys c.in_ok-least.field-0.now c.args.item c.in_ok-least.ensures.first
    ∙ ap (λ b. if b then Some c.in_ok-least.field-0.now else None) (sym (c.is_lt.ensures ∙ ap is_lt c.cmp.ensures) ∙ c.if-is_lt.true))

pub returns-else-is_lt : goal.returns-else-is_lt
unfolding item_cmp
returns-else-is_lt c =
    sym
    (ap (λ ready. least_before ready c.args.item) (sym c.self.view_is)
    ∙ least_before-first c.self.inside.items.keys c.in_ok-least.field-0.now c.args.item c.in_ok-least.ensures.first
    ∙ ap (λ b. if b then Some c.in_ok-least.field-0.now else None) (sym (c.is_lt.ensures ∙ ap is_lt c.cmp.ensures) ∙ c.if-is_lt.false))

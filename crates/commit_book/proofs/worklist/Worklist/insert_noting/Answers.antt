use Rattle.std.proofs.Common.{◌≡◌, ◌∙◌, sym, ap, refl, subst}
use Rattle.gx_base.specs.Worklists.{with_items, without_items}
use Rattle.commit_book.proofs.ready.ReadySets.{one_more_ready}
use Rattle.commit_book.proofs.ready.RisingItems.{IsNoted, noted_first, noted_more, noted_only, noted_as, with_present, taken_back}
use Rattle.commit_book.proofs.worklist.Worklist.insert_noting.Goals as goal
use Rattle.commit_book.proofs.worklist.Worklist.insert_noting.Goals.{then-not-has+in_ok-push+in_ok-insert, else-not-has}

pub loop-item-init : goal.loop-item-init
unfolding with_items
loop-item-init c = record { so_far = refl; noted = subst (IsNoted c.args.self.now c.args.self.now) (sym c.clear.ensures.items) (noted_first c.args.self.now c.requires) }

pub returns-in_err-push-clause-back : goal.returns-in_err-push-clause-back
returns-in_err-push-clause-back c = ap (without_items c.loop-item.self) c.in_err-push.ensures.items ∙ taken_back _ _ _ c.requires c.loop-item.invariant.noted

pub returns-in_err-insert-clause-back : goal.returns-in_err-insert-clause-back
returns-in_err-insert-clause-back c =
    (λ i. without_items (c.in_err-insert.ensures.err i) (c.in_ok-push.ensures.items i))
    ∙ taken_back _ _ _ c.requires (noted_only _ _ _ _ c.loop-item.invariant.noted (sym c.has.ensures ∙ c.if-not-has.true))

pub loop-item-preserved : goal.loop-item-preserved
loop-item-preserved c =
    elim c.if-not-has.branch [
      | then-not-has+in_ok-push+in_ok-insert w ↦
          record {
            so_far =
                one_more_ready c.args.items.now c.args.self.now c.loop-item.self c.if-not-has.self c.loop-item.item-index _ c.loop-item-test.true c.loop-item.invariant.so_far (w.self-is ∙ w.in_ok-insert.ensures.ok);
            noted =
                noted_as c.args.self.now _ c.if-not-has.self _ c.if-not-has.added.items (w.self-is ∙ w.in_ok-insert.ensures.ok)
                (let e : c.if-not-has.added.items ≡ w.push.new.self.items = cc in e ∙ w.in_ok-push.ensures.items)
                (noted_more c.args.self.now c.loop-item.self c.loop-item.added.items _ c.loop-item.invariant.noted (sym c.has.ensures ∙ w.if-not-has.true));
          }
      | else-not-has w ↦
          record {
            so_far =
                one_more_ready c.args.items.now c.args.self.now c.loop-item.self c.if-not-has.self c.loop-item.item-index _ c.loop-item-test.true c.loop-item.invariant.so_far
                (w.self-is ∙ sym (with_present c.loop-item.self _ c.loop-item.invariant.noted.rising (sym c.has.ensures ∙ w.if-not-has.false)));
            noted =
                noted_as c.args.self.now c.loop-item.self c.if-not-has.self c.loop-item.added.items c.if-not-has.added.items w.self-is
                (let e : c.if-not-has.added.items ≡ c.loop-item.added.items = cc in e) c.loop-item.invariant.noted;
          }
    ]

pub returns-clause-back : goal.returns-clause-back
returns-clause-back c = taken_back _ _ _ c.requires c.loop-item.invariant.noted

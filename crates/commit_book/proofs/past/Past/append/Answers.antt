use Rattle.std.proofs.Common.{◌∷◌, ◌++◌, [], length, ◌∙◌, refl, ap}
use Rattle.commit_book.specs.StoredBooks.{whole_commit}
use Rattle.commit_book.proofs.books.Pasts.{appended_adds_up, appended_whole}
use Rattle.commit_book.proofs.past.Past.append.Goals as goal

pub invariant_of-self-2 : goal.invariant_of-self-2
invariant_of-self-2 c =
    appended_adds_up _ _ c.args.commit _ _ c.args.log.now _ _ _ _ _ c.args.pushes.now
    (c.in_ok-push.ensures.items ∙ ap (λ l. l ++ c.args.commit ∷ []) c.in_ok-reserve.ensures.items)
    c.in_ok-extend_from_slice.ensures.items
    (c.in_ok-push-2.ensures.items ∙ ap (λ l. l ++ length c.args.pushes.now ∷ []) c.in_ok-reserve-2.ensures.items)
    (c.in_ok-extend_from_slice-2.ensures.items ∙ ap (λ l. l ++ c.args.pushes.now) c.in_ok-reserve-3.ensures.items)
    c.self.invariant c.requires refl

pub returns-clause-ok : goal.returns-clause-ok
returns-clause-ok c =
    appended_whole _ _ c.args.commit _ _ c.args.log.now _ _ _ _ _ c.args.pushes.now
    (c.in_ok-push.ensures.items ∙ ap (λ l. l ++ c.args.commit ∷ []) c.in_ok-reserve.ensures.items)
    c.in_ok-extend_from_slice.ensures.items
    (c.in_ok-push-2.ensures.items ∙ ap (λ l. l ++ length c.args.pushes.now ∷ []) c.in_ok-reserve-2.ensures.items)
    (c.in_ok-extend_from_slice-2.ensures.items ∙ ap (λ l. l ++ c.args.pushes.now) c.in_ok-reserve-3.ensures.items)
    c.self.invariant c.requires refl
    ∙ ap (λ l. l ++ whole_commit c.args.commit c.args.log.now c.args.pushes.now ∷ []) c.self.view_is

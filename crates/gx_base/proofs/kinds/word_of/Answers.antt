use Rattle.std.proofs.Common.{◌≡◌, ◌-◌, [], slice_index_or, ◌∙◌, sym, subst}
use Rattle.gx_base.specs.Methods.{word_of}
use Rattle.gx_base.proofs.methods.MethodWords.{word_found}
use Rattle.gx_base.proofs.kinds.word_of.Goals as goal

pub returns-in-Some : goal.returns-in-Some
returns-in-Some c = subst (λ first. (slice_index_or c.words_of.result.now (c.args.method - first) record { ref_ptr = (0, 0); now = [] }).now ≡ word_of c.args.method) (sym c.first_method.ensures)
    (word_found (λ word. word.now) c.words_of.result.now c.in-Some.kind c.args.method _ (sym c.kind_with.ensures ∙ c.in-Some.is) c.words_of.ensures)

use Rattle.std.proofs.Common.{◌∙◌}
use Rattle.gx_base.proofs.methods.MethodSearch.{find-methods}
use Rattle.gx_base.proofs.kinds.method_of.Goals as goal

pub returns : goal.returns
returns c = c.first_with_word.ensures ∙ find-methods c.args.kind c.args.word.now _ _ c.first_method-first.ensures c.method_count.ensures

use Rattle.std.proofs.Common.{◌∙◌}
use Rattle.cond_terms.proofs.methods.MethodNames.{find-methods}
use Rattle.cond_terms.proofs.words.method_named.Goals as goal

pub returns : goal.returns
returns c = c.first_named.ensures ∙ find-methods c.args.kind c.args.word.now

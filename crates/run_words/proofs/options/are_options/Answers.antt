use Rattle.std.proofs.Common.{sym, ◌∙◌, string_bytes}
use Rattle.run_words.proofs.run_options.GivenValues.{few_options}
use Rattle.run_words.proofs.options.are_options.Goals as goal

pub returns : goal.returns
returns c = c.is_empty.ensures ∙ sym (few_options string_bytes c.options.rest.now c.in_default.ensures.none) ∙ c.options.invariant

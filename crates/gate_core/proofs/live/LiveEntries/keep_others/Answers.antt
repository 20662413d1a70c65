use Rattle.std.proofs.Common.{not, rules}
use Rattle.std.proofs.lemmas.Fn.{filter_same}
use Rattle.gate_core.specs.Entries.{is_of}
use Rattle.gate_core.proofs.live.LiveEntries.keep_others.Goals as goal

pub returns : goal.returns
returns c = filter_same _ (λ e. not (is_of c.args.worker c.args.iter e)) _ (λ x b f' r. search rules) _ _ c.retain.ensures.filtered

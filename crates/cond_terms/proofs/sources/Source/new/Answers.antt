use Rattle.std.proofs.Common.{refl}
use Rattle.cond_terms.specs.Sources.{words_known}
use Rattle.cond_terms.proofs.sources.Source.new.Goals as goal

pub returns : goal.returns
unfolding words_known
returns c = record { kind = refl; known = refl; ahead = refl; cut = refl }

use Rattle.preflow_push.proofs.start_states.ReadyLaws.{starts, excesses-read}
use Rattle.preflow_push.proofs.laws.the_start_is_a_full_source.Goals as goal

pub returns-clause-start : goal.returns-clause-start
returns-clause-start c = starts

pub returns-clause-exact : goal.returns-clause-exact
returns-clause-exact c = excesses-read

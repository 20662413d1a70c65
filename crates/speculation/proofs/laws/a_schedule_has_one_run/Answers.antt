use Rattle.speculation.proofs.EventLemmas.{is_run, one_run, is_whole, one_whole}
use Rattle.speculation.proofs.laws.a_schedule_has_one_run.Goals as goal

pub returns-clause-is_one : goal.returns-clause-is_one
returns-clause-is_one c = is_run

pub returns-clause-no_other : goal.returns-clause-no_other
returns-clause-no_other c = one_run

pub returns-clause-is_one_whole : goal.returns-clause-is_one_whole
returns-clause-is_one_whole c = is_whole

pub returns-clause-no_other_whole : goal.returns-clause-no_other_whole
returns-clause-no_other_whole c = one_whole

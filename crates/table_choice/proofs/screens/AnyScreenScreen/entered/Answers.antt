use Rattle.table_choice.proofs.sorts.KeptSuits.{kept}
use Rattle.table_choice.proofs.screens.AnyScreenScreen.entered.Goals as goal

pub returns-in-Lock-clause-same : goal.returns-in-Lock-clause-same
returns-in-Lock-clause-same g c = kept c.args.self.now c.in-Lock.locks _ c.entered.new.self c.in-Lock.is c.deref_mut.ensures.value c.entered.ensures.same

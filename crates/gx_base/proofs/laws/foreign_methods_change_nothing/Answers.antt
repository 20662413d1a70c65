use Rattle.gx_base.proofs.object_kinds.KnownLaws.{foreign-ChangesNothing}
use Rattle.gx_base.proofs.laws.foreign_methods_change_nothing.Goals as goal

pub returns : goal.returns
returns c = foreign-ChangesNothing

use Rattle.gx_base.proofs.table_lemmas.BelowLaws.{below-IsValid}
use Rattle.gx_base.proofs.laws.below_valid_is_valid.Goals as goal

pub returns : goal.returns
returns c = below-IsValid

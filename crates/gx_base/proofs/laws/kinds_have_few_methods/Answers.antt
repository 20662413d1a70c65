use Rattle.gx_base.proofs.methods.MethodPlaces.{few_methods, methods_apart}
use Rattle.gx_base.proofs.laws.kinds_have_few_methods.Goals as goal

pub returns : goal.returns
returns c = record { few = few_methods; apart = methods_apart }

use Rattle.cond_lattice.proofs.bounds.Implied.{holds-simple}
use Rattle.cond_lattice.proofs.laws.simple_holds_by_its_inequalities.Goals as goal

pub returns : goal.returns
returns c = holds-simple

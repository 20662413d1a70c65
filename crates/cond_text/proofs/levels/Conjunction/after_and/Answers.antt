use Rattle.std.proofs.Common.{Some, ◌∷◌, refl, ap}
use Rattle.cond_terms.specs.Machine.{AndLeft}
use Rattle.cond_text.proofs.levels.Conjunction.after_and.Goals as goal

pub returns : goal.returns
returns c kind base last frames is = record {
  or_left = is.or_left;
  and_left = Some last;
  nots = 0;
  is_or_left = is.is_or_left;
  is_and_left = is.is_last;
  is_nots = refl;
  is = ap (λ fs. AndLeft last ∷ fs) is.is;
}

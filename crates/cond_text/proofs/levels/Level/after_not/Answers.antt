use Rattle.std.proofs.Common.{◌≡◌, suc, min, ◌∷◌, ap, arith}
use Rattle.cond_terms.specs.Machine.{Negation}
use Rattle.cond_text.proofs.levels.Level.after_not.Goals as goal
use Rattle.cond_text.proofs.levels.Level.after_not.Goals.{then-nots-lt-MOST_NOTS, else-nots-lt-MOST_NOTS}

pub returns : goal.returns
returns c kind base frames is =
    let count : c.if-nots-lt-MOST_NOTS.nots ≡ min (suc is.nots) 65 =
    elim c.if-nots-lt-MOST_NOTS.branch [ then-nots-lt-MOST_NOTS w ↦ omega arith | else-nots-lt-MOST_NOTS w ↦ omega arith ] in
    record {
      or_left = is.or_left;
      and_left = is.and_left;
      nots = suc is.nots;
      is_or_left = is.is_or_left;
      is_and_left = is.is_and_left;
      is_nots = count;
      is = ap (λ fs. Negation ∷ fs) is.is;
    }

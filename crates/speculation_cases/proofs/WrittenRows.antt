-- What stands in the rows of a state in which numbers were written.
use Rattle.std.specs.Prelude.{◌≡◌, ℕ, ℤ, pos, cond, List, [], ◌∷◌}
use Rattle.std.proofs.Common.{◌∙◌, ap}
use Rattle.std.specs.FinMap as finite
use Rattle.gx_base.specs.declared.kinds.Kind.{Kind}
use Rattle.gx_base.specs.States.{row_cmp, first_or_zero, number_at}
use Rattle.gx_base.proofs.states.Registers.{same_row, number_at-with}
use Rattle.speculation_cases.specs.Beginnings.{WrittenNumbers, written}

abbrev pub look : WrittenNumbers → ℕ × ℤ → ℤ
look [] q = pos 0
look (w ∷ ws) q = cond (same_row q w.0) w.1 (look ws q)

pub reads : (kind : Kind) (ws : WrittenNumbers) (q : ℕ × ℤ) → number_at (written kind ws) q ≡ look ws q
reads kind [] q = ap first_or_zero (finite.get-empty {X = List ℤ} row_cmp q)
reads kind (w ∷ ws) q = number_at-with (written kind ws) w.0 w.1 q ∙ ap (cond (same_row q w.0) w.1) (reads kind ws q)

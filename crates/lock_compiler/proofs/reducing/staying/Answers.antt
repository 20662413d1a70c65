use Rattle.std.proofs.Common.{sym, ◌∙◌}
use Rattle.lock_compiler.specs.Reduced.{mode_stays}
use Rattle.lock_compiler.proofs.reduction.Below.{one_more_number}
use Rattle.lock_compiler.proofs.reducing.staying.Goals as goal
use Rattle.lock_compiler.proofs.reducing.staying.Goals.{then-mode_stays+in_ok-push, else-mode_stays}

pub loop-mode-preserved : goal.loop-mode-preserved
loop-mode-preserved c =
    let more = one_more_number (mode_stays c.args.modes.now) c.loop-mode.mode c.loop-mode.numbers.items c.loop-mode.invariant in
    elim c.if-mode_stays.branch [
      | then-mode_stays+in_ok-push w ↦ rw w.numbers-is (w.in_ok-push.ensures.items ∙ more.0 (sym c.mode_stays.ensures ∙ w.if-mode_stays.true))
      | else-mode_stays w ↦ rw w.numbers-is (more.1 (sym c.mode_stays.ensures ∙ w.if-mode_stays.false))
    ]

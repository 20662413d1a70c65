use Rattle.std.proofs.Common.{◌++◌, List, sym, ap, ◌∙◌}
use Rattle.lock_compiler.specs.LockModes.{Member}
use Rattle.lock_compiler.proofs.reduction.Alike.{one_more_like}
use Rattle.lock_compiler.proofs.reducing.members_like.Goals as goal
use Rattle.lock_compiler.proofs.reducing.members_like.Goals.{then-are_alike+in_ok-extend_from_slice, else-are_alike}

pub loop-other-preserved : goal.loop-other-preserved
loop-other-preserved c =
    let more = one_more_like c.args.modes.now c.args.mode c.loop-other.other c.loop-other.members.items c.loop-other.invariant in
    elim c.if-are_alike.branch [
      | then-are_alike+in_ok-extend_from_slice w ↦
          rw w.members-is (w.in_ok-extend_from_slice.ensures.items ∙ ap (λ (ms : List Member). c.loop-other.members.items ++ ms) w.members.ensures ∙ more.0 (sym c.are_alike.ensures ∙ w.if-are_alike.true))
      | else-are_alike w ↦ rw w.members-is (more.1 (sym c.are_alike.ensures ∙ w.if-are_alike.false))
    ]

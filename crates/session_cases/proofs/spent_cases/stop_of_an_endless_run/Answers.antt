use Rattle.std.proofs.Common.{refl, sym, ap, length, ◌∙◌}
use Rattle.session_cases.proofs.spent_cases.stop_of_an_endless_run.Goals as goal

pub play-requires-clause-new : goal.play-requires-clause-new
play-requires-clause-new c = c.in_ok-rooms.ensures.new _ (c.new-op.ensures.rooms ∙ sym (ap length c.new-gates.ensures.items)) refl

use Rattle.std.proofs.Common.{◌∙◌, ap}
use Rattle.schedules.specs.Draws.{next_draw_state}
use Rattle.schedules.specs.AffineMaps.{map_value_at}
use Rattle.schedules.proofs.states.AffineLaws.{same_state}
use Rattle.schedules.proofs.states.Steps.{times, state_after-times, times-same, halved}
use Rattle.schedules.proofs.affine.steps.Goals as goal

pub loop-left-init : goal.loop-left-init
unfolding map_value_at
loop-left-init c x lt =
    times-same (map_value_at c.next-square.result) next_draw_state c.next-square.ensures c.args.count (map_value_at (record { factor = 1; term = 0 }) x)
    ∙ ap (times next_draw_state c.args.count) (same_state x 18446744073709551616 lt) ∙ state_after-times x c.args.count

pub loop-left-preserved : goal.loop-left-preserved
loop-left-preserved c x lt =
    halved (map_value_at c.loop-left.square) (map_value_at c.after-square.result) c.after-square.ensures c.loop-left.left (map_value_at c.loop-left.done x) (map_value_at c.if_odd-done.result x) (c.if_odd-done.ensures x)
    ∙ c.loop-left.invariant x lt

use Rattle.std.specs.Prelude.{ℕ, refl}
use Rattle.std.proofs.Common.{ap, ◌∙◌, to_z, of_z}
use Rattle.std.specs.Int.{w64}
use Rattle.gx_base.specs.States.{State}
use Rattle.gx_base.specs.Replays.{in_rooms}
use Rattle.preflow_push.specs.FlowStates.{flow_in}
use Rattle.preflow_push.specs.Starts.{with_height}
use Rattle.gx_base.specs.FlowKind.{flow_sort}
use Rattle.preflow_push.proofs.start_states.FlowWrites.{nothing_at_first}
use Rattle.preflow_push.proofs.starts.set_up.Goals as goal

pub pour-requires-clause-no_flow : goal.pour-requires-clause-no_flow
pour-requires-clause-no_flow c = λ arc.
    ap (λ (s : ℕ → State). flow_in s arc) c.in_ok-relabel.ensures
    ∙ ap (λ (s : ℕ → State). flow_in (with_height (to_z w64 (of_z w64 c.args.net.now.source)) (to_z w64 (of_z w64 c.args.net.now.nodes)) s) arc) (ap in_rooms c.requires)
    ∙ nothing_at_first (to_z w64 (of_z w64 c.args.net.now.source)) (to_z w64 (of_z w64 c.args.net.now.nodes)) arc flow_sort refl

-- A room that is missing counts as empty.
use Rattle.std.proofs.Common.{◌≡◌, ℕ, ◌≤◌, ℤ, pos, List, length, map, sym, ap, ◌∙◌, arith}
use Rattle.std.specs.FinMap as finite
use Rattle.std.proofs.lemmas.List.{length-map, get_or_past}
use Rattle.gx_base.specs.States.{State, row_cmp, first_or_zero, number_at}
use Rattle.gx_base.specs.Replays.{in_rooms, no_state}
use Rattle.flow_graph.specs.declared.shard.FlowShard.{FlowShard}
use Rattle.flow_graph.specs.FlowState.{state_of}

pub missing_room : (shards : List FlowShard) (room place : ℕ) (key : ℕ × ℤ) → room ≡ place → length shards ≤ room → pos 0 ≡ number_at (in_rooms (map state_of shards) place) key
missing_room shards room place key e past =
    let none : length (map state_of shards) ≤ place = omega (arith, length-map shards state_of) in
    sym (ap (λ (s : State). number_at s key) (get_or_past (map state_of shards) place no_state none) ∙ ap first_or_zero (finite.get-empty row_cmp key))

use Rattle.std.proofs.Common.{◌≡◌, ◌+◌, pos, ◌+ℤ◌, get_or, refl, to_z, of_z, arith}
use Rattle.std.proofs.lemmas.Int.{ints}
use Rattle.std.specs.Int.{w64}
use Rattle.flow_files.specs.declared.network.Arc.{Arc}
use Rattle.preflow_push.proofs.start_states.FlowWrites.{shard_rooms}
use Rattle.preflow_push.proofs.start_states.FlowPours.{poured_more, no_flow_more}
use Rattle.preflow_push.proofs.starts.pour.Goals as goal

pub loop-at-init : goal.loop-at-init
loop-at-init c = record { poured_so_far = refl; no_flow = λ arc above. c.requires.no_flow (pos arc) }

no_arc : Arc
no_arc = record { from = pos 0; to = pos 0; cap = pos 0 }

pub loop-at-preserved : goal.loop-at-preserved
unfolding no_arc
loop-at-preserved c =
    let number : to_z w64 (of_z w64 (to_z w64 c.loop-at.at +ℤ pos 1)) ≡ pos (c.loop-at.at + 1) = omega (arith, ints) in
    record {
      poured_so_far = poured_more _ _ c.loop-at.at c.args.arcs.now _ _ _ _ number c.loop-at-test.true c.loop-at.invariant.poured_so_far c.in_ok-fill_from.ensures;
      no_flow = λ m above.
          no_flow_more (to_z w64 (of_z w64 c.args.source)) _ c.loop-at.at m (get_or c.args.arcs.now c.loop-at.at no_arc) (shard_rooms c.loop-at.shards) (shard_rooms c.fill_from.new.shards)
          number above (c.loop-at.invariant.no_flow m (omega arith)) c.in_ok-fill_from.ensures;
    }

use Rattle.std.proofs.Common.{◌≡◌, ◌+◌, ◌≤◌, length}
use Rattle.flow_files.specs.FlowReading.{read_from, saids_of, flow_of, state, AreSmall}
use Rattle.flow_files.proofs.reading.read_lines.Given as goal

abbrev pub invariant-loop-rest : goal.invariant-loop-rest
invariant-loop-rest l = record {
  so_far : read_from (saids_of l.rest) l.next (state l.seen) ≡ flow_of l.bytes;
  small : AreSmall (state l.seen);
  number : l.next + length l.rest ≤ length l.bytes + 1;
}

abbrev pub decreases-loop-rest : goal.decreases-loop-rest
decreases-loop-rest l = length l.rest

use Rattle.std.proofs.Common.{◌≡◌, ◌≤◌, length, take}
use Rattle.gate_core.specs.Entries.{others_than}
use Rattle.gate_core.proofs.live.count_others_than.Given as goal

-- the others so far are counted
abbrev pub invariant-loop-entry : goal.invariant-loop-entry
invariant-loop-entry l = record { counted : l.others ≡ length (others_than l.worker l.iter (take l.entry-index l.entries)); within : l.others ≤ l.entry-index }

use Rattle.std.proofs.Common.{◌≡◌, false, drop}
use Rattle.gate_core.specs.Entries.{has_entry}
use Rattle.gate_core.proofs.entries.last_place.Given as goal

-- the entries from the place on are of other iterations
abbrev pub invariant-loop-place : goal.invariant-loop-place
invariant-loop-place l = has_entry l.worker l.iter (drop l.place l.entries) ≡ false

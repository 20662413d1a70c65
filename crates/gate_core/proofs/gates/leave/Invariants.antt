use Rattle.std.proofs.Common.{◌++◌, ◌↔◌, ℕ, take, drop}
use Rattle.gx_base.specs.TableRows.{RowMap}
use Rattle.gate_core.specs.Entries.{others_than}
use Rattle.gate_core.proofs.gates.leave.Given as goal

-- the entries of the iteration from the place on have left
abbrev pub invariant-loop-place : goal.invariant-loop-place
invariant-loop-place g l = record {
  entries : g.S.Screen.stands_for l.screen (take l.place l.live ++ others_than l.worker l.iter (drop l.place l.live));
  same : (kind : ℕ) (table : RowMap) → g.S.Screen.suits l.fn.screen kind table ↔ g.S.Screen.suits l.screen kind table;
}

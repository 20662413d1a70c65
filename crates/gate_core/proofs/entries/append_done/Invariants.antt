use Rattle.std.proofs.Common.{◌≡◌, ◌+◌, ◌-◌, ◌≤◌, ◌++◌, if◌then◌else◌, length, take, vec_len, vec_capacity}
use Rattle.gate_core.specs.Entries.{has_entry, entries_of, done_under}
use Rattle.gate_core.proofs.entries.append_done.Given as goal

-- the entries so far of the iteration are done
abbrev pub invariant-loop-entry : goal.invariant-loop-entry
invariant-loop-entry l = record {
  items : l.done.items ≡ l.fn.done.items ++ done_under l.number (entries_of l.worker l.iter (take l.entry-index l.live));
  left : l.mark ≡ (if has_entry l.worker l.iter (take l.entry-index l.live) then l.number + 1 else l.fn.mark);
  capacity : vec_capacity l.done ≡ vec_capacity l.fn.done;
  room : vec_len l.done + (length l.live - l.entry-index) ≤ vec_capacity l.done;
}

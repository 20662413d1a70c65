use Rattle.std.proofs.Common.{◌≡◌, ◌≤◌, ◌<◌, ◌-◌, length, IfSome}
use Rattle.gx_io.specs.Files.{HasCome}
use Rattle.gx_io.proofs.files.read_whole.Given as goal

abbrev pub invariant-loop-bytes : goal.invariant-loop-bytes
invariant-loop-bytes g l = record {
  started : g.F.Files.is_started l.files;
  piece : 0 < length l.piece.items;
  within : length l.bytes.items ≤ l.limit;
  so_far : IfSome (g.F.Files.holds l.fn.files l.name) (λ all. HasCome all (g.F.Files.left l.files) l.bytes.items);
  kept : g.F.Files.faults l.files ≡ g.F.Files.faults l.fn.files;
  holds : g.F.Files.holds l.files ≡ g.F.Files.holds l.fn.files;
}

abbrev pub decreases-loop-bytes : goal.decreases-loop-bytes
decreases-loop-bytes g l = l.limit - length l.bytes.items

use Rattle.std.proofs.Common.{◌≡◌, take, map}
use Rattle.lock_compiler.specs.Reduced.{merged_mode}
use Rattle.lock_compiler.specs.Wants.{modes_of}
use Rattle.lock_compiler.proofs.reducing.all_merged.Given as goal

abbrev pub invariant-loop-mode : goal.invariant-loop-mode
invariant-loop-mode l = modes_of l.all.items ≡ map (merged_mode l.modes) (take l.mode-index l.numbers)

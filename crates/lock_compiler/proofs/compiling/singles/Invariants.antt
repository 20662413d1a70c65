use Rattle.std.proofs.Common.{◌≡◌, take, map}
use Rattle.gx_base.specs.TableRows.{row_of}
use Rattle.lock_compiler.specs.Compiled.{single_mode}
use Rattle.lock_compiler.specs.Wants.{modes_of}
use Rattle.lock_compiler.proofs.compiling.singles.Given as goal

abbrev pub invariant-loop-member : goal.invariant-loop-member
invariant-loop-member l = modes_of l.modes.items ≡ map (single_mode (row_of l.table) l.members) (take l.member-index l.members)

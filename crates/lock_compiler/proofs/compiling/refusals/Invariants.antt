use Rattle.std.proofs.Common.{◌≡◌, take, map}
use Rattle.gx_base.specs.TableRows.{row_of}
use Rattle.lock_compiler.specs.Compiled.{members_refuse}
use Rattle.lock_compiler.proofs.compiling.refusals.Given as goal

abbrev pub invariant-loop-asked : goal.invariant-loop-asked
invariant-loop-asked l = l.refuses.items ≡ map (members_refuse (row_of l.table) l.held) (take l.asked-index l.members)

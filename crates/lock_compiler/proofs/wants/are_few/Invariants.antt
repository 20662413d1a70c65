use Rattle.std.proofs.Common.{◌<◌, ◌^◌, length, take}
use Rattle.std.specs.Prelude.{All}
use Rattle.lock_compiler.specs.declared.wants.MethodWants.{MethodWants}
use Rattle.lock_compiler.proofs.wants.are_few.Given as goal

abbrev pub invariant-loop-list : goal.invariant-loop-list
invariant-loop-list l = All (λ (list : MethodWants). length list.wants.items < 2 ^ 32) (take l.list-index l.lists)

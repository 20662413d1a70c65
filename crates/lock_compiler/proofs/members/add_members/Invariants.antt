use Rattle.std.proofs.Common.{◌≡◌, ◌++◌, ℕ, Some, take, map}
use Rattle.lock_compiler.proofs.members.add_members.Given as goal

abbrev pub invariant-loop-number : goal.invariant-loop-number
invariant-loop-number l = l.members.items ≡ l.initial.members.items ++ map (λ (number : ℕ). (l.method, Some number)) (take l.number-index l.numbers)

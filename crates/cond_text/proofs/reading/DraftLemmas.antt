-- How deep conditions under `not`s are.
use Rattle.std.proofs.Common.{ℕ, zero, suc, ◌≤◌, arith}
use Rattle.cond_syntax.specs.WrittenConditions.{WrittenCondition, depth_of}
use Rattle.cond_text.specs.Drafts.{negated_by}

pub depth_of-negated_by : (nots : ℕ) (written : WrittenCondition) → nots ≤ depth_of (negated_by nots written)
depth_of-negated_by zero written = omega arith
depth_of-negated_by (suc nots) written = let inner = depth_of-negated_by nots written in omega arith

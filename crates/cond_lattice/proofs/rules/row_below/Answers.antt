use Rattle.std.proofs.Common.{rules}
use Rattle.cond_lattice.proofs.order.Derived.{row_rules, row_sound}
use Rattle.cond_lattice.proofs.rules.row_below.Goals as goal

pub returns-then-is_derived-clause-rules : goal.returns-then-is_derived-clause-rules
returns-then-is_derived-clause-rules c = row_rules _ _ _ (search rules)

pub returns-then-is_derived-clause-sound : goal.returns-then-is_derived-clause-sound
returns-then-is_derived-clause-sound c = row_sound _ _ _ (search rules)

pub returns-else-is_derived-clause-rules : goal.returns-else-is_derived-clause-rules
returns-else-is_derived-clause-rules c = row_rules _ _ _ (search rules)

use Rattle.std.proofs.Common.{◌+◌, ◌*◌}
use Rattle.gx_base.specs.Conditions.{condition_of}
use Rattle.cond_lattice.specs.AnswerRows.{parts_of}
use Rattle.cond_lattice.proofs.decisions.+decisions.Given as goal

-- the one goes on to the other with the same pair, and that one back with a smaller pair

abbrev pub decreases-is_derived : goal.decreases-is_derived
decreases-is_derived l = 2 * (parts_of (condition_of l.c.now) + parts_of (condition_of l.d.now)) + 1

abbrev pub decreases-is_derived_apart : goal.decreases-is_derived_apart
decreases-is_derived_apart l = 2 * (parts_of (condition_of l.c.now) + parts_of (condition_of l.d.now))

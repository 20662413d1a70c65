use Rattle.gx_base.specs.Conditions.{condition_of}
use Rattle.cond_lattice.specs.AnswerRows.{parts_of}
use Rattle.cond_lattice.proofs.answers.+put_unit_row.Given as goal

abbrev pub decreases-put_unit_row : goal.decreases-put_unit_row
decreases-put_unit_row l = parts_of (condition_of l.d.now)

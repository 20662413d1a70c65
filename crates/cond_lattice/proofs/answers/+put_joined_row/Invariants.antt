use Rattle.gx_base.specs.Conditions.{condition_of}
use Rattle.cond_lattice.specs.AnswerRows.{parts_of}
use Rattle.cond_lattice.proofs.answers.+put_joined_row.Given as goal

abbrev pub decreases-put_joined_row : goal.decreases-put_joined_row
decreases-put_joined_row l = parts_of (condition_of l.d.now)

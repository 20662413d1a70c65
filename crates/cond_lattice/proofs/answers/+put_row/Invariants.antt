use Rattle.gx_base.specs.Conditions.{condition_of}
use Rattle.cond_lattice.specs.AnswerRows.{parts_of}
use Rattle.cond_lattice.proofs.answers.+put_row.Given as goal

abbrev pub decreases-put_row : goal.decreases-put_row
decreases-put_row l = parts_of (condition_of l.c.now)

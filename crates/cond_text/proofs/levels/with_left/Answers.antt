use Rattle.cond_text.proofs.reading.LevelLemmas.{left_given, left_missing}
use Rattle.cond_text.proofs.levels.with_left.Goals as goal

pub returns-in-Some : goal.returns-in-Some
returns-in-Some c kind left written is kept =
    let given = left_given kind left c.args.and_left c.in-Some.left is c.in-Some.is in
    rw given.2 (c.both.ensures kind given.0 written given.1 kept)

pub returns-in-None : goal.returns-in-None
returns-in-None c kind left written is kept =
    let missing = left_missing kind left c.args.and_left is c.in-None.is in
    rw missing kept

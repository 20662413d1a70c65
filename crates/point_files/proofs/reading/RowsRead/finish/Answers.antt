use Rattle.std.proofs.Common.{arith}
use Rattle.point_files.proofs.files.FileAnswers.{is_readable, is_too_large}
use Rattle.point_files.proofs.reading.RowsRead.finish.Goals as goal

pub returns-then-self-gt-MOST_POINTS : goal.returns-then-self-gt-MOST_POINTS
returns-then-self-gt-MOST_POINTS c = λ bytes read. is_too_large bytes c.args.self read (omega arith)

pub returns : goal.returns
returns c = λ bytes read. is_readable bytes c.args.self read (omega arith)

use Rattle.commit_book.specs.SerialRuns.{operator_of}
use Rattle.commit_book.proofs.runs.LeastFirst.{determined}
use Rattle.commit_book.proofs.serial.order_is_determined.Goals as goal

pub returns : goal.returns
returns g c = determined (operator_of g.O.Operator c.args.op.now)

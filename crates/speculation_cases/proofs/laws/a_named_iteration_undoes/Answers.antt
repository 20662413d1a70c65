use Rattle.speculation_cases.proofs.ReaderTurns.{reader_in_turn}
use Rattle.speculation_cases.proofs.laws.a_named_iteration_undoes.Goals as goal

pub returns : goal.returns
returns c = reader_in_turn

use Rattle.speculation_cases.proofs.NewCases.{diamond_is_new, setters_are_new, reader_is_new}
use Rattle.speculation_cases.proofs.laws.the_cases_begin_new.Goals as goal

pub returns-clause-diamond : goal.returns-clause-diamond
returns-clause-diamond c = diamond_is_new

pub returns-clause-setters : goal.returns-clause-setters
returns-clause-setters c = setters_are_new

pub returns-clause-reader : goal.returns-clause-reader
returns-clause-reader c = reader_is_new

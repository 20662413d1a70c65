use Rattle.speculation_cases.proofs.SerialDiamond.{diamond_is_serial, diamond_ends}
use Rattle.speculation_cases.proofs.laws.the_diamond_is_serial.Goals as goal

pub returns-clause-serial : goal.returns-clause-serial
returns-clause-serial c = λ table turns h. diamond_is_serial table turns h

pub returns-clause-ends : goal.returns-clause-ends
returns-clause-ends c = λ table turns h. diamond_ends table turns h

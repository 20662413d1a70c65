-- Calls by number, some of which are to fail.
use Rattle.std.specs.Prelude.{ℕ, ◌+◌, min, List, Contains}
use Rattle.gx_io.specs.declared.numbered_calls.NumberedCalls.{NumberedCalls}

-- the number of the next call, from 0, and the numbers of those that are to fail
pub record Schedule : Type 0 where
  pub next : ℕ
  pub failing : List ℕ

-- what calls were made, and are to fail
abbrev pub schedule : NumberedCalls → Schedule
schedule calls = record { next = calls.made; failing = calls.failing.items }

-- no call was made yet
abbrev pub fresh : List ℕ → Schedule
fresh failing = record { next = 0; failing = failing }

-- the next call is to fail
abbrev pub FailsNext : Schedule → Type 0
FailsNext s = Contains s.failing s.next

-- one call more was made. At its last value the number stays
abbrev pub after_call : Schedule → Schedule
after_call s = record s { next = min (s.next + 1) 18446744073709551615 }

-- Runs of an operator on plain objects that take the least ready item at each turn.
use Rattle.std.specs.Prelude.{◌≡◌, ◌≢◌, ℕ, ◌≤◌, Some, List, [], length, take}
use Rattle.gx_base.specs.declared.acts.Commit.{Commit}
use Rattle.gx_base.specs.declared.items.Item.{Item}
use Rattle.gx_base.specs.States.{State}
use Rattle.gx_base.specs.Plans.{Operator}
use Rattle.gx_base.specs.Outcomes.{Outcome, WholeCommit}
use Rattle.gx_base.specs.SerialIterations.{Ended, serial, least_first}
use Rattle.gx_base.specs.SerialRuns.{IsSerialRun, IsLeastFirst, IsByOneWorker, all_counted}
use Rattle.commit_book.specs.declared.operator.Operator.{Ghosts}
pub use Rattle.commit_book.specs.BookViews.{most_commits}

-- an operator of the code, as plain data
abbrev pub operator_of : {Self St : Type 0} → Ghosts Self St → Self → Operator
operator_of bound op = record { ordered = bound.is_ordered op; rooms = bound.room_count op; plan = bound.plan op }

-- there are commits that are a serial run with this end, each of the least ready item at its turn, all by worker 0, and
-- they are told with the numbers of their steps
pub record IsLeastFirstRun (op : Operator) (states : ℕ → State) (ready : List Item) (told : List Commit) (ended : Ended) : Type 0 where
  pub commits : List WholeCommit
  pub serial_run : IsSerialRun op states ready commits ended
  pub least : IsLeastFirst op states ready commits ended
  pub one_worker : IsByOneWorker commits
  pub are_told : told ≡ all_counted commits

-- such a run at whose end nothing is ready
pub record IsWholeSerialRun (op : Operator) (before : ℕ → State) (ready : List Item) (told : List Commit) (after : ℕ → State) : Type 0 where
  pub outcomes : List Outcome
  pub run : IsLeastFirstRun op before ready told (record { states = after; ready = []; outcomes = outcomes })
  pub within : length told ≤ most_commits

-- such a run of as many items as may commit, at whose end one is ready
pub record IsUnfinished (op : Operator) (before : ℕ → State) (ready : List Item) (after : ℕ → State) : Type 0 where
  pub told : List Commit
  pub ended : Ended
  pub run : IsLeastFirstRun op before ready told ended
  pub full : length told ≡ most_commits
  pub states : ended.states ≡ after
  pub ready_still : ended.ready ≢ []

-- from one start, two runs that take the least ready item at each turn differ only in how far they go
pub record IsDetermined (op : Operator) : Type 0 where
  pub order : (states : ℕ → State) (ready xs ys : List Item) (e f : Ended) → serial (least_first op) states ready xs ≡ Some e → serial (least_first op) states ready ys ≡ Some f → length xs ≤ length ys → xs ≡ take (length xs) ys
  pub longest : (states : ℕ → State) (ready xs ys : List Item) (e f : Ended) → serial (least_first op) states ready xs ≡ Some e → serial (least_first op) states ready ys ≡ Some f → e.ready ≡ [] → length ys ≤ length xs
  pub not_unfinished : (states after after' : ℕ → State) (ready : List Item) (told : List Commit) → IsWholeSerialRun op states ready told after → IsUnfinished op states ready after' → ⊥

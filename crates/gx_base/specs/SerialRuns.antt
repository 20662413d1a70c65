-- Serial runs of an operator, by the commits that record them.
use Rattle.std.specs.Prelude.{◌≡◌, ℕ, ◌+◌, Bool, true, Some, List, [], ◌∷◌, ◌++◌, length, map, ⊤}
use Rattle.gx_base.specs.declared.acts.Commit.{Commit}
use Rattle.gx_base.specs.declared.items.Item.{Item}
use Rattle.gx_base.specs.States.{State}
use Rattle.gx_base.specs.Plans.{Plan, Done, Operator}
use Rattle.gx_base.specs.BodyRuns.{RunsTo}
use Rattle.gx_base.specs.Outcomes.{Outcome, WholeCommit, order_of, outcomes_of}
use Rattle.gx_base.specs.SerialIterations.{may_commit, ready_after, Ended, serial, least_first}

-- the serial iteration of the commits' items has this end, and their bodies did what the commits record
pub record IsSerialRun (op : Operator) (states : ℕ → State) (ready : List Item) (commits : List WholeCommit) (ended : Ended) : Type 0 where
  pub in_turn : serial op states ready (order_of commits) ≡ Some ended
  pub recorded : outcomes_of commits ≡ ended.outcomes

-- each item was the least ready one at its turn
abbrev pub IsLeastFirst : Operator → (ℕ → State) → List Item → List WholeCommit → Ended → Type 0
IsLeastFirst op states ready commits ended = serial (least_first op) states ready (order_of commits) ≡ Some ended

-- a serial run of some commits, and one of more commits from where it ended
pub record IsSerialRunInTwo (op : Operator) (states : ℕ → State) (ready : List Item) (front rear : List WholeCommit) (ended : Ended) : Type 0 where
  pub between : Ended
  pub last : Ended
  pub first_run : IsSerialRun op states ready front between
  pub second_run : IsSerialRun op between.states between.ready rear last
  pub end : ended ≡ record last { outcomes = between.outcomes ++ last.outcomes }

-- ---- who has committed

-- the commits are of this worker, which numbers them one after another
abbrev pub AreNumberedBy : (worker iter : ℕ) → List WholeCommit → Type 0
AreNumberedBy worker iter [] = ⊤
AreNumberedBy worker iter (c ∷ cs) = (c.worker ≡ worker) × (c.iter ≡ iter) × AreNumberedBy worker (iter + 1) cs

-- worker 0 alone has committed
abbrev pub IsByOneWorker : List WholeCommit → Type 0
IsByOneWorker commits = AreNumberedBy 0 0 commits

-- a commit with the number of its steps in place of what its body did
abbrev pub counted : WholeCommit → Commit
counted c = record { worker = c.worker; iter = c.iter; item = c.item; steps = length c.outcome.steps }

abbrev pub all_counted : List WholeCommit → List Commit
all_counted commits = map counted commits

-- ---- what makes commits a serial run

-- each item may commit at its turn, where pushes enter the ready set, and these items are ready at the end
abbrev pub AreInTurn : Bool → List Item → List WholeCommit → List Item → Type 0
AreInTurn ordered ready [] left = ready ≡ left
AreInTurn ordered ready (c ∷ cs) left = (may_commit ordered ready c.item ≡ true) × AreInTurn ordered (ready_after ready c.item c.outcome) cs left

-- the outcome is that of a whole run of the plan, by the replies of its steps
pub record IsRunOf (plan : Plan) (o : Outcome) : Type 0 where
  pub whole : RunsTo plan o.steps o.pushes Done
  pub withdraws_nothing : o.withdrawn ≡ []

-- each outcome is that of a run of the operator on the commit's item
abbrev pub AreRunsOf : Operator → List WholeCommit → Type 0
AreRunsOf op [] = ⊤
AreRunsOf op (c ∷ cs) = IsRunOf (op.plan c.item) c.outcome × AreRunsOf op cs

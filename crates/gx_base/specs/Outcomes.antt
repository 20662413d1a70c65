-- What bodies have done, and the commits that record it.
use Rattle.std.specs.Prelude.{ℕ, List, [], ◌∷◌, ◌++◌, refl}
use Rattle.std.specs.Coded.{Coded, code_by, coded×, coded_ℕ, coded_list}
use Rattle.gx_base.specs.declared.items.Item.{Item}
use Rattle.gx_base.specs.declared.acts.Step.{Step}
use Rattle.gx_base.specs.contracts.items.Item as item
use Rattle.gx_base.specs.contracts.acts.Step as step

-- the steps of a body, and the items that it adds to the ready set and withdraws from it
pub record Outcome : Type 0 where
  pub steps : List Step
  pub pushes : List Item
  pub withdrawn : List Item

-- the outcome of a body that makes no call and pushes nothing
abbrev pub nothing_done : Outcome
nothing_done = record { steps = []; pushes = []; withdrawn = [] }

-- with a step before all others
abbrev pub after_step : Step → Outcome → Outcome
after_step step o = record o { steps = step ∷ o.steps }

-- with a push before all others
abbrev pub after_push : Item → Outcome → Outcome
after_push item o = record o { pushes = item ∷ o.pushes }

-- an iteration that has committed
pub record WholeCommit : Type 0 where
  pub worker : ℕ
  pub iter : ℕ
  pub item : Item
  pub outcome : Outcome

-- the commit order
abbrev pub order_of : List WholeCommit → List Item
order_of [] = []
order_of (c ∷ cs) = c.item ∷ order_of cs

-- what their bodies did
abbrev pub outcomes_of : List WholeCommit → List Outcome
outcomes_of [] = []
outcomes_of (c ∷ cs) = c.outcome ∷ outcomes_of cs

-- the steps of all commits
abbrev pub journal : List WholeCommit → List Step
journal [] = []
journal (c ∷ cs) = c.outcome.steps ++ journal cs

-- ---- how these are stored

abbrev pub item_code : Coded Item
item_code = (item.the_row).coded

abbrev pub step_code : Coded Step
step_code = (step.the_row).coded

-- an outcome and a commit are stored as their fields
abbrev pub outcome_code : Coded Outcome
outcome_code =
    code_by (List Step × (List Item × List Item)) (coded× (coded_list step_code) (coded× (coded_list item_code) (coded_list item_code)))
    (λ o. (o.steps, (o.pushes, o.withdrawn)))
    (λ p. record { steps = p.0; pushes = p.1.0; withdrawn = p.1.1 })
    (λ _. refl)

abbrev pub whole_commit_code : Coded WholeCommit
whole_commit_code =
    code_by (ℕ × (ℕ × (Item × Outcome))) (coded× coded_ℕ (coded× coded_ℕ (coded× item_code outcome_code)))
    (λ c. (c.worker, (c.iter, (c.item, c.outcome))))
    (λ p. record { worker = p.0; iter = p.1.0; item = p.1.1.0; outcome = p.1.1.1 })
    (λ _. refl)

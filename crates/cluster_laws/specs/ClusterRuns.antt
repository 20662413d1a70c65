-- The loop over the points of a file, and what holds of its serial runs.
use Rattle.std.specs.Prelude.{◌≡◌, ℕ, ◌+◌, false, pos, List, [], ◌∷◌, ◌++◌, length}
use Rattle.std.specs.List.{flat_map, range_with_len}
use Rattle.gx_base.specs.declared.calls.Spot.{Spot}
use Rattle.gx_base.specs.declared.items.Item.{Item}
use Rattle.gx_base.specs.Outcomes.{WholeCommit}
use Rattle.gx_base.specs.Plans.{Operator}
use Rattle.gx_base.specs.SerialIterations.{body, Ended}
use Rattle.gx_base.specs.SerialRuns.{IsSerialRun}
use Rattle.gx_base.specs.States.{State}
use Rattle.gx_base.specs.Worklists.{with_items}
use Rattle.clustering.specs.PointCalls.{points_room, rooms}
use Rattle.clustering.specs.Chain.{chain_plan}
use Rattle.clustering.specs.Starts.{start_states, start_ready}
use Rattle.clustering.specs.ClusterReports.{commit_line, gone_line, left_line, cluster_report}
use Rattle.cluster_laws.specs.MutualPairs.{AreNoneOrMutual, taken_out}

-- the work on points, of which there are so many at the start
abbrev pub chain_operator : ℕ → Operator
chain_operator count = record { ordered = false; rooms = rooms; plan = chain_plan count }

-- these commits are a serial run of the work on the points, from their start, which has come so far
abbrev pub IsRunOn : List Spot → List WholeCommit → Ended → Type 0
IsRunOn spots commits ended = IsSerialRun (chain_operator (length spots)) (start_states spots) (with_items [] (start_ready spots)) commits ended

-- each commit takes out no point, or two that were each other's nearest in the state before it
abbrev pub MergesMutualPairs : List Spot → List WholeCommit → Type 0
MergesMutualPairs spots commits = (front rear : List WholeCommit) (c : WholeCommit) (before : Ended) → commits ≡ front ++ c ∷ rear → IsRunOn spots front before
    → AreNoneOrMutual (before.states points_room) (taken_out c.outcome.steps)

-- however many calls of `nearest` more a body may make, it does the same: the bound is never what ends it
abbrev pub IsUnbounded : ℕ → Item → (ℕ → State) → Type 0
IsUnbounded count item states = (more : ℕ) → body (chain_plan (count + more) item) states ≡ body (chain_plan count item) states

-- the report has one line of a point that is left, whose weight is the number of the points
pub record EndsInOne (count : ℕ) (order : List Item) (after : ℕ → State) : Type 0 where
  pub spot : Spot
  pub is : cluster_report count order after ≡ flat_map commit_line order ++ flat_map (gone_line after) (range_with_len 0 count) ++ left_line spot (pos count)

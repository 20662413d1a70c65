-- What is shown of the runs of points.
use Rattle.std.proofs.Common.{◌≡◌, false, ℕ, ◌+◌, ◌^◌, ◌<◌, List, refl, ap, arith}
use Rattle.gx_base.specs.declared.calls.Spot.{Spot}
use Rattle.gx_base.specs.declared.items.Item.{Item}
use Rattle.gx_base.specs.Outcomes.{WholeCommit}
use Rattle.gx_base.specs.Plans.{Plan, Operator}
use Rattle.gx_base.specs.States.{State}
use Rattle.clustering.specs.PointCalls.{rooms}
use Rattle.clustering.specs.Chain.{chain_plan}
use Rattle.cluster_laws.specs.ClusterRuns.{chain_operator}
use Rattle.cluster_laws.proofs.RunLaws.{merge_mutual, end_in_one}
use Rattle.loop_runs.specs.PointsLoop.{cluster_loop, AreOfFile}
use Rattle.loop_runs.proofs.LoopRooms.{IsWholeLoopRun}

-- the operator in code is that of the points
pub same_chain : (count : ℕ) (plan : Item → Plan) → plan ≡ chain_plan count → ◌≡◌ {A = Operator} (record { ordered = false; rooms = rooms; plan = plan }) (chain_operator count)
same_chain count plan e = ap (λ (p : Item → Plan). record { ordered = false; rooms = rooms; plan = p }) e

few_by : (n : ℕ) → n ≡ 2 → n + 1 < 2 ^ 32
few_by n e = omega arith

pub few_rooms : rooms + 1 < 2 ^ 32
few_rooms = few_by rooms refl

-- what a whole run comes to
pub run_comes_to : (spots : List Spot) → AreOfFile spots → (commits : List WholeCommit) (after : ℕ → State) → IsWholeLoopRun (cluster_loop spots) commits after → (cluster_loop spots).comes_to commits after
run_comes_to spots file commits after run = (merge_mutual spots commits _ run, λ some. end_in_one file.bytes spots commits after file.is_readable some run)

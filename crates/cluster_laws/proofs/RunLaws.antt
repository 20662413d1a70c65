-- The laws of runs on points.
use Rattle.std.proofs.Common.{◌≡◌, ℕ, ◌<◌, List, [], ◌∷◌, length, sym, ap, subst, ◌∙◌}
use Rattle.gx_base.specs.declared.calls.Spot.{Spot}
use Rattle.gx_base.specs.declared.items.Item.{Item}
use Rattle.gx_base.specs.Outcomes.{Outcome, WholeCommit, order_of, outcomes_of}
use Rattle.gx_base.specs.SerialIterations.{Ran, body, Ended}
use Rattle.gx_base.specs.SerialRuns.{IsSerialRunInTwo}
use Rattle.gx_base.specs.States.{State}
use Rattle.gx_base.specs.Worklists.{with_items}
use Rattle.gx_base.proofs.CallerLemmas.{IsSerialRun-split}
use Rattle.gx_base.proofs.serial.Prefixes.{FirstTurn, first_turn, some_same}
use Rattle.clustering.specs.PointFiles.{IsReadable}
use Rattle.clustering.specs.Starts.{start_states, start_ready}
use Rattle.cluster_laws.specs.ChainKeys.{KeysFallInEach}
use Rattle.cluster_laws.specs.ClusterRuns.{chain_operator, IsRunOn, MergesMutualPairs, IsUnbounded, EndsInOne}
use Rattle.cluster_laws.specs.MutualPairs.{AreNoneOrMutual, taken_out}
use Rattle.cluster_laws.proofs.Beginnings.{begins_so, start-are_points}
use Rattle.cluster_laws.proofs.Calls.{ArePoints}
use Rattle.cluster_laws.proofs.Bodies.{HoldsBetween, kept_by_bodies, unbounded}
use Rattle.cluster_laws.proofs.Ends.{ends_in_one}
use Rattle.cluster_laws.proofs.FallingKeys.{all-fall}
use Rattle.cluster_laws.proofs.Runs.{body-kind, kept}
use Rattle.cluster_laws.proofs.Takings.{chain-good}

-- what holds wherever a run has come to
holds_at : (bytes : List ℕ) (spots : List Spot) (commits : List WholeCommit) (ended : Ended) → IsReadable bytes spots → IsRunOn spots commits ended → HoldsBetween (length spots) ended.states ended.ready
holds_at bytes spots commits ended read run =
    kept (chain_operator (length spots)) (HoldsBetween (length spots)) (kept_by_bodies (length spots) read.within) (order_of commits) (start_states spots) (with_items [] (start_ready spots)) ended
    (begins_so read.is_file.places spots read.is_file.are) run.in_turn

pub are_unbounded : (bytes : List ℕ) (spots : List Spot) (commits : List WholeCommit) (ended : Ended) → IsReadable bytes spots → IsRunOn spots commits ended → (item : Item) → IsUnbounded (length spots) item ended.states
are_unbounded bytes spots commits ended read run item = unbounded (length spots) read.within item ended.states (holds_at bytes spots commits ended read run).0

pub end_in_one : (bytes : List ℕ) (spots : List Spot) (commits : List WholeCommit) (after : ℕ → State) → IsReadable bytes spots → 0 < length spots
    → IsRunOn spots commits (record { states = after; ready = []; outcomes = outcomes_of commits }) → EndsInOne (length spots) (order_of commits) after
end_in_one bytes spots commits after read some run = ends_in_one (length spots) (order_of commits) after (holds_at bytes spots commits _ read run) some

-- the points stay points
still_points : (spots : List Spot) (commits : List WholeCommit) (ended : Ended) → IsRunOn spots commits ended → ArePoints (ended.states 0)
still_points spots commits ended run =
    kept (chain_operator (length spots)) (λ states ready. ArePoints (states 0)) (λ item states ready k. body-kind ((chain_operator (length spots)).plan item) states 0 ∙ k) (order_of commits) (start_states spots)
    (with_items [] (start_ready spots)) ended (start-are_points spots) run.in_turn

pub merge_mutual : (spots : List Spot) (commits : List WholeCommit) (ended : Ended) → IsRunOn spots commits ended → MergesMutualPairs spots commits
merge_mutual spots commits ended run front rear c before is first =
    let op = chain_operator (length spots) in
    let split : IsSerialRunInTwo op (start_states spots) (with_items [] (start_ready spots)) front (c ∷ rear) ended =
    IsSerialRun-split op (start_states spots) (with_items [] (start_ready spots)) front (c ∷ rear) ended (subst (λ (l : List WholeCommit). IsRunOn spots l ended) is run) in
    let same : before ≡ split.between = some_same (sym first.in_turn ∙ split.first_run.in_turn) in
    let ran : Ran = body (op.plan c.item) split.between.states in
    let turn : FirstTurn op split.between.states split.between.ready c.item (order_of rear) split.last = first_turn op split.between.states split.between.ready c.item (order_of rear) split.last split.second_run.in_turn in
    let all : c.outcome ∷ outcomes_of rear ≡ ran.outcome ∷ turn.rest.outcomes = split.second_run.recorded ∙ ap (λ (x : Ended). x.outcomes) turn.end in
    let here : c.outcome ≡ ran.outcome = cc in
    subst (λ (e : Ended). AreNoneOrMutual (e.states 0) (taken_out c.outcome.steps)) (sym same)
    (subst (λ (o : Outcome). AreNoneOrMutual (split.between.states 0) (taken_out o.steps)) (sym here) (chain-good (length spots) c.item split.between.states (still_points spots front split.between split.first_run)))

pub keys_fall : (spots : List Spot) (commits : List WholeCommit) (ended : Ended) → IsRunOn spots commits ended → KeysFallInEach commits
keys_fall spots commits ended run = all-fall (length spots) commits (start_states spots) (with_items [] (start_ready spots)) ended (start-are_points spots) run.in_turn run.recorded

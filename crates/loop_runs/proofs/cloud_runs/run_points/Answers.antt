use Rattle.std.proofs.Common.{length}
use Rattle.sessions.specs.EventViews.{turns_of}
use Rattle.clustering.specs.Chains.{plan_of}
use Rattle.loop_runs.specs.PointsLoop.{cluster_loop, tables_in}
use Rattle.loop_runs.proofs.PointRuns.{same_chain, few_rooms}
use Rattle.loop_runs.proofs.LoopPlays.{kinds_are, new_for, is_played, is_past, of_answer}
use Rattle.loop_runs.proofs.cloud_runs.run_points.Goals as goal

pub run_values-requires-clause-kinds : goal.run_values-requires-clause-kinds
run_values-requires-clause-kinds c = kinds_are c.args.options (tables_in c.args.tables.now) (cluster_loop c.args.spots.now) c.in-Ok.values.items c.in-Ok.ensures

pub run_values-requires-clause-new : goal.run_values-requires-clause-new
run_values-requires-clause-new c =
    new_for c.args.options (tables_in c.args.tables.now) (cluster_loop c.args.spots.now) c.in-Ok.values.items c.in-Ok.ensures _
    (same_chain (length c.args.spots.now) (plan_of c.new-chain.result) c.new-chain.ensures) few_rooms

pub returns-in-Ok-clause-played : goal.returns-in-Ok-clause-played
returns-in-Ok-clause-played c =
    of_answer _ _ c.run_values.result
    (λ played. is_played c.args.options (tables_in c.args.tables.now) (cluster_loop c.args.spots.now) c.in-Ok.values.items c.in-Ok.ensures _
    (same_chain (length c.args.spots.now) (plan_of c.new-chain.result) c.new-chain.ensures) (turns_of played.trace.items) _) c.run_values.ensures.played

pub returns-in-Ok-clause-past : goal.returns-in-Ok-clause-past
returns-in-Ok-clause-past c = λ limit e.
    is_past c.args.options (tables_in c.args.tables.now) (cluster_loop c.args.spots.now) c.in-Ok.values.items c.in-Ok.ensures _
    (same_chain (length c.args.spots.now) (plan_of c.new-chain.result) c.new-chain.ensures) limit (c.run_values.ensures.past limit e)

use Rattle.sessions.specs.EventViews.{turns_of}
use Rattle.preflow_push.specs.Discharges.{item_plan}
use Rattle.preflow_push.specs.Networks.{view}
use Rattle.loop_runs.specs.NetworkLoop.{network_loop, shard_tables}
use Rattle.loop_runs.proofs.NetworkRuns.{same_operator, few_rooms}
use Rattle.loop_runs.proofs.LoopPlays.{kinds_are, new_for, is_played, is_past, of_answer}
use Rattle.loop_runs.proofs.network_runs.run_network.Goals as goal

pub run_values-requires-clause-kinds : goal.run_values-requires-clause-kinds
run_values-requires-clause-kinds c = kinds_are c.args.options (shard_tables c.args.table.now) (network_loop (view c.args.net.now)) c.in-Ok.values.items c.in-Ok.ensures

pub run_values-requires-clause-new : goal.run_values-requires-clause-new
run_values-requires-clause-new c =
    new_for c.args.options (shard_tables c.args.table.now) (network_loop (view c.args.net.now)) c.in-Ok.values.items c.in-Ok.ensures _
    (same_operator (view c.args.net.now) (item_plan c.in-Ok-new.operator) c.in-Ok-new.ensures) few_rooms

pub returns-in-Ok-new-clause-played : goal.returns-in-Ok-new-clause-played
returns-in-Ok-new-clause-played c =
    of_answer _ _ c.run_values.result
    (λ played. is_played c.args.options (shard_tables c.args.table.now) (network_loop (view c.args.net.now)) c.in-Ok.values.items c.in-Ok.ensures _
    (same_operator (view c.args.net.now) (item_plan c.in-Ok-new.operator) c.in-Ok-new.ensures) (turns_of played.trace.items) _) c.run_values.ensures.played

pub returns-in-Ok-new-clause-past : goal.returns-in-Ok-new-clause-past
returns-in-Ok-new-clause-past c = λ limit e.
    is_past c.args.options (shard_tables c.args.table.now) (network_loop (view c.args.net.now)) c.in-Ok.values.items c.in-Ok.ensures _
    (same_operator (view c.args.net.now) (item_plan c.in-Ok-new.operator) c.in-Ok-new.ensures) limit (c.run_values.ensures.past limit e)

use Rattle.std.proofs.Common.{◌∙◌, ap, map, false}
use Rattle.std.proofs.lemmas.List.{length-map}
use Rattle.commit_book.specs.BookViews.{new_book}
use Rattle.flow_graph.specs.FlowState.{state_of}
use Rattle.preflow_push.specs.Networks.{view}
use Rattle.loop_runs.specs.NetworkLoop.{network_loop, shard_tables}
use Rattle.loop_runs.proofs.LoopRooms.{values_made}
use Rattle.loop_runs.proofs.network_runs.network_values.Goals as goal

pub returns : goal.returns
returns c =
    values_made (shard_tables c.args.table.now) (network_loop (view c.args.net.now)) c.in_ok-new.field-0 (map state_of c.in_ok-shards.shards.items) _ _
    (length-map c.in_ok-shards.shards.items state_of ∙ c.in_ok-shards.ensures.rooms) c.in_ok-shards.ensures.states
    (c.in_ok-new.ensures ∙ ap (λ ready. new_book false ready) (c.deref.ensures.value ∙ c.in_ok-shards.ensures.ready)) c.in_ok-values.ensures c.in_ok-push.ensures.items

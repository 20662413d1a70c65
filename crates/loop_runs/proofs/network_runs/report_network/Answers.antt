use Rattle.std.proofs.Common.{◌++◌, ◌∙◌, ap, map}
use Rattle.gx_base.specs.Replays.{in_rooms}
use Rattle.gx_base.specs.SerialRuns.{all_counted}
use Rattle.commit_book.specs.Commits.{items_of}
use Rattle.flow_graph.specs.FlowState.{state_of}
use Rattle.sessions.specs.EventViews.{turns_of}
use Rattle.preflow_push.specs.FlowReports.{flow_report}
use Rattle.preflow_push.specs.Networks.{view}
use Rattle.traces.specs.Traces.{trace_text}
use Rattle.loop_runs.specs.NetworkLoop.{network_loop, shard_tables}
use Rattle.loop_runs.proofs.LoopRooms.{is_report}
use Rattle.loop_runs.proofs.network_runs.report_network.Goals as goal

pub returns : goal.returns
returns c =
    is_report c.args.options (shard_tables c.args.table.now) (network_loop (view c.args.net.now)) (turns_of c.args.played.trace.items) c.args.played.values.items c.commits.result.now (map state_of c.in_ok-shards.shards.items)
    c.in_ok-lines.lines.items _ (λ commits after run. tt) c.requires c.in_ok-shards.ensures.objects
    (c.commits.ensures.commits ∙ ap (λ book. all_counted book.commits) c.in_ok-shards.ensures.book)
    (c.in_ok-lines.ensures ∙ ap (λ shards. flow_report (view c.args.net.now) (items_of c.commits.result.now) (in_rooms (map state_of shards))) c.deref.ensures.value)
    (c.in_ok-with_turns.ensures ∙ ap (λ trace. c.in_ok-lines.lines.items ++ trace_text (record { turns = c.args.options.trace; told = c.args.options.told }) (turns_of trace)) c.deref-2.ensures.value)

use Rattle.std.proofs.Common.{◌++◌, ◌∙◌, ap, map, length}
use Rattle.gx_base.specs.Replays.{in_rooms}
use Rattle.gx_base.specs.SerialRuns.{all_counted}
use Rattle.commit_book.specs.Commits.{items_of}
use Rattle.clustering.specs.CloudState.{state_of}
use Rattle.clustering.specs.ClusterReports.{cluster_report}
use Rattle.sessions.specs.EventViews.{turns_of}
use Rattle.traces.specs.Traces.{trace_text}
use Rattle.loop_runs.specs.PointsLoop.{cluster_loop, tables_in}
use Rattle.loop_runs.proofs.PointRuns.{run_comes_to}
use Rattle.loop_runs.proofs.LoopRooms.{is_report}
use Rattle.loop_runs.proofs.cloud_runs.report_points.Goals as goal

pub returns : goal.returns
returns c =
    is_report c.args.options (tables_in c.args.tables.now) (cluster_loop c.args.spots.now) (turns_of c.args.played.trace.items) c.args.played.values.items c.commits.result.now (map state_of c.in_ok-clouds.clouds.items)
    c.in_ok-lines.lines.items _ (run_comes_to c.args.spots.now c.requires.of_file) c.requires.played c.in_ok-clouds.ensures.objects
    (c.commits.ensures.commits ∙ ap (λ book. all_counted book.commits) c.in_ok-clouds.ensures.book)
    (c.in_ok-lines.ensures ∙ ap (λ clouds. cluster_report (length c.args.spots.now) (items_of c.commits.result.now) (in_rooms (map state_of clouds))) c.deref.ensures.value)
    (c.in_ok-with_turns.ensures ∙ ap (λ trace. c.in_ok-lines.lines.items ++ trace_text (record { turns = c.args.options.trace; told = c.args.options.told }) (turns_of trace)) c.deref-2.ensures.value)

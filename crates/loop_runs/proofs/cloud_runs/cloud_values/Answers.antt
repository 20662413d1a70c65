use Rattle.std.proofs.Common.{◌∙◌, ap, map, false}
use Rattle.std.proofs.lemmas.List.{length-map}
use Rattle.commit_book.specs.BookViews.{new_book}
use Rattle.clustering.specs.CloudState.{state_of}
use Rattle.loop_runs.specs.PointsLoop.{cluster_loop, tables_in}
use Rattle.loop_runs.proofs.LoopRooms.{values_made}
use Rattle.loop_runs.proofs.cloud_runs.cloud_values.Goals as goal

pub returns : goal.returns
returns c =
    values_made (tables_in c.args.tables.now) (cluster_loop c.args.spots.now) c.in_ok-new.field-0 (map state_of c.in_ok-clouds.clouds.items) _ _
    (length-map c.in_ok-clouds.clouds.items state_of ∙ c.in_ok-clouds.ensures.rooms) c.in_ok-clouds.ensures.states
    (c.in_ok-new.ensures ∙ ap (λ ready. new_book false ready) (c.deref.ensures.value ∙ c.in_ok-clouds.ensures.ready)) c.in_ok-values.ensures c.in_ok-push.ensures.items

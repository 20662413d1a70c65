use Rattle.std.specs.Prelude.{refl}
use Rattle.std.proofs.Common.{sym, subst}
use Rattle.clustering.specs.PointFiles.{IsReadable, answer_of}
use Rattle.loop_runs.specs.PointsLoop.{tables_in}
use Rattle.run_commands.specs.commands.Cluster.{cluster_command}
use Rattle.run_commands.proofs.meanings.LoopAnswers.{is_read, is_refused, is_reported, is_faulty, is_large, not_past, no_table}
use Rattle.run_commands.proofs.commands.cluster.file_text.Goals as goal

pub points_text-requires-clause-of_file : goal.points_text-requires-clause-of_file
points_text-requires-clause-of_file c = record {
  bytes = c.args.bytes.now;
  is_readable = subst (IsReadable c.args.bytes.now) (sym c.deref.ensures.value) (is_read cluster_command c.args.bytes.now answer_of c.read_points.result c.in-Ok.spots c.in-Ok.spots.items c.in-Ok.is refl c.read_points.ensures.told);
}

pub returns-in-Ok-clause-reported : goal.returns-in-Ok-clause-reported
returns-in-Ok-clause-reported c =
    is_reported cluster_command c.args.bytes.now c.args.options (tables_in c.args.tables.now) c.deref.result.now c.points_text.result
    (subst (IsReadable c.args.bytes.now) (sym c.deref.ensures.value) (is_read cluster_command c.args.bytes.now answer_of c.read_points.result c.in-Ok.spots c.in-Ok.spots.items c.in-Ok.is refl c.read_points.ensures.told))
    c.points_text.ensures.reported

pub returns-in-Ok-clause-past : goal.returns-in-Ok-clause-past
returns-in-Ok-clause-past c limit e = record {
  input = c.deref.result.now;
  is_read = subst (IsReadable c.args.bytes.now) (sym c.deref.ensures.value) (is_read cluster_command c.args.bytes.now answer_of c.read_points.result c.in-Ok.spots c.in-Ok.spots.items c.in-Ok.is refl c.read_points.ensures.told);
  is_past = c.points_text.ensures.past limit e;
}

pub returns-in-Err-clause-malformed : goal.returns-in-Err-clause-malformed
returns-in-Err-clause-malformed c = λ line e.
    is_faulty cluster_command c.args.bytes.now c.in-Err.refused c.from.result _ line (is_refused cluster_command c.args.bytes.now answer_of c.read_points.result c.in-Err.refused c.in-Err.is refl c.read_points.ensures.told) c.from.ensures refl e

pub returns-in-Err-clause-too_large : goal.returns-in-Err-clause-too_large
returns-in-Err-clause-too_large c = λ what e.
    is_large cluster_command c.args.bytes.now c.in-Err.refused c.from.result _ what (is_refused cluster_command c.args.bytes.now answer_of c.read_points.result c.in-Err.refused c.in-Err.is refl c.read_points.ensures.told) c.from.ensures refl e

pub returns-in-Err-clause-past : goal.returns-in-Err-clause-past
returns-in-Err-clause-past c = λ limit e. absurd (not_past c.in-Err.refused c.from.result _ limit c.from.ensures refl e)

pub returns-in-Err-clause-accepted : goal.returns-in-Err-clause-accepted
returns-in-Err-clause-accepted c = λ why e. absurd (no_table c.in-Err.refused c.from.result _ why c.from.ensures refl e)

use Rattle.std.proofs.Common.{◌≡◌, ◌+◌, ◌<◌, ◌++◌, ◌∷◌, [], Some, pos, true, refl, sym, ap, ◌∙◌, rules, arith, to_z, of_z}
use Rattle.std.specs.Int.{w64}
use Rattle.std.proofs.lemmas.Int.{to_z_pos, to_z-of_z}
use Rattle.gx_base.specs.declared.calls.Spot.{Spot}
use Rattle.point_files.specs.declared.reading.RowsRead.{RowsRead}
use Rattle.point_files.specs.PointRows.{coordinates_in}
use Rattle.csv.specs.Records.{fields_of}
use Rattle.point_files.specs.PointFiles.{spot_in, most_points}
use Rattle.point_files.proofs.files.RowRuns.{read_more}
use Rattle.point_files.proofs.reading.RowsRead.take.Goals as goal
use Rattle.point_files.proofs.reading.RowsRead.take.Goals.{then-self-lt-MOST_POINTS+in_ok-push, else-self-lt-MOST_POINTS}

pub returns-clause-good : goal.returns-clause-good
returns-clause-good c = λ t rows read.
    let said : coordinates_in (fields_of c.args.row.now) ≡ Some (c.in-Some.x, c.in-Some.y) = sym c.place.ensures ∙ c.in-Some.is in
    elim c.if-self-lt-MOST_POINTS.branch [
      | then-self-lt-MOST_POINTS+in_ok-push w ↦ read_more rows (fields_of c.args.row.now) (c.in-Some.x, c.in-Some.y) c.args.self.now _ said read (ap (λ (s : RowsRead). s.rows + 1) w.self-is) (λ lt.
          let id : to_z w64 c.args.self.now.rows ≡ pos c.args.self.now.rows = to_z_pos w64 c.args.self.now.rows (omega arith) in
          let kept : c.if-self-lt-MOST_POINTS.self.spots.items ≡ w.push.new.self.items = ap (λ (s : RowsRead). s.spots.items) w.self-is in
          let x : to_z w64 (of_z w64 c.in-Some.x) ≡ c.in-Some.x = to_z-of_z w64 c.in-Some.x (search rules) in
          let y : to_z w64 (of_z w64 c.in-Some.y) ≡ c.in-Some.y = to_z-of_z w64 c.in-Some.y (search rules) in
          let spot : Spot = record { id = to_z w64 c.args.self.now.rows; x = to_z w64 (of_z w64 c.in-Some.x); y = to_z w64 (of_z w64 c.in-Some.y); z = pos 0 } in
          let same : spot ≡ spot_in c.args.self.now.rows (c.in-Some.x, c.in-Some.y) = cc in
          kept ∙ w.in_ok-push.ensures.items ∙ ap (λ (s : Spot). c.args.self.now.spots.items ++ s ∷ []) same)
      | else-self-lt-MOST_POINTS w ↦ read_more rows (fields_of c.args.row.now) (c.in-Some.x, c.in-Some.y) c.args.self.now _ said read (ap (λ (s : RowsRead). s.rows + 1) w.self-is) (λ lt. absurd (omega (arith, w.if-self-lt-MOST_POINTS.false)))
    ]

-- Rows that say where points stand, one after another.
use Rattle.std.proofs.Common.{◌≡◌, ℕ, suc, ◌+◌, ◌-◌, ◌<◌, ◌≤◌, false, List, [], ◌∷◌, ◌++◌, length, map, take, Option, Some, None, inl, inr, refl, sym, ap, subst, ◌∙◌, arith}
use Rattle.std.specs.Prelude.{IsSome, slice_get}
use Rattle.std.specs.List.{AllByRecursion}
use Rattle.std.specs.Global.{Vec}
use Rattle.std.proofs.lemmas.List.{map-append, length-map}
use Rattle.csv.specs.Reading.{Reached, AreRecords, default_config, strip_bom}
use Rattle.csv.specs.Machine.{ends_at_end}
use Rattle.csv.specs.declared.parser.State.{State}
use Rattle.csv.specs.declared.parser.State.TheVariants as st
use Rattle.gx_base.specs.declared.calls.Spot.{Spot}
use Rattle.point_files.specs.declared.reading.RowsRead.{RowsRead}
use Rattle.point_files.specs.PointRows.{FileRow, Coordinates, coordinates_in}
use Rattle.point_files.specs.PointFiles.{AreRows, IsFirstBadRow, spot_in, numbered_spots, most_points}
use Rattle.point_files.specs.PointReading.{HasRead, HasReadAll}
use Rattle.point_files.proofs.files.TextRows.{rests, rows_from, rows_after}

abbrev pub some_place : Coordinates → Option Coordinates
some_place place = Some place

pub length_numbered_spots : (places : List Coordinates) (n : ℕ) → length (numbered_spots n places) ≡ length places
length_numbered_spots [] n = refl
length_numbered_spots (place ∷ places) n = ap suc (length_numbered_spots places (suc n))

numbered_spots-more : (places : List Coordinates) (n : ℕ) (place : Coordinates) → numbered_spots n (places ++ place ∷ []) ≡ numbered_spots n places ++ spot_in (n + length places) place ∷ []
numbered_spots-more [] n place = ap (λ (k : ℕ). spot_in k place ∷ []) (omega arith)
numbered_spots-more (p ∷ places) n place =
    let e : suc n + length places ≡ n + suc (length places) = omega arith in
    ap (λ (l : List Spot). spot_in n p ∷ l) (numbered_spots-more places (suc n) place ∙ ap (λ (k : ℕ). numbered_spots (suc n) places ++ spot_in k place ∷ []) e)

pub as_many : (rows : List FileRow) (places : List Coordinates) → map coordinates_in rows ≡ map some_place places → length rows ≡ length places
as_many rows places e = sym (length-map rows coordinates_in) ∙ ap length e ∙ length-map places some_place

-- one row more
pub read_more : (rows : List FileRow) (row : FileRow) (place : Coordinates) (old new : RowsRead) → coordinates_in row ≡ Some place → HasRead rows old → new.rows ≡ old.rows + 1
    → (old.rows < most_points → new.spots.items ≡ old.spots.items ++ spot_in old.rows place ∷ []) → HasRead (rows ++ row ∷ []) new
read_more rows row place old new e read count pushed = record {
  places = read.places ++ place ∷ [];
  each = map-append coordinates_in rows (row ∷ []) ∙ ap (λ (l : List (Option Coordinates)). l ++ coordinates_in row ∷ []) read.each ∙ ap (λ (o : Option Coordinates). map some_place read.places ++ o ∷ []) e ∙ sym (map-append some_place read.places (place ∷ []));
  count = count ∙ ap (λ (k : ℕ). k + 1) read.count ∙ sym (one_longer rows row);
  kept = λ le.
      let room : old.rows < most_points = omega (arith, count) in
      let small : old.rows ≤ most_points = omega arith in
      let same : old.rows ≡ 0 + length read.places = read.count ∙ as_many rows read.places read.each ∙ omega arith in
      pushed room ∙ ap (λ (l : List Spot). l ++ spot_in old.rows place ∷ []) (read.kept small) ∙ ap (λ (k : ℕ). numbered_spots 0 read.places ++ spot_in k place ∷ []) same ∙ sym (numbered_spots-more read.places 0 place);
}
  where
    one_longer : (l : List FileRow) (x : FileRow) → length (l ++ x ∷ []) ≡ length l + 1
    one_longer [] x = refl
    one_longer (y ∷ l) x = ap suc (one_longer l x) ∙ omega arith

-- ---- the first fault

all_said : (rows : List FileRow) (places : List Coordinates) → map coordinates_in rows ≡ map some_place places → AllByRecursion (λ row. IsSome (coordinates_in row)) rows
all_said [] places e = tt
all_said (row ∷ rows) [] e = absurd (cc)
all_said (row ∷ rows) (place ∷ places) e =
    let here : coordinates_in row ≡ Some place = cc in
    let others : map coordinates_in rows ≡ map some_place places = cc in
    (subst IsSome (sym here) refl, all_said rows places others)

take_front : (rows more : List FileRow) → take (length rows) (rows ++ more) ≡ rows
take_front [] more = refl
take_front (row ∷ rows) more = ap (λ (l : List FileRow). row ∷ l) (take_front rows more)

get_next : (rows : List FileRow) (row : FileRow) (more : List FileRow) → slice_get (rows ++ row ∷ more) (length rows) ≡ Some row
get_next [] row more = refl
get_next (r ∷ rows) row more = get_next rows row more

append_row : (rows : List FileRow) (row : FileRow) (more : List FileRow) → (rows ++ row ∷ []) ++ more ≡ rows ++ row ∷ more
append_row [] row more = refl
append_row (r ∷ rows) row more = ap (λ (l : List FileRow). r ∷ l) (append_row rows row more)

pub stops_at : (bytes : List ℕ) (rows : List FileRow) (row : FileRow) (seen : RowsRead) (s : State) (ys : List ℕ) → Reached default_config st.StartRecord (strip_bom bytes) (rows ++ row ∷ []) s ys
    → HasRead rows seen → coordinates_in row ≡ None → (k : ℕ) → k ≡ seen.rows + 1 → IsFirstBadRow bytes k
stops_at bytes rows row seen s ys reached read odd k is =
    let rest : ends_at_end s ≡ false = (rests st.StartRecord s (strip_bom bytes) ys (rows ++ row ∷ []) refl reached).0 in
    let more = rows_from (length ys) s ys rest (omega arith) in
    let before : k - 1 ≡ length rows = omega (arith, is, read.count) in
    record {
      rows = rows ++ row ∷ more.0;
      are_rows = subst (AreRows bytes) (append_row rows row more.0) (rows_after st.StartRecord s (strip_bom bytes) ys (rows ++ row ∷ []) more.0 reached more.1);
      from_one = omega (arith, is);
      before = subst (AllByRecursion (λ r. IsSome (coordinates_in r))) (sym (ap (λ (n : ℕ). take n (rows ++ row ∷ more.0)) before ∙ take_front rows (row ∷ more.0))) (all_said rows read.places read.each);
      row = row;
      at = ap (slice_get (rows ++ row ∷ more.0)) before ∙ get_next rows row more.0;
      faulty = odd;
    }

-- What a text calls for.
use Rattle.std.proofs.Common.{◌≡◌, ◌⊎◌, ℕ, zero, suc, ◌+◌, ◌-◌, ◌<◌, ◌≤◌, Bool, true, false, nat_le, List, [], ◌∷◌, length, map, take, Option, Some, None, Result, Ok, Err, inl, inr, ⊎_elim, refl, sym, ap, subst, ◌∙◌, arith}
use Rattle.std.specs.Prelude.{IsSome, IfOk, slice_get}
use Rattle.std.specs.List.{AllByRecursion}
use Rattle.std.specs.Global.{Vec}
use Rattle.csv.specs.Reading.{strip_bom}
use Rattle.csv.specs.declared.parser.State.TheVariants as st
use Rattle.gx_base.specs.declared.calls.Spot.{Spot}
use Rattle.gx_base.specs.declared.inputs.What.TheVariants as what
use Rattle.gx_base.specs.declared.inputs.InputFault.{InputFault}
use Rattle.gx_base.specs.declared.inputs.InputFault.TheVariants as faults
use Rattle.point_files.specs.declared.reading.RowsRead.{RowsRead}
use Rattle.point_files.specs.PointRows.{FileRow, Coordinates, coordinates_in}
use Rattle.point_files.specs.PointFiles.{AreRows, IsPointsFile, IsFirstBadRow, IsReadable, IsTooLarge, CallsFor, CallsForOne, answer_of, numbered_spots, most_points}
use Rattle.point_files.specs.PointReading.{HasRead, HasReadAll, StopsReading}
use Rattle.point_files.proofs.files.TextRows.{rows_from, same_rows}
use Rattle.point_files.proofs.files.RowRuns.{some_place, length_numbered_spots, as_many}

-- ---- one answer

abbrev Says : FileRow → Type 0
Says row = IsSome (coordinates_in row)

is_none_some : (o : Option Coordinates) → o ≡ None → IsSome o → ⊥
is_none_some None e h = cc
is_none_some (Some p) e h = cc

none_here : (rows : List FileRow) (places : List Coordinates) (n : ℕ) (row : FileRow) → map coordinates_in rows ≡ map some_place places → slice_get rows n ≡ Some row → coordinates_in row ≡ None → ⊥
none_here [] places n row e at odd = cc
none_here (r ∷ rows) [] n row e at odd = cc
none_here (r ∷ rows) (p ∷ places) zero row e at odd =
    let here : coordinates_in r ≡ Some p = cc in
    let same : r ≡ row = cc in
    let odd_here : coordinates_in r ≡ None = ap coordinates_in same ∙ odd in
    cc
none_here (r ∷ rows) (p ∷ places) (suc n) row e at odd = none_here rows places n row (cc) at odd

said_before : (rows : List FileRow) (m n : ℕ) (row : FileRow) → AllByRecursion Says (take m rows) → n < m → slice_get rows n ≡ Some row → Says row
said_before [] m n row all lt at = absurd (cc)
said_before (r ∷ rows) zero n row all lt at = absurd (omega arith)
said_before (r ∷ rows) (suc m) zero row all lt at = let same : r ≡ row = cc in subst Says same all.0
said_before (r ∷ rows) (suc m) (suc n) row all lt at = said_before rows m n row all.1 (omega arith) at

same_places : (ps qs : List Coordinates) → map some_place ps ≡ map some_place qs → ps ≡ qs
same_places [] [] e = refl
same_places [] (q ∷ qs) e = absurd (cc)
same_places (p ∷ ps) [] e = absurd (cc)
same_places (p ∷ ps) (q ∷ qs) e =
    let here : p ≡ q = cc in
    let others : map some_place ps ≡ map some_place qs = cc in
    ap (λ (x : Coordinates). x ∷ ps) here ∙ ap (λ (l : List Coordinates). q ∷ l) (same_places ps qs others)

rows_same : (bytes : List ℕ) (rows others : List FileRow) → AreRows bytes rows → AreRows bytes others → rows ≡ others
rows_same bytes rows others a b = same_rows st.StartRecord (strip_bom bytes) rows others a b

same_points : (bytes : List ℕ) (spots others : List Spot) → IsPointsFile bytes spots → IsPointsFile bytes others → spots ≡ others
same_points bytes spots others f g =
    let rows = rows_same bytes f.rows g.rows f.are_rows g.are_rows in
    let places = same_places f.places g.places (sym f.each ∙ ap (λ (rs : List FileRow). map coordinates_in rs) rows ∙ g.each) in
    f.are ∙ ap (numbered_spots 0) places ∙ sym g.are

no_fault : (bytes : List ℕ) (spots : List Spot) (k : ℕ) → IsPointsFile bytes spots → IsFirstBadRow bytes k → ⊥
no_fault bytes spots k f g =
    let rows = rows_same bytes g.rows f.rows g.are_rows f.are_rows in
    none_here f.rows f.places (k - 1) g.row f.each (sym (ap (λ (rs : List FileRow). slice_get rs (k - 1)) rows) ∙ g.at) g.faulty

no_later : (bytes : List ℕ) (k j : ℕ) → IsFirstBadRow bytes k → IsFirstBadRow bytes j → k < j → ⊥
no_later bytes k j f g lt =
    let rows = rows_same bytes f.rows g.rows f.are_rows g.are_rows in
    let from_one : 1 ≤ k = f.from_one in
    let sooner : k - 1 < j - 1 = omega arith in
    is_none_some (coordinates_in f.row) f.faulty (said_before g.rows (j - 1) (k - 1) f.row g.before sooner (sym (ap (λ (rs : List FileRow). slice_get rs (k - 1)) rows) ∙ f.at))

by_order : {P : Type 0} (k j : ℕ) → (k < j → P) → (k ≡ j → P) → (j < k → P) → P
by_order zero zero f g h = g refl
by_order zero (suc j) f g h = f (omega arith)
by_order (suc k) zero f g h = h (omega arith)
by_order (suc k) (suc j) f g h = by_order k j (λ lt. f (omega arith)) (λ e. g (ap suc e)) (λ lt. h (omega arith))

not_both : (bytes : List ℕ) (spots others : List Spot) → IsPointsFile bytes spots → length spots ≤ most_points → IsPointsFile bytes others → most_points < length others → ⊥
not_both bytes spots others f le g lt = let same : length spots ≡ length others = ap length (same_points bytes spots others f g) in omega arith

pub one_answer : (bytes : List ℕ) (a b : Result (List Spot) InputFault) → CallsFor bytes a → CallsFor bytes b → a ≡ b
one_answer bytes (Ok spots) (Ok others) f g = ap (λ (l : List Spot). Ok l) (same_points bytes spots others f.is_file g.is_file)
one_answer bytes (Ok spots) (Err (faults.Line k)) f g = absurd (no_fault bytes spots k f.is_file g)
one_answer bytes (Ok spots) (Err (faults.Large what.Points)) f g = absurd (not_both bytes spots g.spots f.is_file f.within g.is_file g.passes)
one_answer bytes (Ok spots) (Err (faults.Large what.File)) f g = absurd g
one_answer bytes (Ok spots) (Err (faults.Large what.Nodes)) f g = absurd g
one_answer bytes (Ok spots) (Err (faults.Large what.Arcs)) f g = absurd g
one_answer bytes (Ok spots) (Err (faults.Large what.Nets)) f g = absurd g
one_answer bytes (Ok spots) (Err (faults.Large what.Horizon)) f g = absurd g
one_answer bytes (Ok spots) (Err (faults.Large what.Size)) f g = absurd g
one_answer bytes (Ok spots) (Err faults.NoMemory) f g = absurd g
one_answer bytes (Err (faults.Line k)) (Ok others) f g = absurd (no_fault bytes others k g.is_file f)
one_answer bytes (Err (faults.Line k)) (Err (faults.Line j)) f g =
    by_order k j (λ lt. absurd (no_later bytes k j f g lt)) (λ e. ap (λ (n : ℕ). Err (faults.Line n)) e) (λ lt. absurd (no_later bytes j k g f lt))
one_answer bytes (Err (faults.Line k)) (Err (faults.Large what.Points)) f g = absurd (no_fault bytes g.spots k g.is_file f)
one_answer bytes (Err (faults.Line k)) (Err (faults.Large what.File)) f g = absurd g
one_answer bytes (Err (faults.Line k)) (Err (faults.Large what.Nodes)) f g = absurd g
one_answer bytes (Err (faults.Line k)) (Err (faults.Large what.Arcs)) f g = absurd g
one_answer bytes (Err (faults.Line k)) (Err (faults.Large what.Nets)) f g = absurd g
one_answer bytes (Err (faults.Line k)) (Err (faults.Large what.Horizon)) f g = absurd g
one_answer bytes (Err (faults.Line k)) (Err (faults.Large what.Size)) f g = absurd g
one_answer bytes (Err (faults.Line k)) (Err faults.NoMemory) f g = absurd g
one_answer bytes (Err (faults.Large what.Points)) (Ok others) f g = absurd (not_both bytes others f.spots g.is_file g.within f.is_file f.passes)
one_answer bytes (Err (faults.Large what.Points)) (Err (faults.Line j)) f g = absurd (no_fault bytes f.spots j f.is_file g)
one_answer bytes (Err (faults.Large what.Points)) (Err (faults.Large what.Points)) f g = refl
one_answer bytes (Err (faults.Large what.Points)) (Err (faults.Large what.File)) f g = absurd g
one_answer bytes (Err (faults.Large what.Points)) (Err (faults.Large what.Nodes)) f g = absurd g
one_answer bytes (Err (faults.Large what.Points)) (Err (faults.Large what.Arcs)) f g = absurd g
one_answer bytes (Err (faults.Large what.Points)) (Err (faults.Large what.Nets)) f g = absurd g
one_answer bytes (Err (faults.Large what.Points)) (Err (faults.Large what.Horizon)) f g = absurd g
one_answer bytes (Err (faults.Large what.Points)) (Err (faults.Large what.Size)) f g = absurd g
one_answer bytes (Err (faults.Large what.Points)) (Err faults.NoMemory) f g = absurd g
one_answer bytes (Err (faults.Large what.File)) b f g = absurd f
one_answer bytes (Err (faults.Large what.Nodes)) b f g = absurd f
one_answer bytes (Err (faults.Large what.Arcs)) b f g = absurd f
one_answer bytes (Err (faults.Large what.Nets)) b f g = absurd f
one_answer bytes (Err (faults.Large what.Horizon)) b f g = absurd f
one_answer bytes (Err (faults.Large what.Size)) b f g = absurd f
one_answer bytes (Err faults.NoMemory) b f g = absurd f

-- ---- an answer

-- the first of these rows that says of no point where it stands
record Odd (rows : List FileRow) : Type 0 where
  n : ℕ
  before : AllByRecursion Says (take n rows)
  row : FileRow
  at : slice_get rows n ≡ Some row
  faulty : coordinates_in row ≡ None

abbrev AllSaid : List FileRow → Type 0
AllSaid rows = (places : List Coordinates) × (map coordinates_in rows ≡ map some_place places)

scan_step : (row : FileRow) (rows : List FileRow) (o : Option Coordinates) → coordinates_in row ≡ o → AllSaid rows ⊎ Odd rows → AllSaid (row ∷ rows) ⊎ Odd (row ∷ rows)
scan_step row rows None e rest = inr (record { n = 0; before = tt; row = row; at = refl; faulty = e })
scan_step row rows (Some place) e (inl all) =
    inl (place ∷ all.0, ap (λ (o : Option Coordinates). o ∷ map coordinates_in rows) e ∙ ap (λ (l : List (Option Coordinates)). some_place place ∷ l) all.1)
scan_step row rows (Some place) e (inr odd) = inr (record { n = suc odd.n; before = (subst IsSome (sym e) refl, odd.before); row = odd.row; at = odd.at; faulty = odd.faulty })

scan : (rows : List FileRow) → AllSaid rows ⊎ Odd rows
scan [] = inl ([], refl)
scan (row ∷ rows) = scan_step row rows (coordinates_in row) refl (scan rows)

-- ---- what the reader answered

pub is_readable : (bytes : List ℕ) (seen : RowsRead) → HasReadAll bytes seen → seen.rows ≤ most_points → IsReadable bytes seen.spots.items
is_readable bytes seen read le =
    let has = read.has_read in
    let kept = has.kept le in
    let count : length seen.spots.items ≡ seen.rows = ap length kept ∙ length_numbered_spots has.places 0 ∙ sym (as_many read.rows has.places has.each) ∙ sym has.count in
    record {
      is_file = record { rows = read.rows; are_rows = read.are_rows; places = has.places; each = has.each; are = kept };
      within = omega arith;
    }

pub is_too_large : (bytes : List ℕ) (seen : RowsRead) → HasReadAll bytes seen → most_points < seen.rows → IsTooLarge bytes
is_too_large bytes seen read lt =
    let has = read.has_read in
    let count : length (numbered_spots 0 has.places) ≡ seen.rows = length_numbered_spots has.places 0 ∙ sym (as_many read.rows has.places has.each) ∙ sym has.count in
    record {
      spots = numbered_spots 0 has.places;
      is_file = record { rows = read.rows; are_rows = read.are_rows; places = has.places; each = has.each; are = refl };
      passes = omega arith;
    }

pub calls_for_one : (bytes : List ℕ) → CallsForOne bytes
calls_for_one bytes = by all.0 all.1 (scan all.0)
  where
    all : (rows : List FileRow) × AreRows bytes rows
    all = rows_from (length (strip_bom bytes)) st.StartRecord (strip_bom bytes) refl (omega arith)

    one : (answer : Result (List Spot) InputFault) → CallsFor bytes answer → CallsForOne bytes
    one answer calls = record { answer = answer; calls = calls; only = λ other others. one_answer bytes other answer others calls }

    sized : (spots : List Spot) → IsPointsFile bytes spots → (b : Bool) → nat_le (length spots) most_points ≡ b → CallsForOne bytes
    sized spots file true e = one (Ok spots) (record { is_file = file; within = grind (arith) })
    sized spots file false e = one (Err (faults.Large what.Points)) (record { spots = spots; is_file = file; passes = grind (arith) })

    by : (rows : List FileRow) → AreRows bytes rows → AllSaid rows ⊎ Odd rows → CallsForOne bytes
    by rows are (inl said) = sized (numbered_spots 0 said.0) (record { rows = rows; are_rows = are; places = said.0; each = said.1; are = refl }) (nat_le (length (numbered_spots 0 said.0)) most_points) refl
    by rows are (inr odd) =
        let back : suc odd.n - 1 ≡ odd.n = omega arith in
        one (Err (faults.Line (suc odd.n))) (record {
          rows = rows;
          are_rows = are;
          from_one = omega arith;
          before = subst (λ (n : ℕ). AllByRecursion Says (take n rows)) (sym back) odd.before;
          row = odd.row;
          at = ap (slice_get rows) back ∙ odd.at;
          faulty = odd.faulty;
        })

-- the answer is what the text calls for, unless memory runs out
abbrev pub Told : List ℕ → Result (Vec Spot) InputFault → Type 0
Told bytes result = (result ≡ Err faults.NoMemory) ⊎ CallsFor bytes (answer_of result)

pub told_stop : (bytes : List ℕ) (fault : InputFault) (result : Result (Vec Spot) InputFault) → StopsReading bytes fault → result ≡ Err fault → Told bytes result
told_stop bytes (faults.Line k) result stops e = inr (subst (λ (r : Result (Vec Spot) InputFault). CallsFor bytes (answer_of r)) (sym e) stops)
told_stop bytes (faults.Large w) result stops e = absurd stops
told_stop bytes faults.NoMemory result stops e = inl e

pub told_only : (bytes : List ℕ) (result : Result (Vec Spot) InputFault) → Told bytes result → (answer : Result (List Spot) InputFault) → CallsFor bytes answer → (result ≡ Err faults.NoMemory) ⊎ (answer_of result ≡ answer)
told_only bytes result (inl e) answer calls = inl e
told_only bytes result (inr told) answer calls = inr (one_answer bytes (answer_of result) answer told calls)

pub few_of : (bytes : List ℕ) (result : Result (Vec Spot) InputFault) → CallsFor bytes (answer_of result) → IfOk result (λ spots. length spots.items ≤ most_points)
few_of bytes (Ok spots) calls = calls.within
few_of bytes (Err fault) calls = tt

pub few_at_fault : (result : Result (Vec Spot) InputFault) (fault : InputFault) → result ≡ Err fault → IfOk result (λ spots. length spots.items ≤ most_points)
few_at_fault result fault is = subst (λ (r : Result (Vec Spot) InputFault). IfOk r (λ spots. length spots.items ≤ most_points)) (sym is) tt

-- The greatest class of a table's rows.
use Rattle.std.specs.Prelude.{◌≡◌, ◌≢◌, ◌⊎◌, ℕ, zero, suc, ◌+◌, ◌<◌, ◌≤◌, true, false, length, map, refl}
use Rattle.std.proofs.Common.{sym, ap, ◌∙◌, subst, inl, inr, arith}
use Rattle.std.proofs.lemmas.Bool.{and_from, le-leb, lt-ltb, cases_lt}
use Rattle.std.specs.List.{range_with_len}
use Rattle.gx_base.specs.declared.conditions.Side.TheVariants.{Second}
use Rattle.gx_base.specs.declared.kinds.Kind.{Kind}
use Rattle.gx_base.specs.declared.kinds.Kind.TheVariants.{Set}
use Rattle.gx_base.specs.Below.{names_state, AreBelow}
use Rattle.gx_base.specs.Kinds.{kind_number}
use Rattle.gx_base.specs.Methods.{first_method, words_of, is_method}
use Rattle.gx_base.specs.Tables.{Rows}
use Rattle.gx_base.proofs.CallerLemmas.{within_of}
use Rattle.cond_lattice.specs.declared.grades.Grade.{Grade}
use Rattle.cond_lattice.specs.declared.grades.Grade.TheVariants.{Simple, Online, General}
use Rattle.cond_lattice.specs.Grades.{grade_of, greater, greatest, first_grade, table_grade, rank, HasRowOf, IsGreatestClass, AreSimple}
use Rattle.cond_lattice.proofs.tables.GradeLemmas.{grade_nameless, grade-simple, simple-grade, below-not-general}

greater_first : (g h : Grade) → rank g ≤ rank (greater g h)
greater_first Simple h = omega arith
greater_first Online Simple = omega arith
greater_first Online Online = omega arith
greater_first Online General = omega arith
greater_first General h = omega arith

greater_second : (g h : Grade) → rank h ≤ rank (greater g h)
greater_second Simple h = omega arith
greater_second Online Simple = omega arith
greater_second Online Online = omega arith
greater_second Online General = omega arith
greater_second General Simple = omega arith
greater_second General Online = omega arith
greater_second General General = omega arith

pub greater-Simple : (g : Grade) → greater g Simple ≡ g
greater-Simple Simple = refl
greater-Simple Online = refl
greater-Simple General = refl

-- the greater of two is one of them
greater_is : (g h : Grade) → (greater g h ≡ g) ⊎ (greater g h ≡ h)
greater_is Simple h = inr refl
greater_is Online Simple = inl refl
greater_is Online Online = inl refl
greater_is Online General = inr refl
greater_is General h = inl refl

-- no class of a range is above the greatest
at_most : (f : ℕ → Grade) (first count m : ℕ) → first ≤ m → m < first + count → rank (f m) ≤ rank (greatest (map f (range_with_len first count)))
at_most f first zero m low high = absurd (omega arith)
at_most f first (suc count) m low high =
    elim (cases_lt first m) [
      | inl later ↦
          let rest : rank (f m) ≤ rank (greatest (map f (range_with_len (first + 1) count))) = at_most f (first + 1) count m (omega arith) (omega arith) in
          let second : rank (greatest (map f (range_with_len (first + 1) count))) ≤ rank (greater (f first) (greatest (map f (range_with_len (first + 1) count)))) =
          greater_second (f first) (greatest (map f (range_with_len (first + 1) count))) in
          omega arith
      | inr here ↦
          let same : first ≡ m = omega arith in
          subst (λ k. rank (f k) ≤ rank (greater (f first) (greatest (map f (range_with_len (first + 1) count))))) same
          (greater_first (f first) (greatest (map f (range_with_len (first + 1) count))))
    ]

-- some number of a range has this class
record IsReached (f : ℕ → Grade) (first count : ℕ) (grade : Grade) : Type 0 where
  place : ℕ
  from : first ≤ place
  upto : place < first + count
  class : f place ≡ grade

reached : (f : ℕ → Grade) (first count : ℕ) → 1 ≤ count → IsReached f first count (greatest (map f (range_with_len first count)))
reached f first zero some = absurd (omega arith)
reached f first (suc zero) some = record { place = first; from = omega arith; upto = omega arith; class = sym (greater-Simple (f first)) }
reached f first (suc (suc count)) some =
    elim (greater_is (f first) (greatest (map f (range_with_len (first + 1) (suc count))))) [
      | inl e ↦ record { place = first; from = omega arith; upto = omega arith; class = sym e }
      | inr e ↦
          let r : IsReached f (first + 1) (suc count) (greatest (map f (range_with_len (first + 1) (suc count)))) = reached f (first + 1) (suc count) (omega arith) in
          let from : first + 1 ≤ r.place = r.from in
          let upto : r.place < first + 1 + suc count = r.upto in
          record { place = r.place; from = omega arith; upto = omega arith; class = r.class ∙ sym e }
    ]

-- no row of the kind's methods is of a class above the table's
row_at_most : (kind : ℕ) (rows : Rows) (first second : ℕ) → is_method kind first ≡ true → is_method kind second ≡ true
    → rank (grade_of (rows first second)) ≤ rank (table_grade kind rows)
row_at_most kind rows first second known_first known_second =
    let x = within_of kind first known_first in
    let y = within_of kind second known_second in
    let row : rank (grade_of (rows first second)) ≤ rank (first_grade kind rows first) =
    at_most (λ other. grade_of (rows first other)) (first_method kind) (length (words_of kind)) second y.from y.upto in
    let whole : rank (first_grade kind rows first) ≤ rank (table_grade kind rows) =
    at_most (first_grade kind rows) (first_method kind) (length (words_of kind)) first x.from x.upto in
    omega arith

method_within : (kind n : ℕ) → first_method kind ≤ n → n < first_method kind + length (words_of kind) → is_method kind n ≡ true
method_within kind n from upto = and_from _ _ (le-leb (first_method kind) n from) (lt-ltb n (first_method kind + length (words_of kind)) upto)

some_row : (kind : ℕ) (rows : Rows) → 1 ≤ length (words_of kind) → HasRowOf kind rows (table_grade kind rows)
some_row kind rows some =
    let x : IsReached (first_grade kind rows) (first_method kind) (length (words_of kind)) (table_grade kind rows) =
    reached (first_grade kind rows) (first_method kind) (length (words_of kind)) some in
    let y : IsReached (λ second. grade_of (rows x.place second)) (first_method kind) (length (words_of kind)) (first_grade kind rows x.place) =
    reached (λ second. grade_of (rows x.place second)) (first_method kind) (length (words_of kind)) some in
    record {
      first = x.place;
      second = y.place;
      first_method = method_within kind x.place x.from x.upto;
      second_method = method_within kind y.place y.from y.upto;
      class = y.class ∙ x.class;
    }

some_methods : (kind : Kind) → 1 ≤ length (words_of (kind_number kind))
some_methods Set = omega arith
some_methods kind = omega arith

pub table_grade-greatest : (kind : Kind) (rows : Rows) (g : Grade) → g ≡ table_grade (kind_number kind) rows → IsGreatestClass (kind_number kind) rows g
table_grade-greatest kind rows g e =
    subst (IsGreatestClass (kind_number kind) rows) (sym e)
    (record { none_greater = row_at_most (kind_number kind) rows; reached = some_row (kind_number kind) rows (some_methods kind) })

-- the ends of the order of classes

least : (g : Grade) → rank g ≤ 0 → g ≡ Simple
least Simple h = refl
least Online h = absurd (omega arith)
least General h = absurd (omega arith)

most : (g : Grade) → 2 ≤ rank g → g ≡ General
most Simple h = absurd (omega arith)
most Online h = absurd (omega arith)
most General h = refl

-- a table is simple exactly where each of its rows is
pub table_grade-simple : (kind : Kind) (rows : Rows) (g : Grade) → g ≡ table_grade (kind_number kind) rows
    → (g ≡ Simple → AreSimple (kind_number kind) rows) × (AreSimple (kind_number kind) rows → g ≡ Simple)
table_grade-simple kind rows g e =
    let greatest_class : IsGreatestClass (kind_number kind) rows g = table_grade-greatest kind rows g e in (
      (λ simple m n known_m known_n.
          let none : rank (grade_of (rows m n)) ≤ rank g = greatest_class.none_greater m n known_m known_n in
          let zero_rank : rank g ≡ 0 = ap rank simple in
          grade-simple (rows m n) (least (grade_of (rows m n)) (omega arith))),
      λ simple.
          let row : HasRowOf (kind_number kind) rows g = greatest_class.reached in
          sym row.class ∙ simple-grade (rows row.first row.second) (simple row.first row.second row.first_method row.second_method),
    )

row_not_general : (kind : ℕ) (rows : Rows) (first second : ℕ) → table_grade kind rows ≢ General → is_method kind first ≡ true → is_method kind second ≡ true
    → grade_of (rows first second) ≢ General
row_not_general kind rows first second n known_first known_second e =
    let whole : rank (grade_of (rows first second)) ≤ rank (table_grade kind rows) = row_at_most kind rows first second known_first known_second in
    let two : rank (grade_of (rows first second)) ≡ 2 = ap rank e in
    n (most (table_grade kind rows) (omega arith))

-- no row of a table that isn't General names the state function of its later call
pub row_nameless : (kind : ℕ) (rows : Rows) (first second : ℕ) → table_grade kind rows ≢ General → is_method kind first ≡ true → is_method kind second ≡ true
    → names_state Second (rows first second) ≡ false
row_nameless kind rows first second n known_first known_second = grade_nameless (rows first second) (row_not_general kind rows first second n known_first known_second)

-- a table below one that isn't General isn't General
pub table-below-not-general : (kind : Kind) (lower upper : Rows) → AreBelow lower upper → table_grade (kind_number kind) upper ≢ General → table_grade (kind_number kind) lower ≢ General
table-below-not-general kind lower upper below n e =
    let row : HasRowOf (kind_number kind) lower (table_grade (kind_number kind) lower) = some_row (kind_number kind) lower (some_methods kind) in
    below-not-general (lower row.first row.second) (upper row.first row.second) (below row.first row.second)
    (row_not_general (kind_number kind) upper row.first row.second n row.first_method row.second_method) (row.class ∙ e)

pub row-below-not-general : (lower upper : Rows) → AreBelow lower upper → (first second : ℕ) → grade_of (upper first second) ≢ General → grade_of (lower first second) ≢ General
row-below-not-general lower upper below first second n = below-not-general (lower first second) (upper first second) (below first second) n

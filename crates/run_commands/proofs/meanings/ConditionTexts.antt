-- The text of conditions that may be for one of several kinds, and for that kind alone.
use Rattle.std.proofs.Common.{◌≡◌, ℕ, ◌<◌, List, [], ◌∷◌, Contains, refl, sym, subst, arith}
use Rattle.gx_base.specs.declared.kinds.Kind.{Kind}
use Rattle.gx_base.specs.declared.kinds.Kind.TheVariants.{Cells, Points}
use Rattle.gx_base.specs.TableRows.{RowMap}
use Rattle.text_lines.specs.Lines.{lines_of}
use Rattle.cond_syntax.specs.TableTexts.{IsTableText, SoFar, Untyped, Typed, IsRead, AreRead, skipped, type_line, row}
use Rattle.cond_syntax.proofs.CallerLemmas.{same_table}
use Rattle.run_commands.specs.commands.Cluster.{cloud_kinds}

-- what has been read is of this kind, where a type has been
abbrev IsOf : Kind → SoFar → Type 0
IsOf kind Untyped = Unit {0}
IsOf kind (Typed other rows) = other ≡ kind

of_typed : (wanted : List Kind) (kind other : Kind) (rows : RowMap) (before : SoFar) (line : List ℕ) (next : SoFar) → IsRead wanted before line next → IsOf kind next → IsOf kind before
of_typed wanted kind other rows before line next (skipped s) is = is
of_typed wanted kind other rows before line next (type_line s l w) is = tt
of_typed wanted kind other rows before line next (row s l m p n) is = is

-- the kind that is told at the end is that of all that has been read
before_end : (wanted : List Kind) (kind : Kind) (rows : RowMap) (lines : List (List ℕ)) (before : SoFar) → AreRead wanted before lines (Typed kind rows) → IsOf kind before
before_end wanted kind rows [] before e = subst (IsOf kind) (sym e) refl
before_end wanted kind rows (line ∷ lines) before (next, here, rest) = of_typed wanted kind kind rows before line next here (before_end wanted kind rows lines next rest)

-- a line that is read for some kinds is so for others, where they want this one
one_line : (wanted others : List Kind) (kind : Kind) (before : SoFar) (line : List ℕ) (next : SoFar) → Contains others kind → IsOf kind next → IsRead wanted before line next → IsRead others before line next
one_line wanted others kind before line next has is (skipped s) = skipped s
one_line wanted others kind before line next has is (type_line s l w) = type_line s l (record { named = w.named; wants = subst (λ (k : Kind). Contains others k) (sym is) has })
one_line wanted others kind before line next has is (row s l m p n) = row s l m p n

all_lines : (wanted others : List Kind) (kind : Kind) (rows : RowMap) (lines : List (List ℕ)) (before : SoFar) → Contains others kind → AreRead wanted before lines (Typed kind rows) → AreRead others before lines (Typed kind rows)
all_lines wanted others kind rows [] before has e = e
all_lines wanted others kind rows (line ∷ lines) before has (next, here, rest) =
    (next, one_line wanted others kind before line next has (before_end wanted kind rows lines next rest) here, all_lines wanted others kind rows lines next has rest)

-- the text of a table of some kinds is so for others that have its kind
pub for_others : (wanted others : List Kind) (bytes : List ℕ) (kind : Kind) (rows : RowMap) → Contains others kind → IsTableText wanted bytes kind rows → IsTableText others bytes kind rows
for_others wanted others bytes kind rows has text = all_lines wanted others kind rows (lines_of bytes) Untyped has text

pub has_one : (kind : Kind) → Contains (kind ∷ []) kind
has_one kind = (0, (let l : 0 < 1 = omega arith in l), refl)

pub has_points : Contains cloud_kinds Points
has_points = (0, (let l : 0 < 2 = omega arith in l), refl)

pub has_cells : Contains cloud_kinds Cells
has_cells = (1, (let l : 1 < 2 = omega arith in l), refl)

-- a text is for one of the kinds
pub not_both : (bytes : List ℕ) (rows others : RowMap) → IsTableText (Points ∷ []) bytes Points rows → IsTableText (Cells ∷ []) bytes Cells others → ⊥
not_both bytes rows others p c =
    let same : Points ≡ Cells = (same_table cloud_kinds bytes Points Cells rows others (for_others (Points ∷ []) cloud_kinds bytes Points rows has_points p) (for_others (Cells ∷ []) cloud_kinds bytes Cells others has_cells c)).0 in
    absurd (cc)

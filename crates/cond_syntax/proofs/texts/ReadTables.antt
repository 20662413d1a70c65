-- Tables that were read are printable, and of a wanted kind.
use Rattle.std.specs.Prelude.{◌≡◌, ℕ, ◌+◌, ◌<◌, ◌≤◌, Bool, true, false, cond, ◌&&◌, nat_le, nat_lt, List, [], ◌∷◌, length, Option, Some, None, IfSome, Contains}
use Rattle.std.proofs.Common.{refl, sym, subst, inl, inr, arith}
use Rattle.std.proofs.lemmas.Bool.{cases_Bool, lt-ltb, le-leb}
use Rattle.std.specs.FinMap as finite
use Rattle.std.specs.List.{position_from}
use Rattle.gx_base.specs.declared.kinds.Kind.{Kind}
use Rattle.gx_base.specs.Conditions as plain
use Rattle.gx_base.specs.Conditions.{Condition}
use Rattle.gx_base.specs.Kinds.{kind_number}
use Rattle.gx_base.specs.Methods.{first_method, words_of, is_method, method_of}
use Rattle.gx_base.specs.TableRows.{RowMap, pair_cmp, row_of, row_or_false}
use Rattle.gx_base.proofs.CallerLemmas.{pair_cmp_total, same_pair, same_pair-is}
use Rattle.text_lines.specs.Lines.{lines_of}
use Rattle.cond_syntax.specs.Tokens.{Token, Word, Colon, tokens_in}
use Rattle.cond_syntax.specs.TableTexts.{AreMethods, Spells, SoFar, Untyped, Typed, IsRead, skipped, type_line, row, AreRead, IsTableText}
use Rattle.cond_syntax.proofs.grammar.SmallNumbers.{AreSmall, tokens-AreSmall}
use Rattle.cond_syntax.proofs.printing.PrintableTrees.{spelled-printable}
use Rattle.cond_syntax.specs.Printable.{IsPrintable, IsPrintableTable}

-- ---- the rows that were read

in_range : (start count i : ℕ) → start ≤ i → i < start + count → (nat_le start i && nat_lt i (start + count)) ≡ true
in_range start count i low high = rw (le-leb start i low, lt-ltb i (start + count) high) refl

-- the place that a search gives is one of the list
record IsInRange (start count i : ℕ) : Type 0 where
  low : start ≤ i
  high : i < start + count

found-IsInRange : {K : Type 0} (test : K → Bool) (start : ℕ) (xs : List K) (i : ℕ) → position_from test start xs ≡ Some i → IsInRange start (length xs) i
found-IsInRange test start [] i h = absurd (cc)
found-IsInRange test start (x ∷ xs) i h = elim (cases_Bool (test x)) [
  | inl t ↦ let same : start ≡ i = cc in record { low = omega arith; high = omega arith }
  | inr f ↦ let later = found-IsInRange test (start + 1) xs i (rw f at h) in record { low = omega arith; high = omega arith }
]

-- a method that a word names is one of the kind's
named-is_method : (kind : ℕ) (word : List ℕ) (i : ℕ) → method_of kind word ≡ Some i → is_method kind i ≡ true
named-is_method kind word i h =
    let within = found-IsInRange _ (first_method kind) (words_of kind) i h in
    in_range (first_method kind) (length (words_of kind)) i within.low within.high

-- a row of two methods of the kind, with a printable condition
record IsKindRow (kind : Kind) (first second : ℕ) (condition : Condition) : Type 0 where
  first_is : is_method (kind_number kind) first ≡ true
  second_is : is_method (kind_number kind) second ≡ true
  printable : IsPrintable kind condition

-- each row that stands in the table is such a row
record HasKindRows (kind : Kind) (rows : RowMap) : Type 0 where
  each : (first second : ℕ) → IfSome (finite.get rows (first, second)) (IsKindRow kind first second)

empty-HasKindRows : (kind : Kind) → HasKindRows kind finite.empty
empty-HasKindRows kind = record {
  each = λ first second. subst (λ (o : Option Condition). IfSome o (IsKindRow kind first second)) (sym (finite.get-empty pair_cmp (first, second))) tt;
}

same_place : (kind : Kind) (p q : ℕ × ℕ) (condition : Condition) → q ≡ p → IsKindRow kind p.0 p.1 condition → IsKindRow kind q.0 q.1 condition
same_place kind p q condition same h = subst (λ (r : ℕ × ℕ). IsKindRow kind r.0 r.1 condition) (sym same) h

put_by : (kind : Kind) (p q : ℕ × ℕ) (condition : Condition) (o : Option Condition) → IsKindRow kind p.0 p.1 condition → IfSome o (IsKindRow kind q.0 q.1)
    → IfSome (cond (same_pair q p) (Some condition) o) (IsKindRow kind q.0 q.1)
put_by kind p q condition o h f = elim (cases_Bool (same_pair q p)) [
  | inl t ↦ rw t (same_place kind p q condition (same_pair-is q p t) h)
  | inr n ↦ rw n f
]

insert-HasKindRows : (kind : Kind) (rows : RowMap) (i j : ℕ) (condition : Condition) → HasKindRows kind rows → IsKindRow kind i j condition
    → HasKindRows kind (finite.insert rows (i, j) condition)
insert-HasKindRows kind rows i j condition h new = record {
  each = λ first second.
      subst (λ (o : Option Condition). IfSome o (IsKindRow kind first second)) (sym (finite.get-insert pair_cmp_total rows (i, j) condition (first, second)))
      (put_by kind (i, j) (first, second) condition (finite.get rows (first, second)) new (h.each first second));
}

-- ---- from line to line

abbrev HasOwnRows : SoFar → Type 0
HasOwnRows Untyped = Unit {0}
HasOwnRows (Typed kind rows) = HasKindRows kind rows

row-tokens : (line : List ℕ) (first second : List ℕ) (ts : List Token) → tokens_in line ≡ Word first ∷ Word second ∷ Colon ∷ ts → AreSmall ts
row-tokens line first second ts e = let small : AreSmall (Word first ∷ Word second ∷ Colon ∷ ts) = subst AreSmall e (tokens-AreSmall line) in small.1.1.1

read-kind_row : (kind : Kind) (line first second : List ℕ) (ts : List Token) (i j : ℕ) (condition : Condition) → tokens_in line ≡ Word first ∷ Word second ∷ Colon ∷ ts
    → AreMethods kind first second i j → Spells kind ts condition → IsKindRow kind i j condition
read-kind_row kind line first second ts i j condition is methods spells = record {
  first_is = named-is_method (kind_number kind) first i methods.first_is;
  second_is = named-is_method (kind_number kind) second j methods.second_is;
  printable = spelled-printable kind ts condition (row-tokens line first second ts is) spells;
}

line_read : {wanted : List Kind} {before after : SoFar} {line : List ℕ} → IsRead wanted before line after → HasOwnRows before → HasOwnRows after
line_read (skipped e) h = h
line_read (type_line {kind} seen is wants) h = empty-HasKindRows kind
line_read (row {line} {first} {second} {kind} {rows} {ts} {i} {j} {condition} seen is methods spells new) h =
    insert-HasKindRows kind rows i j condition h (read-kind_row kind line first second ts i j condition is methods spells)

lines_read : (wanted : List Kind) (before after : SoFar) (lines : List (List ℕ)) → AreRead wanted before lines after → HasOwnRows before → HasOwnRows after
lines_read wanted before after [] read h = subst HasOwnRows read h
lines_read wanted before after (line ∷ lines) read h = lines_read wanted read.0 after lines read.2 (line_read read.1 h)

-- ---- the law

printable_row : (kind : Kind) (first second : ℕ) (o : Option Condition) → IfSome o (IsKindRow kind first second) → IsPrintable kind (row_or_false o)
printable_row kind first second None h = record { terms = tt; depth = omega arith }
printable_row kind first second (Some condition) h = h.printable

false_row : (kind : Kind) (first second : ℕ) (o : Option Condition) → IfSome o (IsKindRow kind first second)
    → (is_method (kind_number kind) first && is_method (kind_number kind) second) ≡ false → row_or_false o ≡ plain.False
false_row kind first second None h other = refl
false_row kind first second (Some condition) h other = absurd (cc (rw (h.first_is, h.second_is) at other))

-- the row of a pair in which a method isn't one of the kind's is false
foreign_rows : (kind : Kind) (rows : RowMap) → HasKindRows kind rows → (first second : ℕ)
    → (is_method (kind_number kind) first && is_method (kind_number kind) second) ≡ false → row_of rows first second ≡ plain.False
foreign_rows kind rows own first second = false_row kind first second (finite.get rows (first, second)) (own.each first second)

-- a table that was read is printable
pub read_table-printable : (wanted : List Kind) (bytes : List ℕ) (kind : Kind) (rows : RowMap) → IsTableText wanted bytes kind rows → IsPrintableTable kind (row_of rows)
read_table-printable wanted bytes kind rows read =
    let own : HasKindRows kind rows = lines_read wanted Untyped (Typed kind rows) (lines_of bytes) read tt in
    record {
      each = λ first second. printable_row kind first second (finite.get rows (first, second)) (own.each first second);
      keeps_to_kind = foreign_rows kind rows own;
    }

-- ---- the kind

-- the kind that has been read, if one has, is wanted
abbrev HasWantedKind : List Kind → SoFar → Type 0
HasWantedKind wanted Untyped = Unit {0}
HasWantedKind wanted (Typed kind rows) = Contains wanted kind

line_keeps_kind : {wanted : List Kind} {before after : SoFar} {line : List ℕ} → IsRead wanted before line after → HasWantedKind wanted before → HasWantedKind wanted after
line_keeps_kind (skipped e) h = h
line_keeps_kind (type_line seen is wants) h = wants.wants
line_keeps_kind (row seen is methods spells new) h = h

lines_keep_kind : (wanted : List Kind) (before after : SoFar) (lines : List (List ℕ)) → AreRead wanted before lines after → HasWantedKind wanted before → HasWantedKind wanted after
lines_keep_kind wanted before after [] read h = subst (HasWantedKind wanted) read h
lines_keep_kind wanted before after (line ∷ lines) read h = lines_keep_kind wanted read.0 after lines read.2 (line_keeps_kind read.1 h)

-- a table that was read is of a wanted kind
pub read_table-wanted : (wanted : List Kind) (bytes : List ℕ) (kind : Kind) (rows : RowMap) → IsTableText wanted bytes kind rows → Contains wanted kind
read_table-wanted wanted bytes kind rows read = lines_keep_kind wanted Untyped (Typed kind rows) (lines_of bytes) read tt

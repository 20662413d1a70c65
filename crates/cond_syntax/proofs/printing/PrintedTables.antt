-- Printed tables are read back.
use Rattle.std.specs.Prelude.{◌≡◌, ℕ, zero, suc, ◌+◌, ◌≤◌, ◌<◌, Bool, true, false, not, cond, ◌&&◌, ◌||◌, ◌==◌, nat_le, nat_lt, List, [], ◌∷◌, ◌++◌, codes, length, map, Some, None, Contains}
use Rattle.std.proofs.Common.{refl, sym, ap, ap₂, ◌∙◌, inl, inr, append_assoc, arith}
use Rattle.std.proofs.lemmas.Bool.{cases_Bool, and_parts, or_cases, or_left, or_right, eqb-true, leb-true, ltb-true}
use Rattle.std.proofs.lemmas.Bool.Decides.{nat_tests}
use Rattle.std.specs.FinMap as finite
use Rattle.std.specs.List.{range_with_len}
use Rattle.gx_base.specs.declared.kinds.Kind.{Kind}
use Rattle.gx_base.specs.declared.kinds.Kind.TheVariants.{Set, Cells, Flow, Points, Domains}
use Rattle.gx_base.specs.Conditions.{Condition}
use Rattle.gx_base.specs.Kinds.{kind_number}
use Rattle.gx_base.specs.Methods.{first_method, words_of, methods_of, is_method, method_of, word_of}
use Rattle.gx_base.specs.Tables.{Rows}
use Rattle.gx_base.specs.TableRows.{RowMap, pair_cmp, row_of}
use Rattle.gx_base.proofs.CallerLemmas.{put_row, pair_cmp_total, same_pair, row_of-empty, row_of-insert}
use Rattle.text_lines.specs.Lines.{lines_of}
use Rattle.cond_syntax.proofs.tokens.PieceLemmas.{space-IsApart}
use Rattle.cond_syntax.specs.Tokens.{Word, Colon, tokens_in}
use Rattle.cond_syntax.specs.TableTexts.{kind_text, kind_named, is_skipped, IsTypeLine, Untyped, Typed, IsRead, type_line as type_read, row, AreRead}
use Rattle.cond_syntax.specs.Printing.{condition_text, table_text}
use Rattle.cond_syntax.specs.Printable.{IsPrintable, IsPrintableTable, IsReadBack}
use Rattle.cond_syntax.proofs.printing.PrintedTokens.{one-Reads}
use Rattle.cond_syntax.proofs.printing.PrintedConditions.{printed_condition}
use Rattle.cond_syntax.proofs.printing.PrintedLines.{condition_clean, row_text, EachOf, pairs_of, IsCleanWord, rows_lines, type_then}

-- ---- methods

-- a method of the kind, whose word is read as such
record IsPrinted (kind : Kind) (method : ℕ) : Type 0 where
  named : method_of (kind_number kind) (word_of method) ≡ Some method
  token : tokens_in (word_of method) ≡ Word (word_of method) ∷ []
  clean : IsCleanWord method
  seen : (rest : List ℕ) → is_skipped (word_of method ++ rest) ≡ false

printed : (kind : Kind) (method : ℕ) → method_of (kind_number kind) (word_of method) ≡ Some method → tokens_in (word_of method) ≡ Word (word_of method) ∷ [] → IsCleanWord method
    → ((rest : List ℕ) → is_skipped (word_of method ++ rest) ≡ false) → IsPrinted kind method
printed kind method n t c s = record { named = n; token = t; clean = c; seen = s }

methods-IsPrinted : (kind : Kind) → EachOf (IsPrinted kind) (methods_of (kind_number kind))
methods-IsPrinted Set = (printed Set _ refl refl refl (λ r. refl), (printed Set _ refl refl refl (λ r. refl), (printed Set _ refl refl refl (λ r. refl), tt)))
methods-IsPrinted Cells = (printed Cells _ refl refl refl (λ r. refl), (printed Cells _ refl refl refl (λ r. refl), (printed Cells _ refl refl refl (λ r. refl), tt)))
methods-IsPrinted Flow = (
  printed Flow _ refl refl refl (λ r. refl),
  (
    printed Flow _ refl refl refl (λ r. refl),
    (
      printed Flow _ refl refl refl (λ r. refl),
      (printed Flow _ refl refl refl (λ r. refl), (printed Flow _ refl refl refl (λ r. refl), (printed Flow _ refl refl refl (λ r. refl), tt))),
    ),
  ),
)
methods-IsPrinted Points =
    (printed Points _ refl refl refl (λ r. refl), (printed Points _ refl refl refl (λ r. refl), (printed Points _ refl refl refl (λ r. refl), (printed Points _ refl refl refl (λ r. refl), tt))))
methods-IsPrinted Domains = (
  printed Domains _ refl refl refl (λ r. refl),
  (
    printed Domains _ refl refl refl (λ r. refl),
    (printed Domains _ refl refl refl (λ r. refl), (printed Domains _ refl refl refl (λ r. refl), (printed Domains _ refl refl refl (λ r. refl), tt))),
  ),
)

words_clean : (kind : Kind) (methods : List ℕ) → EachOf (IsPrinted kind) methods → EachOf IsCleanWord methods
words_clean kind [] h = tt
words_clean kind (m ∷ methods) h = (h.0.clean, words_clean kind methods h.1)

-- ---- pairs of methods

-- both are methods of the kind, whose words are read as such
abbrev ArePrinted : Kind → (ℕ × ℕ) → Type 0
ArePrinted kind p = IsPrinted kind p.0 × IsPrinted kind p.1

each-append : {A : Type 0} (P : A → Type 0) (xs ys : List A) → EachOf P xs → EachOf P ys → EachOf P (xs ++ ys)
each-append P [] ys f g = g
each-append P (x ∷ xs) ys f g = (f.0, each-append P xs ys f.1 g)

each_second : (kind : Kind) (i : ℕ) (seconds : List ℕ) → IsPrinted kind i → EachOf (IsPrinted kind) seconds → EachOf (ArePrinted kind) (map (λ j. (i, j)) seconds)
each_second kind i [] f h = tt
each_second kind i (j ∷ seconds) f h = ((f, h.0), each_second kind i seconds f h.1)

pairs-ArePrinted : (kind : Kind) (firsts seconds : List ℕ) → EachOf (IsPrinted kind) firsts → EachOf (IsPrinted kind) seconds → EachOf (ArePrinted kind) (pairs_of firsts seconds)
pairs-ArePrinted kind [] seconds f h = tt
pairs-ArePrinted kind (i ∷ firsts) seconds f h =
    each-append (ArePrinted kind) (map (λ j. (i, j)) seconds) (pairs_of firsts seconds) (each_second kind i seconds f.0 h) (pairs-ArePrinted kind firsts seconds f.1 h)

-- the pair is none of these
abbrev is_apart : (ℕ × ℕ) → List (ℕ × ℕ) → Bool
is_apart p [] = true
is_apart p (q ∷ qs) = not (same_pair q p) && is_apart p qs

-- no pair stands twice
abbrev are_apart : List (ℕ × ℕ) → Bool
are_apart [] = true
are_apart (p ∷ ps) = is_apart p ps && are_apart ps

pairs-are_apart : (kind : Kind) → are_apart (pairs_of (methods_of (kind_number kind)) (methods_of (kind_number kind))) ≡ true
pairs-are_apart Set = refl
pairs-are_apart kind = refl

-- ---- rows are read one after another

-- the rows of these pairs put into a table
abbrev with_rows : Rows → RowMap → List (ℕ × ℕ) → RowMap
with_rows rows table [] = table
with_rows rows table (p ∷ ps) = with_rows rows (finite.insert table p (rows p.0 p.1)) ps

-- the table has no row for the pair
abbrev IsNew : RowMap → (ℕ × ℕ) → Type 0
IsNew table p = finite.get table p ≡ None

from_not : (b : Bool) → not b ≡ true → b ≡ false
from_not true h = absurd (cc)
from_not false h = refl

others_new : (table : RowMap) (p : ℕ × ℕ) (c : Condition) (qs : List (ℕ × ℕ)) → is_apart p qs ≡ true → EachOf (IsNew table) qs → EachOf (IsNew (finite.insert table p c)) qs
others_new table p c [] h f = tt
others_new table p c (q ∷ qs) h f =
    let parts : (not (same_pair q p) ≡ true) × (is_apart p qs ≡ true) = and_parts (not (same_pair q p)) (is_apart p qs) h in (
      finite.get-insert pair_cmp_total table p c q ∙ ap (λ b. cond b (Some c) (finite.get table q)) (from_not (same_pair q p) parts.0) ∙ f.0,
      others_new table p c qs parts.1 f.1,
    )

empty-IsNew : (ps : List (ℕ × ℕ)) → EachOf (IsNew finite.empty) ps
empty-IsNew [] = tt
empty-IsNew (p ∷ ps) = (finite.get-empty pair_cmp p, empty-IsNew ps)

four_parts : (a b c d e : List ℕ) → a ++ b ++ c ++ d ++ e ≡ a ++ (b ++ (c ++ (d ++ e)))
four_parts a b c d e = simp append_assoc

row-tokens : (rows : Rows) (i j : ℕ) → tokens_in (word_of i) ≡ Word (word_of i) ∷ [] → tokens_in (word_of j) ≡ Word (word_of j) ∷ []
    → tokens_in (row_text rows (i, j)) ≡ Word (word_of i) ∷ Word (word_of j) ∷ Colon ∷ tokens_in (condition_text (rows i j))
row-tokens rows i j first second =
    let text = condition_text (rows i j) in
    ap tokens_in (four_parts (word_of i) (codes " ") (word_of j) (codes " : ") text)
    ∙ one-Reads (word_of i) (Word (word_of i)) first (32 ∷ (word_of j ++ (codes " : " ++ text))) (space-IsApart (word_of j ++ (codes " : " ++ text)))
    ∙ ap (λ ts. Word (word_of i) ∷ ts) (one-Reads (word_of j) (Word (word_of j)) second (codes " : " ++ text) (space-IsApart (codes ": " ++ text)))

row_seen : (rows : Rows) (i j : ℕ) → ((rest : List ℕ) → is_skipped (word_of i ++ rest) ≡ false) → is_skipped (row_text rows (i, j)) ≡ false
row_seen rows i j seen = ap is_skipped (four_parts (word_of i) (codes " ") (word_of j) (codes " : ") (condition_text (rows i j))) ∙ seen _

row_read : (wanted : List Kind) (kind : Kind) (rows : Rows) (table : RowMap) (i j : ℕ) → ArePrinted kind (i, j) → IsPrintable kind (rows i j) → IsNew table (i, j)
    → IsRead wanted (Typed kind table) (row_text rows (i, j)) (Typed kind (finite.insert table (i, j) (rows i j)))
row_read wanted kind rows table i j h p new =
    row (row_seen rows i j h.0.seen) (row-tokens rows i j h.0.token h.1.token) (record { first_is = h.0.named; second_is = h.1.named }) (printed_condition kind (rows i j) p) new

rows_read : (wanted : List Kind) (kind : Kind) (rows : Rows) → ((first second : ℕ) → IsPrintable kind (rows first second)) → (ps : List (ℕ × ℕ)) → EachOf (ArePrinted kind) ps → are_apart ps ≡ true
    → (table : RowMap) → EachOf (IsNew table) ps → AreRead wanted (Typed kind table) (map (row_text rows) ps) (Typed kind (with_rows rows table ps))
rows_read wanted kind rows each [] h apart table new = refl
rows_read wanted kind rows each (p ∷ ps) h apart table new =
    let parts : (is_apart p ps ≡ true) × (are_apart ps ≡ true) = and_parts (is_apart p ps) (are_apart ps) apart in
    let next = finite.insert table p (rows p.0 p.1) in (
      Typed kind next,
      row_read wanted kind rows table p.0 p.1 h.0 (each p.0 p.1) new.0,
      rows_read wanted kind rows each ps h.1 parts.1 next (others_new table p (rows p.0 p.1) ps parts.0 new.1),
    )

-- ---- the rows that are read

-- the pair is one of these
abbrev has : List (ℕ × ℕ) → ℕ → ℕ → Bool
has [] i j = false
has (p ∷ ps) i j = has ps i j || ((p.0 == i) && (p.1 == j))

put_same : (rows old : Rows) (m n i j : ℕ) → put_row old m n (rows m n) i j ≡ cond ((m == i) && (n == j)) (rows i j) (old i j)
put_same rows old m n i j = elim (cases_Bool ((m == i) && (n == j))) [
  | inl t ↦ let parts : ((m == i) ≡ true) × ((n == j) ≡ true) = and_parts (m == i) (n == j) t in rw t (ap₂ rows (eqb-true m i parts.0) (eqb-true n j parts.1))
  | inr f ↦ rw f refl
]

cond_twice : (a b : Bool) (x y : Condition) → cond a x (cond b x y) ≡ cond (a || b) x y
cond_twice true b x y = refl
cond_twice false b x y = refl

with_rows-row : (rows : Rows) (ps : List (ℕ × ℕ)) (table : RowMap) (i j : ℕ) → row_of (with_rows rows table ps) i j ≡ cond (has ps i j) (rows i j) (row_of table i j)
with_rows-row rows [] table i j = refl
with_rows-row rows (p ∷ ps) table i j =
    with_rows-row rows ps (finite.insert table p (rows p.0 p.1)) i j
    ∙ ap (cond (has ps i j) (rows i j)) (row_of-insert table p.0 p.1 (rows p.0 p.1) i j ∙ put_same rows (row_of table) p.0 p.1 i j)
    ∙ cond_twice (has ps i j) ((p.0 == i) && (p.1 == j)) (rows i j) (row_of table i j)

-- the number is one of these
abbrev is_among : ℕ → List ℕ → Bool
is_among n [] = false
is_among n (m ∷ ms) = (m == n) || is_among n ms

range-among : (start count n : ℕ) → start ≤ n → n < start + count → is_among n (range_with_len start count) ≡ true
range-among start zero n low high = absurd (omega arith)
range-among start (suc count) n low high = elim (cases_Bool (start == n)) [
  | inl t ↦ rw t refl
  | inr f ↦ let other : start + 1 ≤ n = grind (arith, nat_tests) in rw (f, range-among (start + 1) count n other (omega arith)) refl
]

has-front : (ps qs : List (ℕ × ℕ)) (i j : ℕ) → has ps i j ≡ true → has (ps ++ qs) i j ≡ true
has-front [] qs i j h = absurd (cc)
has-front (p ∷ ps) qs i j h = elim (or_cases (has ps i j) ((p.0 == i) && (p.1 == j)) h) [
  | inl t ↦ or_left (has (ps ++ qs) i j) ((p.0 == i) && (p.1 == j)) (has-front ps qs i j t)
  | inr t ↦ or_right (has (ps ++ qs) i j) ((p.0 == i) && (p.1 == j)) t
]

has-end : (ps qs : List (ℕ × ℕ)) (i j : ℕ) → has qs i j ≡ true → has (ps ++ qs) i j ≡ true
has-end [] qs i j h = h
has-end (p ∷ ps) qs i j h = or_left (has (ps ++ qs) i j) ((p.0 == i) && (p.1 == j)) (has-end ps qs i j h)

second-has : (m : ℕ) (seconds : List ℕ) (i j : ℕ) → (m == i) ≡ true → is_among j seconds ≡ true → has (map (λ n. (m, n)) seconds) i j ≡ true
second-has m [] i j e h = absurd (cc)
second-has m (n ∷ seconds) i j e h = elim (or_cases (n == j) (is_among j seconds) h) [
  | inl t ↦ or_right (has (map (λ n. (m, n)) seconds) i j) ((m == i) && (n == j)) (rw (e, t) refl)
  | inr t ↦ or_left (has (map (λ n. (m, n)) seconds) i j) ((m == i) && (n == j)) (second-has m seconds i j e t)
]

pairs-has : (firsts seconds : List ℕ) (i j : ℕ) → is_among i firsts ≡ true → is_among j seconds ≡ true → has (pairs_of firsts seconds) i j ≡ true
pairs-has [] seconds i j f h = absurd (cc)
pairs-has (m ∷ firsts) seconds i j f h = elim (or_cases (m == i) (is_among i firsts) f) [
  | inl t ↦ has-front (map (λ n. (m, n)) seconds) (pairs_of firsts seconds) i j (second-has m seconds i j t h)
  | inr t ↦ has-end (map (λ n. (m, n)) seconds) (pairs_of firsts seconds) i j (pairs-has firsts seconds i j t h)
]

in_range-among : (start count n : ℕ) → (nat_le start n && nat_lt n (start + count)) ≡ true → is_among n (range_with_len start count) ≡ true
in_range-among start count n h =
    let parts : (nat_le start n ≡ true) × (nat_lt n (start + count) ≡ true) = and_parts (nat_le start n) (nat_lt n (start + count)) h in
    range-among start count n (leb-true start n parts.0) (ltb-true n (start + count) parts.1)

among_methods : (kind : Kind) (method : ℕ) → is_method (kind_number kind) method ≡ true → is_among method (methods_of (kind_number kind)) ≡ true
among_methods kind method h = in_range-among (first_method (kind_number kind)) (length (words_of (kind_number kind))) method h

methods-has : (kind : Kind) (i j : ℕ) → is_method (kind_number kind) i ≡ true → is_method (kind_number kind) j ≡ true → has (pairs_of (methods_of (kind_number kind)) (methods_of (kind_number kind))) i j ≡ true
methods-has kind i j f h = pairs-has (methods_of (kind_number kind)) (methods_of (kind_number kind)) i j (among_methods kind i f) (among_methods kind j h)

read_rows : Kind → Rows → RowMap
read_rows kind rows = with_rows rows finite.empty (pairs_of (methods_of (kind_number kind)) (methods_of (kind_number kind)))

-- a pair that is none of those of the kind's methods has a method of another kind
not_both : (kind : Kind) (i j : ℕ) → has (pairs_of (methods_of (kind_number kind)) (methods_of (kind_number kind))) i j ≡ false → (is_method (kind_number kind) i && is_method (kind_number kind) j) ≡ false
not_both kind i j f = elim (cases_Bool (is_method (kind_number kind) i && is_method (kind_number kind) j)) [
  | inl t ↦
      let parts : (is_method (kind_number kind) i ≡ true) × (is_method (kind_number kind) j ≡ true) = and_parts (is_method (kind_number kind) i) (is_method (kind_number kind) j) t in
      let among = methods-has kind i j parts.0 parts.1 in
      absurd (cc)
  | inr n ↦ n
]

rows_same : (kind : Kind) (rows : Rows) → IsPrintableTable kind rows → (i j : ℕ) → row_of (read_rows kind rows) i j ≡ rows i j
unfolding read_rows
rows_same kind rows h i j =
    let pairs = pairs_of (methods_of (kind_number kind)) (methods_of (kind_number kind)) in
    with_rows-row rows pairs finite.empty i j
    ∙ elim (cases_Bool (has pairs i j)) [ inl t ↦ rw t refl | inr f ↦ rw f (row_of-empty i j ∙ sym (h.keeps_to_kind i j (not_both kind i j f))) ]

-- ---- the law

type_is : (kind : Kind) → IsTypeLine (tokens_in (codes "type " ++ kind_text kind)) (kind_text kind)
type_is Set = refl
type_is kind = refl

kind_is : (kind : Kind) → kind_named (kind_text kind) ≡ Some kind
kind_is Set = refl
kind_is kind = refl

table_lines : (kind : Kind) (rows : Rows) → IsPrintableTable kind rows
    → lines_of (table_text kind rows) ≡ (codes "type " ++ kind_text kind) ∷ map (row_text rows) (pairs_of (methods_of (kind_number kind)) (methods_of (kind_number kind)))
table_lines kind rows h =
    type_then kind _
    ∙ ap (λ lines. (codes "type " ++ kind_text kind) ∷ lines)
    (rows_lines rows (methods_of (kind_number kind)) (λ i j. condition_clean kind (rows i j) ((h.each i j).terms)) (words_clean kind (methods_of (kind_number kind)) (methods-IsPrinted kind)))

table_read : (kind : Kind) (rows : Rows) → IsPrintableTable kind rows → (wanted : List Kind) → Contains wanted kind
    → AreRead wanted Untyped ((codes "type " ++ kind_text kind) ∷ map (row_text rows) (pairs_of (methods_of (kind_number kind)) (methods_of (kind_number kind)))) (Typed kind (read_rows kind rows))
unfolding read_rows
table_read kind rows h wanted wants =
    let pairs = pairs_of (methods_of (kind_number kind)) (methods_of (kind_number kind)) in (
      Typed kind finite.empty,
      type_read refl (type_is kind) (record { named = kind_is kind; wants = wants }),
      rows_read wanted kind rows h.each pairs (pairs-ArePrinted kind (methods_of (kind_number kind)) (methods_of (kind_number kind)) (methods-IsPrinted kind) (methods-IsPrinted kind)) (pairs-are_apart kind) finite.empty (empty-IsNew pairs),
    )

-- a printed table is the text of a table with its rows
pub printed_table : (kind : Kind) (rows : Rows) → IsPrintableTable kind rows → (wanted : List Kind) → Contains wanted kind → IsReadBack wanted (table_text kind rows) kind rows
printed_table kind rows h wanted wants = record {
  read = read_rows kind rows;
  is_text = rw (table_lines kind rows h) (table_read kind rows h wanted wants);
  same = rows_same kind rows h;
}

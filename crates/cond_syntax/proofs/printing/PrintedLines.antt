-- The lines of printed tables.
use Rattle.std.specs.Prelude.{◌≡◌, ℕ, ℤ, pos, negsuc, suc, nat_abs, ◌≤◌, ◌<◌, ◌^◌, Bool, true, false, List, [], ◌∷◌, ◌++◌, codes, map}
use Rattle.std.proofs.Common.{refl, sym, ap, ◌∙◌, append_assoc, append-nil, arith}
use Rattle.std.proofs.lemmas.List.{map-append}
use Rattle.std.specs.Fmt.{decimal, signed_decimal}
use Rattle.std.specs.List.{flat_map}
use Rattle.gx_base.specs.declared.kinds.Kind.{Kind}
use Rattle.gx_base.specs.declared.kinds.Kind.TheVariants.{Set}
use Rattle.gx_base.specs.declared.conditions.Side.{Side}
use Rattle.gx_base.specs.declared.conditions.Side.TheVariants.{First, Second}
use Rattle.gx_base.specs.declared.conditions.Part.{Part}
use Rattle.gx_base.specs.declared.conditions.Part.TheVariants.{ArgFirst, ArgSecond, RepFirst, RepSecond}
use Rattle.gx_base.specs.declared.conditions.Term.{Term}
use Rattle.gx_base.specs.declared.conditions.Term.TheVariants.{Const, Value, Beyond, State}
use Rattle.gx_base.specs.Conditions.{Condition, True, False, Eq, Ne, Lt, Le, And, Or, Not}
use Rattle.gx_base.specs.Methods.{word_of}
use Rattle.gx_base.specs.Tables.{Rows}
use Rattle.text_lines.specs.Lines.{lines_of}
use Rattle.text_lines.proofs.CallerLemmas.{is_clean, clean-append, digits-clean, lines-append, decimal-AreDigitsOf}
use Rattle.cond_syntax.specs.Printing.{part_text, state_text, term_text, is_or, is_and_or_or, grouped, condition_text, row_line, type_text}
use Rattle.cond_syntax.specs.TableTexts.{kind_text}
use Rattle.cond_syntax.specs.Printable.{IsPrintableTerm, ArePrintable}
use Rattle.cond_syntax.proofs.printing.PrintedTokens.{up_to_seven}

-- ---- printed conditions have no line ends

number_clean : (z : ℤ) → nat_abs z < 10 ^ 18 → is_clean (signed_decimal z) ≡ true
number_clean (pos n) lt = digits-clean (decimal n) (decimal-AreDigitsOf n (omega arith)).digits
number_clean (negsuc n) lt = digits-clean (decimal (suc n)) (decimal-AreDigitsOf (suc n) (omega arith)).digits

value_clean : (side : Side) (place : ℕ) → place ≤ 7 → is_clean (term_text (Value side place)) ≡ true
value_clean First = up_to_seven (λ place. is_clean (term_text (Value First place)) ≡ true) refl refl refl refl refl refl refl refl
value_clean Second = up_to_seven (λ place. is_clean (term_text (Value Second place)) ≡ true) refl refl refl refl refl refl refl refl

part_clean : (x : Part) → is_clean (part_text x) ≡ true
part_clean ArgFirst = refl
part_clean ArgSecond = refl
part_clean RepFirst = refl
part_clean RepSecond = refl

state_clean : (side : Side) → is_clean (state_text side) ≡ true
state_clean First = refl
state_clean Second = refl

-- three texts after one another
clean_three : (a b c : List ℕ) → is_clean a ≡ true → is_clean b ≡ true → is_clean c ≡ true → is_clean (a ++ b ++ c) ≡ true
clean_three a b c f g h = clean-append (a ++ b) c (clean-append a b f g) h

beyond_clean : (x y z : Part) → is_clean (term_text (Beyond x y z)) ≡ true
beyond_clean x y z =
    let first = clean_three (codes "beyond(") (part_text x) (codes ", ") refl (part_clean x) refl in
    let second = clean_three (codes "beyond(" ++ part_text x ++ codes ", ") (part_text y) (codes ", ") first (part_clean y) refl in
    clean_three (codes "beyond(" ++ part_text x ++ codes ", " ++ part_text y ++ codes ", ") (part_text z) (codes ")") second (part_clean z) refl

term_clean : (kind : Kind) (t : Term) → IsPrintableTerm kind t → is_clean (term_text t) ≡ true
term_clean kind (Const number) h = number_clean number h
term_clean kind (Value side place) h = value_clean side place h
term_clean kind (Beyond x y z) h = beyond_clean x y z
term_clean kind (State side) h = state_clean side

grouped_clean : (b : Bool) (text : List ℕ) → is_clean text ≡ true → is_clean (grouped b text) ≡ true
grouped_clean true text h = clean_three (codes "(") text (codes ")") refl h refl
grouped_clean false text h = h

pub condition_clean : (kind : Kind) (c : Condition) → ArePrintable kind c → is_clean (condition_text c) ≡ true
condition_clean kind True h = refl
condition_clean kind False h = refl
condition_clean kind (Eq x y) h = clean_three (term_text x) (codes " = ") (term_text y) (term_clean kind x h.0) refl (term_clean kind y h.1)
condition_clean kind (Ne x y) h = clean_three (term_text x) (codes " != ") (term_text y) (term_clean kind x h.0) refl (term_clean kind y h.1)
condition_clean kind (Lt x y) h = clean_three (term_text x) (codes " < ") (term_text y) (term_clean kind x h.0) refl (term_clean kind y h.1)
condition_clean kind (Le x y) h = clean_three (term_text x) (codes " <= ") (term_text y) (term_clean kind x h.0) refl (term_clean kind y h.1)
condition_clean kind (And x y) h =
    clean_three (grouped (is_or x) (condition_text x)) (codes " and ") (grouped (is_and_or_or y) (condition_text y))
    (grouped_clean (is_or x) (condition_text x) (condition_clean kind x h.0)) refl (grouped_clean (is_and_or_or y) (condition_text y) (condition_clean kind y h.1))
condition_clean kind (Or x y) h =
    clean_three (condition_text x) (codes " or ") (grouped (is_or y) (condition_text y))
    (condition_clean kind x h.0) refl (grouped_clean (is_or y) (condition_text y) (condition_clean kind y h.1))
condition_clean kind (Not x) h = clean-append (codes "not ") (grouped (is_and_or_or x) (condition_text x)) refl (grouped_clean (is_and_or_or x) (condition_text x) (condition_clean kind x h))

-- ---- the lines of a table

-- the line of a pair of methods, without its end
abbrev pub row_text : Rows → (ℕ × ℕ) → List ℕ
row_text rows p = word_of p.0 ++ codes " " ++ word_of p.1 ++ codes " : " ++ condition_text (rows p.0 p.1)

-- each of them has the property
abbrev pub EachOf : {A : Type 0} → (A → Type 0) → List A → Type 0
EachOf P [] = Unit {0}
EachOf P (x ∷ xs) = P x × EachOf P xs

-- all pairs, by the first and then by the second
abbrev pub pairs_of : List ℕ → List ℕ → List (ℕ × ℕ)
pairs_of firsts seconds = flat_map (λ i. map (λ j. (i, j)) seconds) firsts

-- a method's word has no line end
abbrev pub IsCleanWord : ℕ → Type 0
IsCleanWord method = is_clean (word_of method) ≡ true

abbrev pub AreClean : Rows → Type 0
AreClean rows = (first second : ℕ) → is_clean (condition_text (rows first second)) ≡ true

row_clean : (rows : Rows) (i j : ℕ) → AreClean rows → IsCleanWord i → IsCleanWord j → is_clean (row_text rows (i, j)) ≡ true
row_clean rows i j each first second =
    clean_three (word_of i ++ codes " " ++ word_of j) (codes " : ") (condition_text (rows i j)) (clean_three (word_of i) (codes " ") (word_of j) first refl second) refl (each i j)

row_then : (rows : Rows) (i j : ℕ) (rest : List ℕ) → AreClean rows → IsCleanWord i → IsCleanWord j → lines_of (row_line rows i j ++ rest) ≡ row_text rows (i, j) ∷ lines_of rest
row_then rows i j rest each first second =
    ap lines_of (append_assoc (row_text rows (i, j)) (codes "\n") rest) ∙ lines-append (row_text rows (i, j)) rest (row_clean rows i j each first second)

-- the lines of the rows with this method first, in front of others
first_then : (rows : Rows) (i : ℕ) (seconds : List ℕ) (rest : List ℕ) → AreClean rows → IsCleanWord i → EachOf IsCleanWord seconds
    → lines_of (flat_map (row_line rows i) seconds ++ rest) ≡ map (row_text rows) (map (λ j. (i, j)) seconds) ++ lines_of rest
first_then rows i [] rest each first h = refl
first_then rows i (j ∷ seconds) rest each first h =
    ap lines_of (append_assoc (row_line rows i j) (flat_map (row_line rows i) seconds) rest)
    ∙ row_then rows i j (flat_map (row_line rows i) seconds ++ rest) each first h.0
    ∙ ap (λ lines. row_text rows (i, j) ∷ lines) (first_then rows i seconds rest each first h.1)

rows_then : (rows : Rows) (firsts seconds : List ℕ) (rest : List ℕ) → AreClean rows → EachOf IsCleanWord firsts → EachOf IsCleanWord seconds
    → lines_of (flat_map (λ i. flat_map (row_line rows i) seconds) firsts ++ rest) ≡ map (row_text rows) (pairs_of firsts seconds) ++ lines_of rest
rows_then rows [] seconds rest each f h = refl
rows_then rows (i ∷ firsts) seconds rest each f h =
    ap lines_of (append_assoc (flat_map (row_line rows i) seconds) (flat_map (λ i. flat_map (row_line rows i) seconds) firsts) rest)
    ∙ first_then rows i seconds (flat_map (λ i. flat_map (row_line rows i) seconds) firsts ++ rest) each f.0 h
    ∙ ap (λ lines. map (row_text rows) (map (λ j. (i, j)) seconds) ++ lines) (rows_then rows firsts seconds rest each f.1 h)
    ∙ sym (append_assoc (map (row_text rows) (map (λ j. (i, j)) seconds)) (map (row_text rows) (pairs_of firsts seconds)) (lines_of rest))
    ∙ ap (λ lines. lines ++ lines_of rest) (sym (map-append (row_text rows) (map (λ j. (i, j)) seconds) (pairs_of firsts seconds)))

-- the lines of all rows
pub rows_lines : (rows : Rows) (methods : List ℕ) → AreClean rows → EachOf IsCleanWord methods
    → lines_of (flat_map (λ i. flat_map (row_line rows i) methods) methods) ≡ map (row_text rows) (pairs_of methods methods)
rows_lines rows methods each h =
    ap lines_of (sym (append-nil (flat_map (λ i. flat_map (row_line rows i) methods) methods)))
    ∙ rows_then rows methods methods [] each h h
    ∙ append-nil (map (row_text rows) (pairs_of methods methods))

type_clean : (kind : Kind) → is_clean (codes "type " ++ kind_text kind) ≡ true
type_clean Set = refl
type_clean kind = refl

-- the `type` line in front of others
pub type_then : (kind : Kind) (rest : List ℕ) → lines_of (type_text kind ++ rest) ≡ (codes "type " ++ kind_text kind) ∷ lines_of rest
type_then kind rest = ap lines_of (append_assoc (codes "type " ++ kind_text kind) (codes "\n") rest) ∙ lines-append (codes "type " ++ kind_text kind) rest (type_clean kind)

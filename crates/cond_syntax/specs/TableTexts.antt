-- The texts of tables, and their first faults.
use Rattle.std.specs.Prelude.{◌≡◌, ◌⊎◌, ℕ, ◌+◌, ◌-◌, ◌<◌, ◌≤◌, Bool, true, false, ◌==◌, bytes_eq, if◌then◌else◌, List, [], ◌∷◌, length, take, drop, find, Option, Some, None, Contains}
use Rattle.std.specs.FinMap as map
use Rattle.gx_base.specs.declared.kinds.Kind.{Kind}
use Rattle.gx_base.specs.declared.kinds.Kind.TheVariants.{Set, Cells, Flow, Points, Domains}
use Rattle.gx_base.specs.Conditions.{Condition}
use Rattle.gx_base.specs.Kinds.{kind_number}
use Rattle.gx_base.specs.KnownKinds.{said_of}
use Rattle.gx_base.specs.Methods.{method_of}
use Rattle.gx_base.specs.TableRows.{RowMap}
use Rattle.text_lines.specs.Lines.{lines_of}
use Rattle.text_lines.specs.Fields.{is_blank}
use Rattle.cond_syntax.specs.Tokens.{Token, Word, TypeKey, Colon, tokens_in}
use Rattle.cond_syntax.specs.WrittenConditions.{WrittenCondition, depth_of, condition_in}
use Rattle.cond_syntax.specs.Grammar.{IsCondition}
use Rattle.cond_syntax.specs.Fronts.{front_of, is_cut, IsOfForm, all_known}

-- how deep a condition may be
abbrev pub most_deep : ℕ
most_deep = 64

-- the word of a kind
abbrev pub kind_text : Kind → List ℕ
kind_text kind = said_of (λ known. known.word) (kind_number kind)

-- the kinds, by rising number
abbrev pub all_kinds : List Kind
all_kinds = Set ∷ Cells ∷ Flow ∷ Points ∷ Domains ∷ []

-- the kind with this word
abbrev pub kind_named : List ℕ → Option Kind
kind_named word = find (λ kind. bytes_eq word (kind_text kind)) all_kinds

-- a line is skipped that has no sign but blanks, or whose first sign is `#` (35)
abbrev pub is_skipped : List ℕ → Bool
is_skipped [] = true
is_skipped (b ∷ bs) = if is_blank b then is_skipped bs else b == 35

-- ---- what one line says

-- a `type` line with this name
abbrev pub IsTypeLine : List Token → List ℕ → Type 0
IsTypeLine ts name = ts ≡ TypeKey ∷ Word name ∷ []

-- a row of these two words and of these tokens, which have the form of a condition
pub record IsRowLine (ts : List Token) (first second : List ℕ) (condition : List Token) : Type 0 where
  pub is : ts ≡ Word first ∷ Word second ∷ Colon ∷ condition
  pub form : IsOfForm condition

-- the name is that of a wanted kind
pub record IsWanted (wanted : List Kind) (name : List ℕ) (kind : Kind) : Type 0 where
  pub named : kind_named name ≡ Some kind
  pub wants : Contains wanted kind

-- the two words are those of methods of the kind
pub record AreMethods (kind : Kind) (first second : List ℕ) (i j : ℕ) : Type 0 where
  pub first_is : method_of (kind_number kind) first ≡ Some i
  pub second_is : method_of (kind_number kind) second ≡ Some j

-- the tokens are a condition of the kind, whole and not too deep
pub record Spells (kind : Kind) (ts : List Token) (condition : Condition) : Type 0 where
  pub shallow : is_cut ts ≡ false
  pub tree : WrittenCondition
  pub spelled : IsCondition ts [] tree
  pub means : condition_in (kind_number kind) tree ≡ Some condition
  pub depth : depth_of tree ≤ most_deep

-- More than 64 parentheses are open at one place, or the tokens are a condition whose tree is more than 64 deep. That
-- they have the form of a condition is said where this is used.
abbrev pub IsTooDeep : List Token → Type 0
IsTooDeep ts = (is_cut ts ≡ true) ⊎ ((tree : WrittenCondition) × IsCondition ts [] tree × (most_deep < depth_of tree))

-- ---- reading from line to line

-- what has been read: no `type` line yet, or a kind and its rows
pub data SoFar : Type 0 where
  Untyped : SoFar
  Typed : Kind → RowMap → SoFar

-- a line without a fault, with what has been read before it and after it
pub data IsRead : List Kind → SoFar → List ℕ → SoFar → Type 0 where
  skipped : {wanted : List Kind} {before : SoFar} {line : List ℕ} → is_skipped line ≡ true → IsRead wanted before line before
  type_line : {wanted : List Kind} {line name : List ℕ} {kind : Kind} → is_skipped line ≡ false → IsTypeLine (tokens_in line) name → IsWanted wanted name kind
      → IsRead wanted Untyped line (Typed kind map.empty)
  row : {wanted : List Kind} {line first second : List ℕ} {kind : Kind} {rows : RowMap} {ts : List Token} {i j : ℕ} {condition : Condition} → is_skipped line ≡ false
      → tokens_in line ≡ Word first ∷ Word second ∷ Colon ∷ ts → AreMethods kind first second i j → Spells kind ts condition → map.get rows (i, j) ≡ None
      → IsRead wanted (Typed kind rows) line (Typed kind (map.insert rows (i, j) condition))

-- lines without a fault
abbrev pub AreRead : List Kind → SoFar → List (List ℕ) → SoFar → Type 0
AreRead wanted before [] after = before ≡ after
AreRead wanted before (line ∷ lines) after = (next : SoFar) × IsRead wanted before line next × AreRead wanted next lines after

-- the bytes are the text of a table of a wanted kind with these rows
abbrev pub IsTableText : List Kind → List ℕ → Kind → RowMap → Type 0
IsTableText wanted bytes kind rows = AreRead wanted Untyped (lines_of bytes) (Typed kind rows)

-- ---- faults

pub data Fault : Type 0 where
  Syntax : Fault
  UnknownMethod : Fault
  UnknownName : Fault
  Twice : Fault
  TooDeep : Fault

-- The fault of a line, which is the first in this order: the line isn't of the form, or is no `type` line where none
-- has been read; a method isn't one of the kind; a name isn't that of a wanted kind, or a word isn't known in its place; a
-- second `type` line, or a second row for a pair of methods; the condition is too deep.
pub data HasFault : List Kind → SoFar → List Token → Fault → Type 0 where
  no_type : {wanted : List Kind} {ts : List Token} → ((name : List ℕ) → IsTypeLine ts name → ⊥) → HasFault wanted Untyped ts Syntax
  no_form : {wanted : List Kind} {kind : Kind} {rows : RowMap} {ts : List Token} → ((name : List ℕ) → IsTypeLine ts name → ⊥)
      → ((first second : List ℕ) (condition : List Token) → IsRowLine ts first second condition → ⊥) → HasFault wanted (Typed kind rows) ts Syntax
  unknown_method : {wanted : List Kind} {kind : Kind} {rows : RowMap} {ts condition : List Token} {first second : List ℕ} → IsRowLine ts first second condition
      → ((i j : ℕ) → AreMethods kind first second i j → ⊥) → HasFault wanted (Typed kind rows) ts UnknownMethod
  unknown_kind : {wanted : List Kind} {before : SoFar} {ts : List Token} {name : List ℕ} → IsTypeLine ts name
      → ((kind : Kind) → IsWanted wanted name kind → ⊥) → HasFault wanted before ts UnknownName
  unknown_word : {wanted : List Kind} {kind : Kind} {rows : RowMap} {ts condition : List Token} {first second : List ℕ} {i j : ℕ} → IsRowLine ts first second condition
      → AreMethods kind first second i j → all_known (kind_number kind) false (front_of condition) ≡ false → HasFault wanted (Typed kind rows) ts UnknownName
  second_type : {wanted : List Kind} {kind other : Kind} {rows : RowMap} {ts : List Token} {name : List ℕ} → IsTypeLine ts name
      → IsWanted wanted name other → HasFault wanted (Typed kind rows) ts Twice
  second_row : {wanted : List Kind} {kind : Kind} {rows : RowMap} {ts condition : List Token} {first second : List ℕ} {i j : ℕ} {row : Condition} → IsRowLine ts first second condition
      → AreMethods kind first second i j → all_known (kind_number kind) false (front_of condition) ≡ true → map.get rows (i, j) ≡ Some row
      → HasFault wanted (Typed kind rows) ts Twice
  too_deep : {wanted : List Kind} {kind : Kind} {rows : RowMap} {ts condition : List Token} {first second : List ℕ} {i j : ℕ} → IsRowLine ts first second condition
      → AreMethods kind first second i j → all_known (kind_number kind) false (front_of condition) ≡ true → map.get rows (i, j) ≡ None
      → IsTooDeep condition → HasFault wanted (Typed kind rows) ts TooDeep

-- the fault at the first of these lines; past the last line it is that there is no `type` line
abbrev pub IsFaultHere : List Kind → SoFar → List (List ℕ) → Fault → Type 0
IsFaultHere wanted before [] fault = (before ≡ Untyped) × (fault ≡ Syntax)
IsFaultHere wanted before (line ∷ lines) fault = (is_skipped line ≡ false) × HasFault wanted before (tokens_in line) fault

-- the first line with a fault, from 1, and that fault; a missing `type` line is told with the number of lines plus 1
pub record IsFirstFault (wanted : List Kind) (bytes : List ℕ) (line : ℕ) (fault : Fault) : Type 0 where
  pub from_one : 1 ≤ line
  pub within : line ≤ length (lines_of bytes) + 1
  pub before : SoFar
  pub earlier : AreRead wanted Untyped (take (line - 1) (lines_of bytes)) before
  pub here : IsFaultHere wanted before (drop (line - 1) (lines_of bytes)) fault

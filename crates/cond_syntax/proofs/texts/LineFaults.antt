-- A line has one fault, and none if it is read.
use Rattle.std.specs.Prelude.{◌≡◌, ℕ, ◌≤◌, Bool, true, false, List, ◌∷◌, Option, Some, None, refl}
use Rattle.std.proofs.Common.{sym, ◌∙◌, ap, inl, inr, arith}
use Rattle.std.specs.FinMap as map
use Rattle.gx_base.specs.declared.kinds.Kind.{Kind}
use Rattle.gx_base.specs.Conditions.{Condition}
use Rattle.gx_base.specs.Kinds.{kind_number}
use Rattle.gx_base.specs.Methods.{method_of}
use Rattle.gx_base.specs.TableRows.{RowMap}
use Rattle.cond_syntax.specs.Tokens.{Token, Word, Colon, tokens_in}
use Rattle.cond_syntax.specs.WrittenConditions.{depth_of}
use Rattle.cond_syntax.specs.Fronts.{front_of, IsOfForm, all_known}
use Rattle.cond_syntax.specs.TableTexts as table_text
use Rattle.cond_syntax.specs.TableTexts.{most_deep, is_skipped, IsTypeLine, IsRowLine, IsWanted, AreMethods, Spells, IsTooDeep, SoFar, Untyped, Typed, IsRead, Fault, Syntax, UnknownMethod, UnknownName, Twice, TooDeep, HasFault}
use Rattle.cond_syntax.proofs.grammar.FrontLemmas.{front_whole}
use Rattle.cond_syntax.proofs.grammar.KnownWords.{unknown_word}
use Rattle.cond_syntax.proofs.grammar.OneTree.{one_tree}
use Rattle.cond_syntax.proofs.machine.MachineLemmas.{whole_has_form, spelled_is_whole}
use Rattle.cond_syntax.proofs.texts.LineReading.{type_line_name, row_line_first, row_line_second, row_line_condition, type_is_no_row, same_first, same_second, wanted_along, methods_along, spells_along}

-- ---- which fault a row's line has

-- the fault of a row of two known methods
abbrev pub named_fault : Bool → Option Condition → Fault
named_fault false row = UnknownName
named_fault true (Some row) = Twice
named_fault true None = TooDeep

abbrev pub methods_fault : Option ℕ → Option ℕ → (ℕ → ℕ → Fault) → Fault
methods_fault (Some i) (Some j) fault = fault i j
methods_fault _ _ fault = UnknownMethod

abbrev pub row_fault : Kind → RowMap → List ℕ → List ℕ → List Token → Fault
row_fault kind rows first second condition =
    methods_fault (method_of (kind_number kind) first) (method_of (kind_number kind) second)
    (λ i j. named_fault (all_known (kind_number kind) false (front_of condition)) (map.get rows (i, j)))

foreign_fault : (first second : Option ℕ) (fault : ℕ → ℕ → Fault) → ((i j : ℕ) → first ≡ Some i → second ≡ Some j → ⊥) → UnknownMethod ≡ methods_fault first second fault
foreign_fault None second fault none = refl
foreign_fault (Some i) None fault none = refl
foreign_fault (Some i) (Some j) fault none = absurd (none i j refl refl)

known_fault : {first second : Option ℕ} {i j : ℕ} (fault : ℕ → ℕ → Fault) → first ≡ Some i → second ≡ Some j → fault i j ≡ methods_fault first second fault
known_fault {second} {i} fault is_first is_second = sym (ap (λ o. methods_fault o second fault) is_first ∙ ap (λ o. methods_fault (Some i) o fault) is_second)

row_fault_is : {kind : Kind} {first second : List ℕ} {i j : ℕ} (rows : RowMap) (condition : List Token) (fault : Fault) → AreMethods kind first second i j
    → fault ≡ named_fault (all_known (kind_number kind) false (front_of condition)) (map.get rows (i, j)) → fault ≡ row_fault kind rows first second condition
row_fault_is {kind} rows condition fault methods is =
    is ∙ known_fault (λ i j. named_fault (all_known (kind_number kind) false (front_of condition)) (map.get rows (i, j))) methods.first_is methods.second_is

-- ---- which fault a line has after a `type` line, by what kind of line it is

pub data Says (wanted : List Kind) (kind : Kind) (rows : RowMap) (ts : List Token) (fault : Fault) : Type 0 where
  of_none : ((name : List ℕ) → IsTypeLine ts name → ⊥) → ((first second : List ℕ) (condition : List Token) → IsRowLine ts first second condition → ⊥) → fault ≡ Syntax
      → Says wanted kind rows ts fault
  of_unknown : {name : List ℕ} → IsTypeLine ts name → ((other : Kind) → IsWanted wanted name other → ⊥) → fault ≡ UnknownName → Says wanted kind rows ts fault
  of_second : {name : List ℕ} {other : Kind} → IsTypeLine ts name → IsWanted wanted name other → fault ≡ Twice → Says wanted kind rows ts fault
  of_row : {first second : List ℕ} {condition : List Token} → IsRowLine ts first second condition → fault ≡ row_fault kind rows first second condition
      → Says wanted kind rows ts fault

says : {wanted : List Kind} {kind : Kind} {rows : RowMap} {ts : List Token} {fault : Fault} → HasFault wanted (Typed kind rows) ts fault → Says wanted kind rows ts fault
says (table_text.no_form no_type no_row) = of_none no_type no_row refl
says {kind} {rows} (table_text.unknown_method {condition} {first} {second} line none) =
    of_row line (foreign_fault (method_of (kind_number kind) first) (method_of (kind_number kind) second) _ (λ i j one two. none i j (record { first_is = one; second_is = two })))
says (table_text.unknown_kind line none) = of_unknown line none refl
says {rows} (table_text.unknown_word {condition} {i} {j} line methods known) =
    of_row line (row_fault_is rows condition UnknownName methods (sym (ap (λ b. named_fault b (map.get rows (i, j))) known)))
says (table_text.second_type line wants) = of_second line wants refl
says {rows} (table_text.second_row {condition} {i} {j} line methods known row) =
    of_row line (row_fault_is rows condition Twice methods (sym (ap (λ b. named_fault b (map.get rows (i, j))) known ∙ ap (λ o. named_fault true o) row)))
says {rows} (table_text.too_deep {condition} {i} {j} line methods known row deep) =
    of_row line (row_fault_is rows condition TooDeep methods (sym (ap (λ b. named_fault b (map.get rows (i, j))) known ∙ ap (λ o. named_fault true o) row)))

same_row_fault : (kind : Kind) (rows : RowMap) {ts condition other : List Token} {a b c d : List ℕ} → IsRowLine ts a b condition → IsRowLine ts c d other
    → row_fault kind rows a b condition ≡ row_fault kind rows c d other
same_row_fault kind rows {condition} {b} {c} {d} one two =
    ap (λ word. row_fault kind rows word b condition) (row_line_first one.is two.is)
    ∙ ap (λ word. row_fault kind rows c word condition) (row_line_second one.is two.is)
    ∙ ap (λ us. row_fault kind rows c d us) (row_line_condition one.is two.is)

says_once : {wanted : List Kind} {kind : Kind} {rows : RowMap} {ts : List Token} {one two : Fault} → Says wanted kind rows ts one → Says wanted kind rows ts two → one ≡ two
says_once (of_none no_type no_row is) (of_none _ _ is') = is ∙ sym is'
says_once (of_none no_type no_row is) (of_unknown line _ _) = absurd (no_type _ line)
says_once (of_none no_type no_row is) (of_second line _ _) = absurd (no_type _ line)
says_once (of_none no_type no_row is) (of_row line _) = absurd (no_row _ _ _ line)
says_once (of_unknown line none is) (of_none no_type _ _) = absurd (no_type _ line)
says_once (of_unknown line none is) (of_unknown _ _ is') = is ∙ sym is'
says_once (of_unknown line none is) (of_second line' wants _) = absurd (none _ (wanted_along (type_line_name line' line) wants))
says_once (of_unknown line none is) (of_row row _) = absurd (type_is_no_row line row.is)
says_once (of_second line wants is) (of_none no_type _ _) = absurd (no_type _ line)
says_once (of_second line wants is) (of_unknown line' none _) = absurd (none _ (wanted_along (type_line_name line line') wants))
says_once (of_second line wants is) (of_second _ _ is') = is ∙ sym is'
says_once (of_second line wants is) (of_row row _) = absurd (type_is_no_row line row.is)
says_once (of_row row is) (of_none _ no_row _) = absurd (no_row _ _ _ row)
says_once (of_row row is) (of_unknown line _ _) = absurd (type_is_no_row line row.is)
says_once (of_row row is) (of_second line _ _) = absurd (type_is_no_row line row.is)
says_once {kind} {rows} (of_row row is) (of_row row' is') = is ∙ same_row_fault kind rows row row' ∙ sym is'

-- ---- and before one

untyped_once : {wanted : List Kind} {ts : List Token} {one two : Fault} → HasFault wanted Untyped ts one → HasFault wanted Untyped ts two → one ≡ two
untyped_once (table_text.no_type no_type) (table_text.no_type no_type') = refl
untyped_once (table_text.no_type no_type) (table_text.unknown_kind line none) = absurd (no_type _ line)
untyped_once (table_text.unknown_kind line none) (table_text.no_type no_type) = absurd (no_type _ line)
untyped_once (table_text.unknown_kind line none) (table_text.unknown_kind line' none') = refl

pub one_fault : (wanted : List Kind) (before : SoFar) (ts : List Token) (one two : Fault) → HasFault wanted before ts one → HasFault wanted before ts two → one ≡ two
one_fault wanted Untyped ts one two first second = untyped_once first second
one_fault wanted (Typed kind rows) ts one two first second = says_once (says first) (says second)

-- ---- a line that is read has no fault

untyped_reads : {wanted : List Kind} {ts : List Token} {fault : Fault} {name : List ℕ} {kind : Kind} → HasFault wanted Untyped ts fault → IsTypeLine ts name
    → IsWanted wanted name kind → ⊥
untyped_reads (table_text.no_type no_type) is wants = no_type _ is
untyped_reads (table_text.unknown_kind line none) is wants = none _ (wanted_along (type_line_name is line) wants)

has_form : {kind : Kind} {ts : List Token} {condition : Condition} → Spells kind ts condition → IsOfForm ts
has_form {ts} spells = whole_has_form ts spells.tree (spelled_is_whole ts spells.tree spells.shallow spells.spelled)

is_known_here : {kind : Kind} {ts : List Token} {condition : Condition} → Spells kind ts condition → all_known (kind_number kind) false (front_of ts) ≡ false → ⊥
is_known_here {kind} {ts} spells unknown =
    let none = unknown_word (kind_number kind) ts spells.tree spells.spelled (ap (λ us. all_known (kind_number kind) false us) (sym (front_whole ts spells.shallow)) ∙ unknown) in
    let differ : None ≡ Some _ = sym none ∙ spells.means in
    cc

is_shallow : {kind : Kind} {ts : List Token} {condition : Condition} → Spells kind ts condition → IsTooDeep ts → ⊥
is_shallow spells (inl cut) = let differ : true ≡ false = sym cut ∙ spells.shallow in cc
is_shallow {ts} spells (inr (tree, spelled, deep)) =
    let same : depth_of tree ≡ depth_of spells.tree = ap depth_of (one_tree ts tree spells.tree spelled spells.spelled) in
    let depth : depth_of spells.tree ≤ 64 = spells.depth in
    omega arith

absent_not_there : (rows : RowMap) {i j k l : ℕ} {row : Condition} → i ≡ k → j ≡ l → map.get rows (i, j) ≡ None → map.get rows (k, l) ≡ Some row → ⊥
absent_not_there rows {j} {k} first second free row =
    let differ : None ≡ Some _ = sym free ∙ ap (λ i. map.get rows (i, j)) first ∙ ap (λ m. map.get rows (k, m)) second ∙ row in
    cc

row_reads : {wanted : List Kind} {kind : Kind} {rows : RowMap} {ts condition : List Token} {fault : Fault} {a b : List ℕ} {i j : ℕ} {row : Condition}
    → HasFault wanted (Typed kind rows) ts fault → ts ≡ Word a ∷ Word b ∷ Colon ∷ condition → AreMethods kind a b i j → Spells kind condition row
    → map.get rows (i, j) ≡ None → ⊥
row_reads (table_text.no_form no_type no_row) is methods spells free = no_row _ _ _ (record { is = is; form = has_form spells })
row_reads (table_text.unknown_method line none) is methods spells free = none _ _ (methods_along (row_line_first is line.is) (row_line_second is line.is) methods)
row_reads (table_text.unknown_kind line none) is methods spells free = type_is_no_row line is
row_reads (table_text.unknown_word line methods' known) is methods spells free = is_known_here (spells_along (row_line_condition is line.is) spells) known
row_reads (table_text.second_type line wants) is methods spells free = type_is_no_row line is
row_reads {rows} (table_text.second_row line methods' known row) is methods spells free =
    let along = methods_along (row_line_first is line.is) (row_line_second is line.is) methods in
    absent_not_there rows (same_first along methods') (same_second along methods') free row
row_reads (table_text.too_deep line methods' known row deep) is methods spells free = is_shallow (spells_along (row_line_condition is line.is) spells) deep

pub read_has_no_fault : {wanted : List Kind} {before next : SoFar} {line : List ℕ} {fault : Fault} → IsRead wanted before line next → is_skipped line ≡ false
    → HasFault wanted before (tokens_in line) fault → ⊥
read_has_no_fault (table_text.skipped skips) reads fault = cc
read_has_no_fault (table_text.type_line skips is wants) reads fault = untyped_reads fault is wants
read_has_no_fault (table_text.row skips is methods spells free) reads fault = row_reads fault is methods spells free

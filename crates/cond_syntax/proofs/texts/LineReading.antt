-- A line of a table without a fault is read in one way.
use Rattle.std.specs.Prelude.{◌≡◌, ℕ, List, [], ◌∷◌, Some, refl}
use Rattle.std.proofs.Common.{sym, ◌∙◌, ap, subst}
use Rattle.std.specs.FinMap as map
use Rattle.gx_base.specs.declared.kinds.Kind.{Kind}
use Rattle.gx_base.specs.Conditions.{Condition}
use Rattle.gx_base.specs.Kinds.{kind_number}
use Rattle.gx_base.specs.Methods.{method_of}
use Rattle.gx_base.specs.TableRows.{RowMap}
use Rattle.cond_syntax.specs.Tokens.{Token, Word, TypeKey, Colon}
use Rattle.cond_syntax.specs.WrittenConditions.{condition_in}
use Rattle.cond_syntax.specs.TableTexts as table_text
use Rattle.cond_syntax.specs.TableTexts.{kind_named, is_skipped, IsTypeLine, IsWanted, AreMethods, Spells, SoFar, Untyped, Typed, IsRead, AreRead}
use Rattle.cond_syntax.proofs.grammar.OneTree.{one_tree}

-- ---- what a line's tokens are, they are in one way

pub type_line_name : {ts : List Token} {name other : List ℕ} → ts ≡ TypeKey ∷ Word name ∷ [] → ts ≡ TypeKey ∷ Word other ∷ [] → name ≡ other
type_line_name one two = cc

pub row_line_first : {ts condition other : List Token} {a b c d : List ℕ} → ts ≡ Word a ∷ Word b ∷ Colon ∷ condition → ts ≡ Word c ∷ Word d ∷ Colon ∷ other → a ≡ c
row_line_first one two = cc

pub row_line_second : {ts condition other : List Token} {a b c d : List ℕ} → ts ≡ Word a ∷ Word b ∷ Colon ∷ condition → ts ≡ Word c ∷ Word d ∷ Colon ∷ other → b ≡ d
row_line_second one two = cc

pub row_line_condition : {ts condition other : List Token} {a b c d : List ℕ} → ts ≡ Word a ∷ Word b ∷ Colon ∷ condition → ts ≡ Word c ∷ Word d ∷ Colon ∷ other
    → condition ≡ other
row_line_condition one two = cc

pub type_is_no_row : {ts condition : List Token} {name a b : List ℕ} → ts ≡ TypeKey ∷ Word name ∷ [] → ts ≡ Word a ∷ Word b ∷ Colon ∷ condition → ⊥
type_is_no_row one two = cc

-- ---- what its words name, they name alone

same_kind : {wanted : List Kind} {name : List ℕ} {kind other : Kind} → IsWanted wanted name kind → IsWanted wanted name other → kind ≡ other
same_kind one two = let same : Some _ ≡ Some _ = sym one.named ∙ two.named in cc

pub same_first : {kind : Kind} {a b : List ℕ} {i j k l : ℕ} → AreMethods kind a b i j → AreMethods kind a b k l → i ≡ k
same_first one two = let same : Some _ ≡ Some _ = sym one.first_is ∙ two.first_is in cc

pub same_second : {kind : Kind} {a b : List ℕ} {i j k l : ℕ} → AreMethods kind a b i j → AreMethods kind a b k l → j ≡ l
same_second one two = let same : Some _ ≡ Some _ = sym one.second_is ∙ two.second_is in cc

same_condition : {kind : Kind} {ts : List Token} {condition other : Condition} → Spells kind ts condition → Spells kind ts other → condition ≡ other
same_condition {kind} {ts} one two =
    let tree : one.tree ≡ two.tree = one_tree ts one.tree two.tree one.spelled two.spelled in
    let same : Some _ ≡ Some _ = sym one.means ∙ ap (λ c. condition_in (kind_number kind) c) tree ∙ two.means in
    cc

pub wanted_along : {wanted : List Kind} {name other : List ℕ} {kind : Kind} → name ≡ other → IsWanted wanted name kind → IsWanted wanted other kind
wanted_along {wanted} {kind} same = let Wants : List ℕ → Type 0 = λ word. IsWanted wanted word kind in subst Wants same

pub methods_along : {kind : Kind} {a b c d : List ℕ} {i j : ℕ} → a ≡ c → b ≡ d → AreMethods kind a b i j → AreMethods kind c d i j
methods_along {kind} first second methods = record {
  first_is = ap (λ word. method_of (kind_number kind) word) (sym first) ∙ methods.first_is;
  second_is = ap (λ word. method_of (kind_number kind) word) (sym second) ∙ methods.second_is;
}

pub spells_along : {kind : Kind} {ts us : List Token} {condition : Condition} → ts ≡ us → Spells kind ts condition → Spells kind us condition
spells_along {kind} {condition} same = let SpelledBy : List Token → Type 0 = λ vs. Spells kind vs condition in subst SpelledBy same

-- ---- so what is read after a line is determined

inserted : (kind : Kind) (rows : RowMap) {i j k l : ℕ} {condition other : Condition} → i ≡ k → j ≡ l → condition ≡ other
    → Typed kind (map.insert rows (i, j) condition) ≡ Typed kind (map.insert rows (k, l) other)
inserted kind rows {j} {k} {l} {condition} first second same =
    ap (λ i. Typed kind (map.insert rows (i, j) condition)) first
    ∙ ap (λ j. Typed kind (map.insert rows (k, j) condition)) second
    ∙ ap (λ c. Typed kind (map.insert rows (k, l) c)) same

pub read_once : {wanted : List Kind} {before one two : SoFar} {line : List ℕ} → IsRead wanted before line one → IsRead wanted before line two → one ≡ two
read_once (table_text.skipped skips) (table_text.skipped skips') = refl
read_once (table_text.skipped skips) (table_text.type_line reads is wants) = absurd (cc)
read_once (table_text.skipped skips) (table_text.row reads is methods spells free) = absurd (cc)
read_once (table_text.type_line reads is wants) (table_text.skipped skips) = absurd (cc)
read_once (table_text.type_line reads is wants) (table_text.type_line reads' is' wants') =
    ap (λ kind. Typed kind map.empty) (same_kind (wanted_along (type_line_name is is') wants) wants')
read_once (table_text.row reads is methods spells free) (table_text.skipped skips) = absurd (cc)
read_once (table_text.row {kind} {rows} reads is methods spells free) (table_text.row reads' is' methods' spells' free') =
    let along = methods_along (row_line_first is is') (row_line_second is is') methods in
    inserted kind rows (same_first along methods') (same_second along methods') (same_condition (spells_along (row_line_condition is is') spells) spells')

pub all_read_once : (wanted : List Kind) (before start one two : SoFar) (lines : List (List ℕ)) → before ≡ start → AreRead wanted before lines one
    → AreRead wanted start lines two → one ≡ two
all_read_once wanted before start one two [] same first second = sym first ∙ same ∙ second
all_read_once wanted before start one two (line ∷ lines) same first second =
    let Reads : SoFar → Type 0 = λ s. IsRead wanted s line first.0 in
    all_read_once wanted first.0 second.0 one two lines (read_once (subst Reads same first.1) second.1) first.2 second.2

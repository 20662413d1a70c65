-- The faults of single lines.
use Rattle.std.proofs.Common.{◌≡◌, ℕ, false, true, List, [], ◌∷◌, None, Some, Contains, sym, subst, ◌∙◌}
use Rattle.std.specs.FinMap as map
use Rattle.gx_base.specs.declared.kinds.Kind.{Kind}
use Rattle.gx_base.specs.Kinds.{kind_number}
use Rattle.gx_base.specs.Conditions.{Condition}
use Rattle.gx_base.specs.TableRows.{RowMap}
use Rattle.cond_syntax.specs.Tokens.{Token, Word, TypeKey, Colon, tokens_in}
use Rattle.cond_syntax.specs.Fronts.{front_of, IsOfForm, all_known}
use Rattle.cond_syntax.specs.TableTexts as table
use Rattle.cond_syntax.specs.TableTexts.{SoFar, Untyped, Typed, HasFault, IsTypeLine, IsRowLine, IsWanted, AreMethods, IsTooDeep, Spells, IsRead, is_skipped, kind_named, type_line, row, no_type, no_form, unknown_method, unknown_kind, unknown_word, second_type, second_row, too_deep}
use Rattle.cond_terms.specs.LineForms.{BeginsRow}
use Rattle.cond_text.specs.LineAnswers.{IsRefused, IsNoPlace}
use Rattle.cond_text.specs.declared.tables.line_faults.LineFault.{LineFault}
use Rattle.cond_text.specs.declared.tables.line_faults.LineFault.TheVariants.{Syntax, UnknownMethod, UnknownName, Twice, TooDeep, NoMemory}

-- ---- rows

pub no_type_line : (ts : List Token) (first second : List ℕ) (condition : List Token) → BeginsRow ts first second condition → (name : List ℕ) → IsTypeLine ts name → ⊥
no_type_line ts first second condition begins name is =
    let clash : TypeKey ∷ Word name ∷ [] ≡ Word first ∷ Word second ∷ Colon ∷ condition = sym is ∙ begins in cc

pub row_untyped : (wanted : List Kind) (ts : List Token) (first second : List ℕ) (condition : List Token) → BeginsRow ts first second condition → HasFault wanted Untyped ts table.Syntax
row_untyped wanted ts first second condition begins = no_type (no_type_line ts first second condition begins)

same_condition : (a b c d : List ℕ) (s t : List Token) → Word a ∷ Word b ∷ Colon ∷ s ≡ Word c ∷ Word d ∷ Colon ∷ t → s ≡ t
same_condition a b c d s t e = cc

pub malformed_row : (wanted : List Kind) (kind : Kind) (rows : RowMap) (ts : List Token) (first second : List ℕ) (condition : List Token)
    → (IsOfForm condition → ⊥) → BeginsRow ts first second condition → HasFault wanted (Typed kind rows) ts table.Syntax
malformed_row wanted kind rows ts first second condition none begins =
    no_form (no_type_line ts first second condition begins)
    (λ a b other line. none (subst IsOfForm (same_condition a b first second other condition (sym line.is ∙ begins)) line.form))

pub unknown_methods : (wanted : List Kind) (kind : Kind) (rows : RowMap) (ts : List Token) (first second : List ℕ) (condition : List Token)
    → IsOfForm condition → ((i j : ℕ) → AreMethods kind first second i j → ⊥) → BeginsRow ts first second condition → HasFault wanted (Typed kind rows) ts table.UnknownMethod
unknown_methods wanted kind rows ts first second condition form none begins = unknown_method (record { is = begins; form = form }) none

pub unknown_words : (wanted : List Kind) (kind : Kind) (rows : RowMap) (ts : List Token) (first second : List ℕ) (i j : ℕ) (condition : List Token)
    → IsOfForm condition → all_known (kind_number kind) false (front_of condition) ≡ false → AreMethods kind first second i j
    → BeginsRow ts first second condition → HasFault wanted (Typed kind rows) ts table.UnknownName
unknown_words wanted kind rows ts first second i j condition form unknown methods begins = unknown_word (record { is = begins; form = form }) methods unknown

pub too_deep_row : (wanted : List Kind) (kind : Kind) (rows : RowMap) (ts : List Token) (first second : List ℕ) (i j : ℕ) (condition : List Token)
    → IsOfForm condition → all_known (kind_number kind) false (front_of condition) ≡ true → IsTooDeep condition → AreMethods kind first second i j → map.get rows (i, j) ≡ None
    → BeginsRow ts first second condition → HasFault wanted (Typed kind rows) ts table.TooDeep
too_deep_row wanted kind rows ts first second i j condition form known deep methods free begins = too_deep (record { is = begins; form = form }) methods known free deep

-- a row for which there is no place, where its words are known
pub no_place : (wanted : List Kind) (kind : Kind) (rows : RowMap) (ts : List Token) (first second : List ℕ) (condition : List Token) (fault : LineFault)
    → IsOfForm condition → all_known (kind_number kind) false (front_of condition) ≡ true → IsNoPlace kind rows first second fault
    → BeginsRow ts first second condition → IsRefused wanted (Typed kind rows) ts fault
no_place wanted kind rows ts first second condition Syntax form known none begins = absurd none
no_place wanted kind rows ts first second condition UnknownMethod form known none begins = unknown_methods wanted kind rows ts first second condition form none begins
no_place wanted kind rows ts first second condition UnknownName form known none begins = absurd none
no_place wanted kind rows ts first second condition Twice form known none begins = second_row (record { is = begins; form = form }) none.methods known none.has
no_place wanted kind rows ts first second condition TooDeep form known none begins = absurd none
no_place wanted kind rows ts first second condition NoMemory form known none begins = tt

-- ---- `type` lines

-- the name is that of no kind
pub unnamed_kind : (wanted : List Kind) (before : SoFar) (ts : List Token) (name : List ℕ) → None ≡ kind_named name → IsTypeLine ts name → HasFault wanted before ts table.UnknownName
unnamed_kind wanted before ts name none is = unknown_kind is (λ kind wants. let clash : None ≡ Some kind = none ∙ wants.named in cc)

same_kind : (a b : Kind) → Some a ≡ Some b → a ≡ b
same_kind a b e = cc

pub unwanted_kind : (wanted : List Kind) (before : SoFar) (ts : List Token) (name : List ℕ) (kind : Kind) → Some kind ≡ kind_named name → (Contains wanted kind → ⊥)
    → IsTypeLine ts name → HasFault wanted before ts table.UnknownName
unwanted_kind wanted before ts name kind named none is =
    unknown_kind is (λ other wants. none (subst (Contains wanted) (sym (same_kind kind other (named ∙ wants.named))) wants.wants))

pub second_kind : (wanted : List Kind) (kind other : Kind) (rows : RowMap) (ts : List Token) (name : List ℕ) → Some other ≡ kind_named name → Contains wanted other
    → IsTypeLine ts name → HasFault wanted (Typed kind rows) ts table.Twice
second_kind wanted kind other rows ts name named wants is = second_type is (record { named = sym named; wants = wants })

-- ---- other lines

-- the line is neither a `type` line nor a row
pub no_line : (wanted : List Kind) (before : SoFar) (ts : List Token)
    → ((name : List ℕ) → IsTypeLine ts name → ⊥) × ((first second : List ℕ) (condition : List Token) → BeginsRow ts first second condition → ⊥)
    → HasFault wanted before ts table.Syntax
no_line wanted Untyped ts none = no_type none.0
no_line wanted (Typed kind rows) ts none = no_form none.0 (λ first second condition line. none.1 first second condition line.is)

-- ---- lines without a fault

pub first_kind : (wanted : List Kind) (kind : Kind) (line name : List ℕ) → Some kind ≡ kind_named name → Contains wanted kind → is_skipped line ≡ false
    → IsTypeLine (tokens_in line) name → IsRead wanted Untyped line (Typed kind map.empty)
first_kind wanted kind line name named wants some is = type_line some is (record { named = sym named; wants = wants })

pub next_row : (wanted : List Kind) (kind : Kind) (rows : RowMap) (line first second : List ℕ) (ts : List Token) (i j : ℕ) (condition : Condition)
    → AreMethods kind first second i j → Spells kind ts condition → map.get rows (i, j) ≡ None → is_skipped line ≡ false
    → BeginsRow (tokens_in line) first second ts → IsRead wanted (Typed kind rows) line (Typed kind (map.insert rows (i, j) condition))
next_row wanted kind rows line first second ts i j condition methods spells free some begins = row some begins methods spells free

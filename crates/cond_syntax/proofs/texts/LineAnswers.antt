-- Each line of a text is read or has a fault.
use Rattle.std.specs.Prelude.{◌≡◌, ◌⊎◌, ℕ, zero, suc, ◌≤◌, ◌<◌, true, false, List, [], ◌∷◌, slice_get, Option, Some, None, Contains, refl}
use Rattle.std.proofs.Common.{sym, ◌∙◌, ap, subst, inl, inr, arith}
use Rattle.std.proofs.lemmas.Bool.{cases_Bool, cases_eq, cases_lt}
use Rattle.std.specs.FinMap as map
use Rattle.gx_base.specs.declared.kinds.Kind.{Kind}
use Rattle.gx_base.specs.declared.kinds.Kind.TheVariants.{Set}
use Rattle.gx_base.specs.Conditions.{Condition}
use Rattle.gx_base.specs.Kinds.{kind_number}
use Rattle.gx_base.specs.Methods.{method_of}
use Rattle.gx_base.specs.TableRows.{RowMap}
use Rattle.cond_syntax.specs.Tokens.{Token, Word, TypeKey, Colon, tokens_in}
use Rattle.cond_syntax.specs.WrittenConditions.{WrittenCondition, depth_of}
use Rattle.cond_syntax.specs.Fronts.{front_of, IsOfForm, all_known}
use Rattle.cond_syntax.proofs.machine.Machine.{Reading, Wrong, Cut, Whole, reading_of}
use Rattle.cond_syntax.proofs.grammar.FrontLemmas.{front_whole}
use Rattle.cond_syntax.proofs.grammar.KnownWords.{known_words}
use Rattle.cond_syntax.proofs.machine.MachineLemmas.{whole_is_spelled, whole_is_not_cut, cut_is_cut, whole_has_form, cut_has_form, wrong_has_no_form}
use Rattle.cond_syntax.specs.TableTexts as table_text
use Rattle.cond_syntax.specs.TableTexts.{most_deep, all_kinds, kind_named, is_skipped, IsTypeLine, IsRowLine, IsWanted, AreMethods, Spells, IsTooDeep, SoFar, Untyped, Typed, IsRead, Fault, HasFault}
use Rattle.cond_syntax.proofs.texts.LineReading.{row_line_condition, type_is_no_row}

-- ---- what a value is, it is with an equation

some_or_none : {A : Type 0} (o : Option A) → ((x : A) × (o ≡ Some x)) ⊎ (o ≡ None)
some_or_none None = inr refl
some_or_none (Some x) = inl (x, refl)

-- ---- whether a name is that of a wanted kind

abbrev kind_at : ℕ → Option Kind
kind_at number = slice_get all_kinds number

kind_at_number : (kind : Kind) → kind_at (kind_number kind) ≡ Some kind
kind_at_number Set = refl
kind_at_number kind = refl

same_number : (kind other : Kind) → kind_number kind ≡ kind_number other → kind ≡ other
same_number kind other same = let both : Some kind ≡ Some other = sym (kind_at_number kind) ∙ ap kind_at same ∙ kind_at_number other in cc

same_or_not : (kind other : Kind) → (kind ≡ other) ⊎ (kind ≡ other → ⊥)
same_or_not kind other = elim (cases_eq (kind_number kind) (kind_number other)) [
  | inl same ↦ inl (same_number kind other same)
  | inr differ ↦ inr (λ same. differ (ap kind_number same))
]

found_later : (kind first : Kind) (kinds : List Kind) → Contains kinds kind → Contains (first ∷ kinds) kind
found_later kind first kinds (place, within, is) = (suc place, omega arith, is)

found_here : (kind first : Kind) (kinds : List Kind) → first ≡ kind → Contains (first ∷ kinds) kind
found_here kind first kinds same = (zero, omega arith, same)

nowhere : (kind first : Kind) (kinds : List Kind) → (first ≡ kind → ⊥) → (Contains kinds kind → ⊥) → Contains (first ∷ kinds) kind → ⊥
nowhere kind first kinds differ none (zero, within, is) = differ is
nowhere kind first kinds differ none (suc place, within, is) = none (place, omega arith, is)

contained_or_not : (kind : Kind) (kinds : List Kind) → Contains kinds kind ⊎ (Contains kinds kind → ⊥)
contained_or_not kind [] = inr (λ found. let within : found.0 < 0 = found.1 in omega arith)
contained_or_not kind (first ∷ kinds) = elim (same_or_not first kind) [
  | inl same ↦ inl (found_here kind first kinds same)
  | inr differ ↦ elim (contained_or_not kind kinds) [
    | inl found ↦ inl (found_later kind first kinds found)
    | inr none ↦ inr (nowhere kind first kinds differ none)
  ]
]

-- the kind of the name is wanted, or there is no wanted kind of this name
abbrev WantedOrNot : List Kind → List ℕ → Type 0
WantedOrNot wanted name = ((kind : Kind) × IsWanted wanted name kind) ⊎ ((kind : Kind) → IsWanted wanted name kind → ⊥)

unwanted : (wanted : List Kind) (name : List ℕ) (kind other : Kind) → kind_named name ≡ Some kind → (Contains wanted kind → ⊥) → IsWanted wanted name other → ⊥
unwanted wanted name kind other named none wants =
    let both : Some other ≡ Some kind = sym wants.named ∙ named in
    let same : other ≡ kind = cc in
    none (subst (λ (k : Kind). Contains wanted k) same wants.wants)

unnamed : (wanted : List Kind) (name : List ℕ) (kind : Kind) → kind_named name ≡ None → IsWanted wanted name kind → ⊥
unnamed wanted name kind none wants = let differ : None ≡ Some kind = sym none ∙ wants.named in cc

wanted_or_not : (wanted : List Kind) (name : List ℕ) → WantedOrNot wanted name
wanted_or_not wanted name = elim (some_or_none (kind_named name)) [
  | inl (kind, named) ↦ elim (contained_or_not kind wanted) [
    | inl found ↦ inl (kind, record { named = named; wants = found })
    | inr none ↦ inr (λ other wants. unwanted wanted name kind other named none wants)
  ]
  | inr none ↦ inr (λ kind wants. unnamed wanted name kind none wants)
]

-- ---- whether two words are those of methods

no_first : (kind : Kind) (first second : List ℕ) → method_of (kind_number kind) first ≡ None → (i j : ℕ) → AreMethods kind first second i j → ⊥
no_first kind first second none i j methods = let differ : None ≡ Some i = sym none ∙ methods.first_is in cc

no_second : (kind : Kind) (first second : List ℕ) → method_of (kind_number kind) second ≡ None → (i j : ℕ) → AreMethods kind first second i j → ⊥
no_second kind first second none i j methods = let differ : None ≡ Some j = sym none ∙ methods.second_is in cc

methods_or_not : (kind : Kind) (first second : List ℕ) → ((i : ℕ) × (j : ℕ) × AreMethods kind first second i j) ⊎ ((i j : ℕ) → AreMethods kind first second i j → ⊥)
methods_or_not kind first second = elim (some_or_none (method_of (kind_number kind) first)) [
  | inl (i, one) ↦ elim (some_or_none (method_of (kind_number kind) second)) [
    | inl (j, two) ↦ inl (i, j, record { first_is = one; second_is = two })
    | inr none ↦ inr (no_second kind first second none)
  ]
  | inr none ↦ inr (no_first kind first second none)
]

-- ---- what kind of line the tokens are

data Shape (ts : List Token) : Type 0 where
  of_type : (name : List ℕ) → IsTypeLine ts name → Shape ts
  of_row : (first second : List ℕ) (condition : List Token) → ts ≡ Word first ∷ Word second ∷ Colon ∷ condition → Shape ts
  of_none : ((name : List ℕ) → IsTypeLine ts name → ⊥) → ((first second : List ℕ) (condition : List Token) → ts ≡ Word first ∷ Word second ∷ Colon ∷ condition → ⊥) → Shape ts

shape_of : (ts : List Token) → Shape ts
shape_of (TypeKey ∷ Word name ∷ []) = of_type name refl
shape_of (Word first ∷ Word second ∷ Colon ∷ condition) = of_row first second condition refl
shape_of _ = of_none (λ name is. cc) (λ first second condition is. cc)

-- ---- the answer of a line

pub data LineAnswer (wanted : List Kind) (before : SoFar) (line : List ℕ) : Type 0 where
  reads : (next : SoFar) → IsRead wanted before line next → LineAnswer wanted before line
  faulty : (fault : Fault) → is_skipped line ≡ false → HasFault wanted before (tokens_in line) fault → LineAnswer wanted before line

type_answer : (wanted : List Kind) (before : SoFar) (line name : List ℕ) → is_skipped line ≡ false → IsTypeLine (tokens_in line) name → LineAnswer wanted before line
type_answer wanted Untyped line name seen is = elim (wanted_or_not wanted name) [
  | inl (kind, wants) ↦ reads (Typed kind map.empty) (table_text.type_line seen is wants)
  | inr none ↦ faulty table_text.UnknownName seen (table_text.unknown_kind is none)
]
type_answer wanted (Typed kind rows) line name seen is = elim (wanted_or_not wanted name) [
  | inl (other, wants) ↦ faulty table_text.Twice seen (table_text.second_type is wants)
  | inr none ↦ faulty table_text.UnknownName seen (table_text.unknown_kind is none)
]

-- ---- of a row, by what its condition is

-- the tokens have the form of a condition, and are too deep or, where their words are known, a condition
record IsReadable (kind : Kind) (ts : List Token) : Type 0 where
  form : IsOfForm ts
  answer : IsTooDeep ts ⊎ (all_known (kind_number kind) false (front_of ts) ≡ true → (condition : Condition) × Spells kind ts condition)

whole_spells : (kind : Kind) (ts : List Token) (tree : WrittenCondition) → reading_of ts ≡ Whole tree → depth_of tree ≤ most_deep → all_known (kind_number kind) false (front_of ts) ≡ true
    → (condition : Condition) × Spells kind ts condition
whole_spells kind ts tree is shallow known =
    let uncut = whole_is_not_cut ts tree is in
    let spelled = whole_is_spelled ts tree is in
    let all : all_known (kind_number kind) false ts ≡ true = ap (λ us. all_known (kind_number kind) false us) (sym (front_whole ts uncut)) ∙ known in
    let means = known_words (kind_number kind) ts tree spelled all in
    (means.0, record { shallow = uncut; tree = tree; spelled = spelled; means = means.1; depth = shallow })

whole_readable : (kind : Kind) (ts : List Token) (tree : WrittenCondition) → reading_of ts ≡ Whole tree → IsReadable kind ts
whole_readable kind ts tree is = elim (cases_lt most_deep (depth_of tree)) [
  | inr shallow ↦ record { form = whole_has_form ts tree is; answer = inr (whole_spells kind ts tree is shallow) }
  | inl deep ↦ record { form = whole_has_form ts tree is; answer = inl (inr (tree, whole_is_spelled ts tree is, deep)) }
]

readable_or_not : (kind : Kind) (ts : List Token) (reading : Reading) → reading_of ts ≡ reading → IsReadable kind ts ⊎ (IsOfForm ts → ⊥)
readable_or_not kind ts Wrong is = inr (wrong_has_no_form ts is)
readable_or_not kind ts Cut is = inl (record { form = cut_has_form ts is; answer = inl (inl (cut_is_cut ts is)) })
readable_or_not kind ts (Whole tree) is = inl (whole_readable kind ts tree is)

-- a row of known methods, of which no row has been read
free_answer : (wanted : List Kind) (kind : Kind) (rows : RowMap) (line first second : List ℕ) (condition : List Token) (i j : ℕ) → is_skipped line ≡ false
    → IsRowLine (tokens_in line) first second condition → AreMethods kind first second i j → all_known (kind_number kind) false (front_of condition) ≡ true
    → map.get rows (i, j) ≡ None → IsReadable kind condition → LineAnswer wanted (Typed kind rows) line
free_answer wanted kind rows line first second condition i j seen row methods known free readable = elim readable.answer [
  | inl deep ↦ faulty table_text.TooDeep seen (table_text.too_deep row methods known free deep)
  | inr spells ↦ let spelled = spells known in reads (Typed kind (map.insert rows (i, j) spelled.0)) (table_text.row seen row.is methods spelled.1 free)
]

-- a row of known methods
named_answer : (wanted : List Kind) (kind : Kind) (rows : RowMap) (line first second : List ℕ) (condition : List Token) (i j : ℕ) → is_skipped line ≡ false
    → IsRowLine (tokens_in line) first second condition → AreMethods kind first second i j → IsReadable kind condition → LineAnswer wanted (Typed kind rows) line
named_answer wanted kind rows line first second condition i j seen row methods readable =
    elim (cases_Bool (all_known (kind_number kind) false (front_of condition))) [
      | inr unknown ↦ faulty table_text.UnknownName seen (table_text.unknown_word row methods unknown)
      | inl known ↦ elim (some_or_none (map.get rows (i, j))) [
        | inl (other, is) ↦ faulty table_text.Twice seen (table_text.second_row row methods known is)
        | inr free ↦ free_answer wanted kind rows line first second condition i j seen row methods known free readable
      ]
    ]

no_row_form : (ts : List Token) (a b : List ℕ) (condition : List Token) → ts ≡ Word a ∷ Word b ∷ Colon ∷ condition → (IsOfForm condition → ⊥) → (first second : List ℕ)
    (other : List Token) → IsRowLine ts first second other → ⊥
no_row_form ts a b condition is none first second other row = none (subst (λ (us : List Token). IsOfForm us) (row_line_condition row.is is) row.form)

row_answer : (wanted : List Kind) (kind : Kind) (rows : RowMap) (line first second : List ℕ) (condition : List Token) → is_skipped line ≡ false
    → tokens_in line ≡ Word first ∷ Word second ∷ Colon ∷ condition → LineAnswer wanted (Typed kind rows) line
row_answer wanted kind rows line first second condition seen is = elim (readable_or_not kind condition (reading_of condition) refl) [
  | inr none ↦ faulty table_text.Syntax seen
      (table_text.no_form (λ name type_is. type_is_no_row type_is is) (no_row_form (tokens_in line) first second condition is none))
  | inl readable ↦ elim (methods_or_not kind first second) [
    | inl (i, j, methods) ↦ named_answer wanted kind rows line first second condition i j seen (record { is = is; form = readable.form }) methods readable
    | inr none ↦ faulty table_text.UnknownMethod seen (table_text.unknown_method (record { is = is; form = readable.form }) none)
  ]
]

-- ---- of any line

shape_answer : (wanted : List Kind) (before : SoFar) (line : List ℕ) → is_skipped line ≡ false → Shape (tokens_in line) → LineAnswer wanted before line
shape_answer wanted before line seen (of_type name is) = type_answer wanted before line name seen is
shape_answer wanted Untyped line seen (of_row first second condition is) = faulty table_text.Syntax seen (table_text.no_type (λ name type_is. type_is_no_row type_is is))
shape_answer wanted (Typed kind rows) line seen (of_row first second condition is) = row_answer wanted kind rows line first second condition seen is
shape_answer wanted Untyped line seen (of_none no_type no_row) = faulty table_text.Syntax seen (table_text.no_type no_type)
shape_answer wanted (Typed kind rows) line seen (of_none no_type no_row) =
    faulty table_text.Syntax seen (table_text.no_form no_type (λ first second condition row. no_row first second condition row.is))

-- a line is read or has a fault, whatever has been read before it
pub line_answer : (wanted : List Kind) (before : SoFar) (line : List ℕ) → LineAnswer wanted before line
line_answer wanted before line = elim (cases_Bool (is_skipped line)) [
  | inl skips ↦ reads before (table_text.skipped skips)
  | inr seen ↦ shape_answer wanted before line seen (shape_of (tokens_in line))
]

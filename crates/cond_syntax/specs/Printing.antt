-- How conditions and tables are printed.
use Rattle.std.specs.Prelude.{ℕ, nat_le, Bool, true, false, ◌==◌, if◌then◌else◌, List, [], ◌∷◌, ◌++◌, codes}
use Rattle.std.specs.Fmt.{signed_decimal}
use Rattle.std.specs.List.{flat_map}
use Rattle.gx_base.specs.declared.kinds.Kind.{Kind}
use Rattle.gx_base.specs.declared.conditions.Side.{Side}
use Rattle.gx_base.specs.declared.conditions.Side.TheVariants.{First, Second}
use Rattle.gx_base.specs.declared.conditions.Part.{Part}
use Rattle.gx_base.specs.declared.conditions.Part.TheVariants.{ArgFirst, ArgSecond, RepFirst, RepSecond}
use Rattle.gx_base.specs.declared.conditions.Term.{Term}
use Rattle.gx_base.specs.declared.conditions.Term.TheVariants.{Const, Value, Beyond, State}
use Rattle.gx_base.specs.Conditions.{Condition, True, False, Eq, Ne, Lt, Le, And, Or, Not}
use Rattle.gx_base.specs.Kinds.{kind_number}
use Rattle.gx_base.specs.Methods.{methods_of, word_of}
use Rattle.gx_base.specs.Tables.{Rows}
use Rattle.cond_syntax.specs.TableTexts.{kind_text}

-- the letter of a value's place
abbrev pub letter_of : ℕ → ℕ
letter_of place =
    if place == 0 then 97
    else if place == 1 then 98
    else if place == 2 then 99
    else if place == 3 then 100
    else if place == 4 then 112
    else if place == 5 then 113
    else if place == 6 then 114
    else 115

abbrev pub digit_of : Side → ℕ
digit_of First = 49
digit_of Second = 50

abbrev pub part_text : Part → List ℕ
part_text ArgFirst = codes "arg1"
part_text ArgSecond = codes "arg2"
part_text RepFirst = codes "rep1"
part_text RepSecond = codes "rep2"

abbrev pub state_text : Side → List ℕ
state_text First = codes "dom1"
state_text Second = codes "dom2"

-- a value whose place is past 7 is 0
abbrev pub term_text : Term → List ℕ
term_text (Const number) = signed_decimal number
term_text (Value side place) = if nat_le place 7 then letter_of place ∷ digit_of side ∷ [] else codes "0"
term_text (Beyond x y z) = codes "beyond(" ++ part_text x ++ codes ", " ++ part_text y ++ codes ", " ++ part_text z ++ codes ")"
term_text (State side) = state_text side

abbrev pub is_or : Condition → Bool
is_or (Or x y) = true
is_or _ = false

abbrev pub is_and_or_or : Condition → Bool
is_and_or_or (And x y) = true
is_and_or_or (Or x y) = true
is_and_or_or _ = false

-- in parentheses, or as it is
abbrev pub grouped : Bool → List ℕ → List ℕ
grouped true text = codes "(" ++ text ++ codes ")"
grouped false text = text

-- One space stands between words, round an operator and after a comma. Parentheses stand only where the tree would
-- be another without them.
abbrev pub condition_text : Condition → List ℕ
condition_text True = codes "true"
condition_text False = codes "false"
condition_text (Eq x y) = term_text x ++ codes " = " ++ term_text y
condition_text (Ne x y) = term_text x ++ codes " != " ++ term_text y
condition_text (Lt x y) = term_text x ++ codes " < " ++ term_text y
condition_text (Le x y) = term_text x ++ codes " <= " ++ term_text y
condition_text (And x y) = grouped (is_or x) (condition_text x) ++ codes " and " ++ grouped (is_and_or_or y) (condition_text y)
condition_text (Or x y) = condition_text x ++ codes " or " ++ grouped (is_or y) (condition_text y)
condition_text (Not x) = codes "not " ++ grouped (is_and_or_or x) (condition_text x)

-- the line of a pair of methods
abbrev pub row_line : Rows → ℕ → ℕ → List ℕ
row_line rows first second = word_of first ++ codes " " ++ word_of second ++ codes " : " ++ condition_text (rows first second) ++ codes "\n"

-- the lines of the rows with this method first
abbrev pub first_lines : Kind → Rows → ℕ → List ℕ
first_lines kind rows first = flat_map (row_line rows first) (methods_of (kind_number kind))

abbrev pub type_text : Kind → List ℕ
type_text kind = codes "type " ++ kind_text kind ++ codes "\n"

-- the `type` line, and a line for each pair of methods of the kind, by their numbers
abbrev pub table_text : Kind → Rows → List ℕ
table_text kind rows = type_text kind ++ flat_map (first_lines kind rows) (methods_of (kind_number kind))

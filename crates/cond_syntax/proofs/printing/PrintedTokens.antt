-- The tokens of printed conditions.
use Rattle.std.specs.Prelude.{◌≡◌, ℕ, zero, suc, ◌≤◌, Bool, true, false, List, [], ◌∷◌, ◌++◌, codes, map}
use Rattle.std.proofs.Common.{refl, sym, ap, ◌∙◌, append_assoc, append-nil, arith}
use Rattle.std.specs.Fmt.{signed_decimal}
use Rattle.gx_base.specs.declared.kinds.Kind.{Kind}
use Rattle.gx_base.specs.declared.conditions.Side.{Side}
use Rattle.gx_base.specs.declared.conditions.Side.TheVariants.{First, Second}
use Rattle.gx_base.specs.declared.conditions.Part.{Part}
use Rattle.gx_base.specs.declared.conditions.Part.TheVariants.{ArgFirst, ArgSecond, RepFirst, RepSecond}
use Rattle.gx_base.specs.declared.conditions.Term.{Term}
use Rattle.gx_base.specs.declared.conditions.Term.TheVariants.{Const, Value, Beyond, State}
use Rattle.gx_base.specs.Conditions.{Condition, True, False, Eq, Ne, Lt, Le, And, Or, Not}
use Rattle.cond_syntax.specs.Tokens.{Token, Word, Number, OrKey, AndKey, NotKey, TrueKey, FalseKey, BeyondKey, Open, Close, Comma, Equal, Differ, Less, AtMost, token_of, tokens_in}
use Rattle.cond_syntax.specs.Printing.{letter_of, digit_of, part_text, state_text, term_text, is_or, is_and_or_or, grouped, condition_text}
use Rattle.cond_syntax.specs.Printable.{IsPrintableTerm, ArePrintable}
use Rattle.cond_syntax.proofs.tokens.PieceLemmas.{IsApart, none-IsApart, space-IsApart, close-IsAlone, open-IsAlone, alone-IsApart, alone_piece, tokens-append}
use Rattle.cond_syntax.proofs.printing.PrintedNumbers.{number-tokens}

-- ---- the tokens of what is printed, each in front of those that follow

abbrev pub term_onto : Term → List Token → List Token
term_onto (Const number) ts = Number number ∷ ts
term_onto (Value side place) ts = Word (letter_of place ∷ digit_of side ∷ []) ∷ ts
term_onto (Beyond x y z) ts = BeyondKey ∷ Open ∷ Word (part_text x) ∷ Comma ∷ Word (part_text y) ∷ Comma ∷ Word (part_text z) ∷ Close ∷ ts
term_onto (State side) ts = Word (state_text side) ∷ ts

-- in parentheses, or as they are
abbrev pub grouped_onto : Bool → (List Token → List Token) → List Token → List Token
grouped_onto true tokens ts = Open ∷ tokens (Close ∷ ts)
grouped_onto false tokens ts = tokens ts

abbrev pub condition_onto : Condition → List Token → List Token
condition_onto True ts = TrueKey ∷ ts
condition_onto False ts = FalseKey ∷ ts
condition_onto (Eq x y) ts = term_onto x (Equal ∷ term_onto y ts)
condition_onto (Ne x y) ts = term_onto x (Differ ∷ term_onto y ts)
condition_onto (Lt x y) ts = term_onto x (Less ∷ term_onto y ts)
condition_onto (Le x y) ts = term_onto x (AtMost ∷ term_onto y ts)
condition_onto (And x y) ts = grouped_onto (is_or x) (condition_onto x) (AndKey ∷ grouped_onto (is_and_or_or y) (condition_onto y) ts)
condition_onto (Or x y) ts = condition_onto x (OrKey ∷ grouped_onto (is_or y) (condition_onto y) ts)
condition_onto (Not x) ts = NotKey ∷ grouped_onto (is_and_or_or x) (condition_onto x) ts

-- what holds at 0 to 7
pub up_to_seven : (P : ℕ → Type 0) → P 0 → P 1 → P 2 → P 3 → P 4 → P 5 → P 6 → P 7 → (n : ℕ) → n ≤ 7 → P n
up_to_seven P a b c d e f g h zero le = a
up_to_seven P a b c d e f g h (suc zero) le = b
up_to_seven P a b c d e f g h (suc (suc zero)) le = c
up_to_seven P a b c d e f g h (suc (suc (suc zero))) le = d
up_to_seven P a b c d e f g h (suc (suc (suc (suc zero)))) le = e
up_to_seven P a b c d e f g h (suc (suc (suc (suc (suc zero))))) le = f
up_to_seven P a b c d e f g h (suc (suc (suc (suc (suc (suc zero)))))) le = g
up_to_seven P a b c d e f g h (suc (suc (suc (suc (suc (suc (suc zero))))))) le = h
up_to_seven P a b c d e f g h (suc (suc (suc (suc (suc (suc (suc (suc n)))))))) le = absurd (omega arith)

-- a text has these tokens, in front of those of what stands apart
abbrev pub Reads : List ℕ → (List Token → List Token) → Type 0
Reads text tokens = (rest : List ℕ) → IsApart rest → tokens_in (text ++ rest) ≡ tokens (tokens_in rest)

-- ---- terms

pub one-Reads : (text : List ℕ) (t : Token) → tokens_in text ≡ t ∷ [] → Reads text (λ ts. t ∷ ts)
one-Reads text t e rest apart = tokens-append text rest apart ∙ ap (λ ts. ts ++ tokens_in rest) e

value-tokens : (side : Side) (place : ℕ) → place ≤ 7 → tokens_in (term_text (Value side place)) ≡ Word (letter_of place ∷ digit_of side ∷ []) ∷ []
value-tokens First = up_to_seven (λ place. tokens_in (term_text (Value First place)) ≡ Word (letter_of place ∷ 49 ∷ []) ∷ []) refl refl refl refl refl refl refl refl
value-tokens Second = up_to_seven (λ place. tokens_in (term_text (Value Second place)) ≡ Word (letter_of place ∷ 50 ∷ []) ∷ []) refl refl refl refl refl refl refl refl

state-tokens : (side : Side) → tokens_in (state_text side) ≡ Word (state_text side) ∷ []
state-tokens First = refl
state-tokens Second = refl

part_comma : (x : Part) (rest : List ℕ) → tokens_in (part_text x ++ 44 ∷ 32 ∷ rest) ≡ Word (part_text x) ∷ Comma ∷ tokens_in rest
part_comma ArgFirst rest = refl
part_comma ArgSecond rest = refl
part_comma RepFirst rest = refl
part_comma RepSecond rest = refl

close_tokens : (rest : List ℕ) → tokens_in (41 ∷ rest) ≡ Close ∷ tokens_in rest
close_tokens rest = ap (map token_of) (alone_piece 41 rest close-IsAlone)

open_tokens : (rest : List ℕ) → tokens_in (40 ∷ rest) ≡ Open ∷ tokens_in rest
open_tokens rest = ap (map token_of) (alone_piece 40 rest open-IsAlone)

part-tokens : (x : Part) → tokens_in (part_text x) ≡ Word (part_text x) ∷ []
part-tokens ArgFirst = refl
part-tokens ArgSecond = refl
part-tokens RepFirst = refl
part-tokens RepSecond = refl

part_close : (x : Part) (rest : List ℕ) → tokens_in (part_text x ++ 41 ∷ rest) ≡ Word (part_text x) ∷ Close ∷ tokens_in rest
part_close x rest = one-Reads (part_text x) (Word (part_text x)) (part-tokens x) (41 ∷ rest) (alone-IsApart 41 rest close-IsAlone) ∙ ap (λ ts. Word (part_text x) ∷ ts) (close_tokens rest)

beyond_open : (rest : List ℕ) → tokens_in (codes "beyond(" ++ rest) ≡ BeyondKey ∷ Open ∷ tokens_in rest
beyond_open rest = ap (λ ts. BeyondKey ∷ ts) (open_tokens rest)

seven_parts : (a b c d e f g rest : List ℕ) → a ++ b ++ c ++ d ++ e ++ f ++ g ++ rest ≡ a ++ (b ++ (c ++ (d ++ (e ++ (f ++ (g ++ rest))))))
seven_parts a b c d e f g rest = simp append_assoc

beyond-Reads : (x y z : Part) → Reads (term_text (Beyond x y z)) (term_onto (Beyond x y z))
beyond-Reads x y z rest apart =
    ap tokens_in (seven_parts (codes "beyond(") (part_text x) (codes ", ") (part_text y) (codes ", ") (part_text z) (codes ")") rest)
    ∙ beyond_open (part_text x ++ 44 ∷ 32 ∷ (part_text y ++ 44 ∷ 32 ∷ (part_text z ++ 41 ∷ rest)))
    ∙ ap (λ ts. BeyondKey ∷ Open ∷ ts) (part_comma x (part_text y ++ 44 ∷ 32 ∷ (part_text z ++ 41 ∷ rest)))
    ∙ ap (λ ts. BeyondKey ∷ Open ∷ Word (part_text x) ∷ Comma ∷ ts) (part_comma y (part_text z ++ 41 ∷ rest))
    ∙ ap (λ ts. BeyondKey ∷ Open ∷ Word (part_text x) ∷ Comma ∷ Word (part_text y) ∷ Comma ∷ ts) (part_close z rest)

-- a term has its tokens
pub term-Reads : (kind : Kind) (t : Term) → IsPrintableTerm kind t → Reads (term_text t) (term_onto t)
term-Reads kind (Const number) h = one-Reads (signed_decimal number) (Number number) (number-tokens number h)
term-Reads kind (Value side place) h = one-Reads (term_text (Value side place)) (Word (letter_of place ∷ digit_of side ∷ [])) (value-tokens side place h)
term-Reads kind (Beyond x y z) h = beyond-Reads x y z
term-Reads kind (State side) h = one-Reads (state_text side) (Word (state_text side)) (state-tokens side)

-- ---- conditions

three_parts : (a b c rest : List ℕ) → a ++ b ++ c ++ rest ≡ a ++ (b ++ (c ++ rest))
three_parts a b c rest = simp append_assoc

-- two texts with a space, a sign and a space between them
sign_between : (a sign b : List ℕ) (x y : List Token → List Token) (t : Token) → ((rest : List ℕ) → tokens_in (32 ∷ (sign ++ 32 ∷ rest)) ≡ t ∷ tokens_in rest)
    → Reads a x → Reads b y → Reads (a ++ (32 ∷ (sign ++ 32 ∷ [])) ++ b) (λ ts. x (t ∷ y ts))
sign_between a sign b x y t e f g rest apart =
    ap tokens_in (three_parts a (32 ∷ (sign ++ 32 ∷ [])) b rest)
    ∙ f ((32 ∷ (sign ++ 32 ∷ [])) ++ (b ++ rest)) (space-IsApart ((sign ++ 32 ∷ []) ++ (b ++ rest)))
    ∙ ap x (ap (λ text. tokens_in (32 ∷ text)) (append_assoc sign (32 ∷ []) (b ++ rest)) ∙ e (b ++ rest) ∙ ap (λ ts. t ∷ ts) (g rest apart))

group-Reads : (text : List ℕ) (x : List Token → List Token) → Reads text x → Reads (codes "(" ++ text ++ codes ")") (λ ts. Open ∷ x (Close ∷ ts))
group-Reads text x h rest apart =
    open_tokens (text ++ 41 ∷ [] ++ rest)
    ∙ ap (λ ts. Open ∷ ts) (ap tokens_in (append_assoc text (41 ∷ []) rest) ∙ h (41 ∷ rest) (alone-IsApart 41 rest close-IsAlone) ∙ ap x (close_tokens rest))

grouped-Reads : (b : Bool) (text : List ℕ) (x : List Token → List Token) → Reads text x → Reads (grouped b text) (grouped_onto b x)
grouped-Reads true text x h = group-Reads text x h
grouped-Reads false text x h = h

not-Reads : (text : List ℕ) (x : List Token → List Token) → Reads text x → Reads (codes "not " ++ text) (λ ts. NotKey ∷ x ts)
not-Reads text x h rest apart = ap (λ ts. NotKey ∷ ts) (h rest apart)

-- a condition has its tokens
pub condition-Reads : (kind : Kind) (c : Condition) → ArePrintable kind c → Reads (condition_text c) (condition_onto c)
condition-Reads kind True h = one-Reads (codes "true") TrueKey refl
condition-Reads kind False h = one-Reads (codes "false") FalseKey refl
condition-Reads kind (Eq x y) h = sign_between (term_text x) (codes "=") (term_text y) (term_onto x) (term_onto y) Equal (λ rest. refl) (term-Reads kind x h.0) (term-Reads kind y h.1)
condition-Reads kind (Ne x y) h = sign_between (term_text x) (codes "!=") (term_text y) (term_onto x) (term_onto y) Differ (λ rest. refl) (term-Reads kind x h.0) (term-Reads kind y h.1)
condition-Reads kind (Lt x y) h = sign_between (term_text x) (codes "<") (term_text y) (term_onto x) (term_onto y) Less (λ rest. refl) (term-Reads kind x h.0) (term-Reads kind y h.1)
condition-Reads kind (Le x y) h = sign_between (term_text x) (codes "<=") (term_text y) (term_onto x) (term_onto y) AtMost (λ rest. refl) (term-Reads kind x h.0) (term-Reads kind y h.1)
condition-Reads kind (And x y) h =
    sign_between (grouped (is_or x) (condition_text x)) (codes "and") (grouped (is_and_or_or y) (condition_text y)) (grouped_onto (is_or x) (condition_onto x)) (grouped_onto (is_and_or_or y) (condition_onto y)) AndKey (λ rest. refl)
    (grouped-Reads (is_or x) (condition_text x) (condition_onto x) (condition-Reads kind x h.0))
    (grouped-Reads (is_and_or_or y) (condition_text y) (condition_onto y) (condition-Reads kind y h.1))
condition-Reads kind (Or x y) h =
    sign_between (condition_text x) (codes "or") (grouped (is_or y) (condition_text y)) (condition_onto x) (grouped_onto (is_or y) (condition_onto y)) OrKey (λ rest. refl)
    (condition-Reads kind x h.0)
    (grouped-Reads (is_or y) (condition_text y) (condition_onto y) (condition-Reads kind y h.1))
condition-Reads kind (Not x) h = not-Reads (grouped (is_and_or_or x) (condition_text x)) (grouped_onto (is_and_or_or x) (condition_onto x)) (grouped-Reads (is_and_or_or x) (condition_text x) (condition_onto x) (condition-Reads kind x h))

pub condition-tokens : (kind : Kind) (c : Condition) → ArePrintable kind c → tokens_in (condition_text c) ≡ condition_onto c []
condition-tokens kind c h = ap tokens_in (sym (append-nil (condition_text c))) ∙ condition-Reads kind c h [] none-IsApart

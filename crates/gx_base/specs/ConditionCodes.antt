-- A condition as a list of tokens in postfix order, by which values that hold conditions are stored.
use Rattle.std.specs.Prelude.{◌≡◌, ℕ, pos, ◌==◌, if◌then◌else◌, List, [], ◌∷◌, refl}
use Rattle.std.proofs.Common.{◌∙◌}
use Rattle.std.specs.Coded.{Coded, code_by, coded×, coded_ℕ, coded_list}
use Rattle.gx_base.specs.declared.conditions.Term.{Term}
use Rattle.gx_base.specs.declared.conditions.Term.TheVariants.{Const}
use Rattle.gx_base.specs.contracts.conditions.Term as term
use Rattle.gx_base.specs.Conditions.{Condition, True, False, Eq, Ne, Lt, Le, And, Or, Not}

-- the number of a form of condition, and the terms that it compares
abbrev pub PostfixToken : Type 0
PostfixToken = ℕ × (Term × Term)

-- a token of a form that compares no terms
abbrev pub mark : ℕ → PostfixToken
mark form = (form, (Const (pos 0), Const (pos 0)))

-- the tokens of a condition, and then the rest
abbrev pub tokens_then : Condition → List PostfixToken → List PostfixToken
tokens_then True rest = mark 0 ∷ rest
tokens_then False rest = mark 1 ∷ rest
tokens_then (Eq x y) rest = (2, (x, y)) ∷ rest
tokens_then (Ne x y) rest = (3, (x, y)) ∷ rest
tokens_then (Lt x y) rest = (4, (x, y)) ∷ rest
tokens_then (Le x y) rest = (5, (x, y)) ∷ rest
tokens_then (And x y) rest = tokens_then x (tokens_then y (mark 6 ∷ rest))
tokens_then (Or x y) rest = tokens_then x (tokens_then y (mark 7 ∷ rest))
tokens_then (Not x) rest = tokens_then x (mark 8 ∷ rest)

-- the last condition of a stack, negated
abbrev pub top_negated : List Condition → List Condition
top_negated [] = []
top_negated (x ∷ stack) = Not x ∷ stack

-- the last two conditions of a stack as one
abbrev pub top_joined : (Condition → Condition → Condition) → List Condition → List Condition
top_joined join [] = []
top_joined join (y ∷ []) = y ∷ []
top_joined join (y ∷ x ∷ stack) = join x y ∷ stack

-- the stack of conditions after a token
abbrev pub read_token : PostfixToken → List Condition → List Condition
read_token token stack =
    if token.0 == 0 then True ∷ stack
    else if token.0 == 1 then False ∷ stack
    else if token.0 == 2 then Eq token.1.0 token.1.1 ∷ stack
    else if token.0 == 3 then Ne token.1.0 token.1.1 ∷ stack
    else if token.0 == 4 then Lt token.1.0 token.1.1 ∷ stack
    else if token.0 == 5 then Le token.1.0 token.1.1 ∷ stack
    else if token.0 == 6 then top_joined (λ x y. And x y) stack
    else if token.0 == 7 then top_joined (λ x y. Or x y) stack
    else top_negated stack

-- the stack of conditions after all tokens
abbrev pub read_tokens : List PostfixToken → List Condition → List Condition
read_tokens [] stack = stack
read_tokens (token ∷ tokens) stack = read_tokens tokens (read_token token stack)

-- the last condition of a stack
abbrev pub first_or_true : List Condition → Condition
first_or_true [] = True
first_or_true (c ∷ stack) = c

-- the tokens of a condition
abbrev pub tokens_of : Condition → List PostfixToken
tokens_of c = tokens_then c []

-- the condition that a list of tokens stands for
abbrev pub condition_read : List PostfixToken → Condition
condition_read tokens = first_or_true (read_tokens tokens [])

pub read_tokens-tokens_then : (c : Condition) (rest : List PostfixToken) (stack : List Condition) → read_tokens (tokens_then c rest) stack ≡ read_tokens rest (c ∷ stack)
read_tokens-tokens_then True rest stack = refl
read_tokens-tokens_then False rest stack = refl
read_tokens-tokens_then (Eq x y) rest stack = refl
read_tokens-tokens_then (Ne x y) rest stack = refl
read_tokens-tokens_then (Lt x y) rest stack = refl
read_tokens-tokens_then (Le x y) rest stack = refl
read_tokens-tokens_then (And x y) rest stack = read_tokens-tokens_then x (tokens_then y (mark 6 ∷ rest)) stack ∙ read_tokens-tokens_then y (mark 6 ∷ rest) (x ∷ stack)
read_tokens-tokens_then (Or x y) rest stack = read_tokens-tokens_then x (tokens_then y (mark 7 ∷ rest)) stack ∙ read_tokens-tokens_then y (mark 7 ∷ rest) (x ∷ stack)
read_tokens-tokens_then (Not x) rest stack = read_tokens-tokens_then x (mark 8 ∷ rest) stack

-- a condition is read again from its tokens
pub condition_read-tokens_of : (c : Condition) → condition_read (tokens_of c) ≡ c
condition_read-tokens_of c = λ i. first_or_true (read_tokens-tokens_then c [] [] i)

-- a condition is stored as its tokens
abbrev pub condition_code : Coded Condition
condition_code =
    code_by (List PostfixToken) (coded_list (coded× coded_ℕ (coded× (term.the_row).coded (term.the_row).coded)))
    tokens_of condition_read condition_read-tokens_of

-- The tokens of a line.
use Rattle.std.specs.Prelude.{ℕ, ℤ, pos, neg_ℤ, ◌==◌, bytes_eq, if◌then◌else◌, List, [], ◌∷◌, map, codes, Option, Some, None}
use Rattle.std.specs.Char.{is_ascii_digit, is_ascii_alphabetic}
use Rattle.text_lines.specs.Numbers.{number_of}
use Rattle.cond_syntax.specs.Pieces.{pieces_of}

-- A word, a number, a key word, a sign, or what is none of these: a lone minus or exclamation mark, a run of more than
-- 18 digits, and any other sign.
pub data Token : Type 0 where
  Word : List ℕ → Token
  Number : ℤ → Token
  TypeKey : Token
  OrKey : Token
  AndKey : Token
  NotKey : Token
  TrueKey : Token
  FalseKey : Token
  BeyondKey : Token
  Open : Token
  Close : Token
  Comma : Token
  Colon : Token
  Equal : Token
  Differ : Token
  Less : Token
  AtMost : Token
  Odd : Token

-- a piece that begins with a letter
abbrev pub word_token : List ℕ → Token
word_token word =
    if bytes_eq word (codes "type") then TypeKey
    else if bytes_eq word (codes "or") then OrKey
    else if bytes_eq word (codes "and") then AndKey
    else if bytes_eq word (codes "not") then NotKey
    else if bytes_eq word (codes "true") then TrueKey
    else if bytes_eq word (codes "false") then FalseKey
    else if bytes_eq word (codes "beyond") then BeyondKey
    else Word word

-- a piece that begins with none of letters, digits and a minus
abbrev pub sign_token : List ℕ → Token
sign_token sign =
    if bytes_eq sign (codes "(") then Open
    else if bytes_eq sign (codes ")") then Close
    else if bytes_eq sign (codes ",") then Comma
    else if bytes_eq sign (codes ":") then Colon
    else if bytes_eq sign (codes "=") then Equal
    else if bytes_eq sign (codes "!=") then Differ
    else if bytes_eq sign (codes "<") then Less
    else if bytes_eq sign (codes "<=") then AtMost
    else Odd

abbrev pub positive_token : Option ℕ → Token
positive_token None = Odd
positive_token (Some n) = Number (pos n)

abbrev pub negative_token : Option ℕ → Token
negative_token None = Odd
negative_token (Some n) = Number (neg_ℤ (pos n))

-- what a piece is: a word, a number of 1 to 18 digits, after a minus (45) or without, or a sign
abbrev pub token_of : List ℕ → Token
token_of [] = Odd
token_of (b ∷ bs) =
    if is_ascii_alphabetic b then word_token (b ∷ bs)
    else if is_ascii_digit b then positive_token (number_of (b ∷ bs))
    else if b == 45 then negative_token (number_of bs)
    else sign_token (b ∷ bs)

-- the tokens of a line
abbrev pub tokens_in : List ℕ → List Token
tokens_in line = map token_of (pieces_of line)

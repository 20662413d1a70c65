-- The tokens that the code hands out.
use Rattle.cond_syntax.specs.Tokens as plain
use Rattle.cond_terms.specs.declared.tokens.TextToken.{TextToken}
use Rattle.cond_terms.specs.declared.tokens.TextToken.TheVariants.{Word, Number, TypeKey, OrKey, AndKey, NotKey, TrueKey, FalseKey, BeyondKey, Open, Close, Comma, Colon, Equal, Differ, Less, AtMost, Odd}

-- the token, with the signs of a word in place of the reference to them
abbrev pub token_seen : TextToken → plain.Token
token_seen (Word word) = plain.Word word.now
token_seen (Number number) = plain.Number number
token_seen TypeKey = plain.TypeKey
token_seen OrKey = plain.OrKey
token_seen AndKey = plain.AndKey
token_seen NotKey = plain.NotKey
token_seen TrueKey = plain.TrueKey
token_seen FalseKey = plain.FalseKey
token_seen BeyondKey = plain.BeyondKey
token_seen Open = plain.Open
token_seen Close = plain.Close
token_seen Comma = plain.Comma
token_seen Colon = plain.Colon
token_seen Equal = plain.Equal
token_seen Differ = plain.Differ
token_seen Less = plain.Less
token_seen AtMost = plain.AtMost
token_seen Odd = plain.Odd

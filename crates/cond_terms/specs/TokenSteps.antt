-- What one token changes in how the tokens after it are read.
use Rattle.std.specs.Prelude.{ℕ, ◌+◌, ◌-◌, ◌==◌, Bool, true, false, if◌then◌else◌, Option, Some, None}
use Rattle.cond_syntax.specs.Tokens.{Token, Word, BeyondKey, Open, Close}
use Rattle.cond_syntax.specs.Fronts.{most_open, is_known}

-- how many parentheses are open after the token, and none where more than 64 would be
abbrev pub opened_after : ℕ → Token → Option ℕ
opened_after opened Open = if opened == most_open then None else Some (opened + 1)
opened_after opened Close = Some (opened - 1)
opened_after opened _ = Some opened

-- whether the words after the token stand in `beyond`
abbrev pub inside_after : Bool → Token → Bool
inside_after inside BeyondKey = true
inside_after inside Close = false
inside_after inside _ = inside

-- the token is no word that isn't known in its place
abbrev pub knows : ℕ → Bool → Token → Bool
knows kind inside (Word word) = is_known kind inside word
knows kind inside _ = true

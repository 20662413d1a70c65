-- What a line of a table's text says by its first tokens.
use Rattle.std.specs.Prelude.{◌≡◌, ℕ, List, ◌∷◌}
use Rattle.cond_syntax.specs.Tokens.{Token, Word, Colon, tokens_in}
use Rattle.cond_syntax.specs.TableTexts.{IsTypeLine}
use Rattle.cond_terms.specs.declared.lines.Said.{Said}
use Rattle.cond_terms.specs.declared.lines.Said.TheVariants.{TypeLine, RowLine, Other}

-- the tokens are those of a row's line, whatever stands after the colon
abbrev pub BeginsRow : List Token → (first second : List ℕ) → (condition : List Token) → Type 0
BeginsRow ts first second condition = ts ≡ Word first ∷ Word second ∷ Colon ∷ condition

abbrev pub Says : List Token → Said → Type 0
Says ts (TypeLine name) = IsTypeLine ts name.now
Says ts (RowLine first second text) = BeginsRow ts first.now second.now (tokens_in text.now)
Says ts Other = ((name : List ℕ) → IsTypeLine ts name → ⊥) × ((first second : List ℕ) (condition : List Token) → BeginsRow ts first second condition → ⊥)

-- How far the tokens of a condition are read, and whether the words there are known.
use Rattle.std.specs.Prelude.{◌≡◌, ℕ, ◌+◌, ◌-◌, Bool, true, false, ◌&&◌, ◌==◌, if◌then◌else◌, List, [], ◌∷◌, ◌++◌, is_some}
use Rattle.cond_syntax.specs.Tokens.{Token, Word, BeyondKey, Open, Close}
use Rattle.cond_syntax.specs.WrittenConditions.{WrittenCondition, term_named, part_named}
use Rattle.cond_syntax.specs.Grammar.{IsCondition}

-- how many parentheses may be open at one place
abbrev pub most_open : ℕ
most_open = 64

-- the tokens before the place where more than 64 parentheses would be open, where so many are open in front
abbrev pub front_from : ℕ → List Token → List Token
front_from count [] = []
front_from count (Open ∷ ts) = if count == most_open then [] else Open ∷ front_from (count + 1) ts
front_from count (Close ∷ ts) = Close ∷ front_from (count - 1) ts
front_from count (t ∷ ts) = t ∷ front_from count ts

-- whether there is such a place
abbrev pub is_cut_from : ℕ → List Token → Bool
is_cut_from count [] = false
is_cut_from count (Open ∷ ts) = if count == most_open then true else is_cut_from (count + 1) ts
is_cut_from count (Close ∷ ts) = is_cut_from (count - 1) ts
is_cut_from count (t ∷ ts) = is_cut_from count ts

-- The tokens of a condition that are read: all, or those before the first place where more than 64 parentheses
-- would be open.
abbrev pub front_of : List Token → List Token
front_of ts = front_from 0 ts

abbrev pub is_cut : List Token → Bool
is_cut ts = is_cut_from 0 ts

-- The tokens that are read have the form of a condition: where all are read they are one, and else they can go on
-- to one. Every word is taken as known.
pub record IsOfForm (ts : List Token) : Type 0 where
  pub more : List Token
  pub whole : is_cut ts ≡ false → more ≡ []
  pub tree : WrittenCondition
  pub condition : IsCondition (front_of ts ++ more) [] tree

-- whether a word is known, between the parentheses of `beyond` or elsewhere
abbrev pub is_known : ℕ → Bool → List ℕ → Bool
is_known kind true word = is_some (part_named word)
is_known kind false word = is_some (term_named kind word)

-- Whether every word of these tokens is known in its place: after `beyond`, up to the next `)`, a word names an
-- argument or a reply, and elsewhere a term.
abbrev pub all_known : ℕ → Bool → List Token → Bool
all_known kind inside [] = true
all_known kind inside (BeyondKey ∷ ts) = all_known kind true ts
all_known kind inside (Close ∷ ts) = all_known kind false ts
all_known kind inside (Word w ∷ ts) = is_known kind inside w && all_known kind inside ts
all_known kind inside (t ∷ ts) = all_known kind inside ts

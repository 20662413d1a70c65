-- What is answered for tokens that have the form of a condition.
use Rattle.std.specs.Prelude.{Bool, true, false}
use Rattle.cond_text.specs.declared.drafts.Draft.{Draft}
use Rattle.cond_text.specs.declared.drafts.Draft.TheVariants.{Lost, Kept}
use Rattle.cond_text.specs.declared.conditions.Found.{Found}
use Rattle.cond_text.specs.declared.conditions.Found.TheVariants.{UnknownWord, TooDeep, Known}

-- by what is kept of it and whether each word is known
abbrev pub found_of : Draft → Bool → Found
found_of (Kept cond depth) all_known = Known cond
found_of Lost true = TooDeep
found_of Lost false = UnknownWord

-- What the tokens of a condition come to.
use Rattle.std.specs.Prelude.{◌≡◌, true, false, List}
use Rattle.gx_base.specs.declared.kinds.Kind.{Kind}
use Rattle.gx_base.specs.Conditions.{condition_of}
use Rattle.gx_base.specs.Kinds.{kind_number}
use Rattle.cond_syntax.specs.Tokens.{Token}
use Rattle.cond_syntax.specs.Fronts.{IsOfForm, front_of, all_known}
use Rattle.cond_syntax.specs.TableTexts.{Spells, IsTooDeep}
use Rattle.cond_text.specs.declared.conditions.Found.{Found}
use Rattle.cond_text.specs.declared.conditions.Found.TheVariants.{Malformed, UnknownWord, TooDeep, Known}

abbrev pub IsFound : Kind → List Token → Found → Type 0
IsFound kind ts Malformed = IsOfForm ts → ⊥
IsFound kind ts UnknownWord = IsOfForm ts × (all_known (kind_number kind) false (front_of ts) ≡ false)
IsFound kind ts TooDeep = IsOfForm ts × (all_known (kind_number kind) false (front_of ts) ≡ true) × IsTooDeep ts
IsFound kind ts (Known condition) = IsOfForm ts × (all_known (kind_number kind) false (front_of ts) ≡ true) × Spells kind ts (condition_of condition)

-- What is kept of conditions as they are written.
use Rattle.std.specs.Prelude.{◌≡◌, ◌⊎◌, ◌≤◌, ◌<◌, ℕ, zero, suc, Option, Some, None}
use Rattle.gx_base.specs.Conditions.{condition_of}
use Rattle.cond_syntax.specs.WrittenConditions.{WrittenCondition, And, Or, Not, depth_of, condition_in}
use Rattle.cond_syntax.specs.TableTexts.{most_deep}
use Rattle.cond_text.specs.declared.drafts.Draft.{Draft}
use Rattle.cond_text.specs.declared.drafts.Draft.TheVariants.{Lost, Kept}

-- what is kept of a condition, with the words of a kind
abbrev pub IsDraft : ℕ → WrittenCondition → Draft → Type 0
IsDraft kind written Lost = (most_deep < depth_of written) ⊎ (condition_in kind written ≡ None)
IsDraft kind written (Kept cond depth) = (depth ≡ depth_of written) × (depth ≤ most_deep) × (condition_in kind written ≡ Some (condition_of cond))

-- what is kept of a left side, where there is one
abbrev pub IsLeft : ℕ → Option WrittenCondition → Option Draft → Type 0
IsLeft kind None None = Unit {0}
IsLeft kind (Some left) (Some draft) = IsDraft kind left draft
IsLeft kind _ _ = ⊥

-- the condition under as many `not`s
abbrev pub negated_by : ℕ → WrittenCondition → WrittenCondition
negated_by zero written = written
negated_by (suc nots) written = Not (negated_by nots written)

-- the condition with the left side of an `and`, where there is one
abbrev pub both_of : Option WrittenCondition → WrittenCondition → WrittenCondition
both_of None last = last
both_of (Some left) last = And left last

-- the condition with the left side of an `or`, where there is one
abbrev pub either_of : Option WrittenCondition → WrittenCondition → WrittenCondition
either_of None last = last
either_of (Some left) last = Or left last

-- What waits for its right side, in frames.
use Rattle.std.specs.Prelude.{◌≡◌, ℕ, zero, suc, min, List, [], ◌∷◌, Option, Some, None}
use Rattle.cond_syntax.specs.WrittenConditions.{WrittenCondition}
use Rattle.cond_terms.specs.Machine.{Frame, OrLeft, AndLeft, Negation, Group, ReadingState, Operand, Done}
use Rattle.cond_text.specs.Drafts.{IsDraft, IsLeft, either_of}
use Rattle.cond_text.specs.declared.drafts.Draft.{Draft}
use Rattle.cond_text.specs.declared.levels.Level.{Level}
use Rattle.cond_text.specs.declared.levels.Conjunction.{Conjunction}

-- the frames outside of the innermost parenthesis, with it, where one is open
abbrev pub outside : Option (List Frame) → List Frame
outside None = []
outside (Some frames) = Group ∷ frames

abbrev pub or_frames : Option WrittenCondition → List Frame → List Frame
or_frames None frames = frames
or_frames (Some left) frames = OrLeft left ∷ frames

abbrev pub and_frames : Option WrittenCondition → List Frame → List Frame
and_frames None frames = frames
and_frames (Some left) frames = AndLeft left ∷ frames

abbrev pub not_frames : ℕ → List Frame → List Frame
not_frames zero frames = frames
not_frames (suc nots) frames = Negation ∷ not_frames nots frames

-- a level stands for these frames, inside of a parenthesis or of none
pub record IsLevel (kind : ℕ) (level : Level) (base : Option (List Frame)) (frames : List Frame) : Type 0 where
  pub or_left : Option WrittenCondition
  pub and_left : Option WrittenCondition
  pub nots : ℕ
  pub is_or_left : IsLeft kind or_left level.or_left
  pub is_and_left : IsLeft kind and_left level.and_left
  pub is_nots : level.nots ≡ min nots 65
  pub is : frames ≡ not_frames nots (and_frames and_left (or_frames or_left (outside base)))

-- a conjunction stands for this one, with these frames
pub record IsDraftConjunction (kind : ℕ) (conjunction : Conjunction) (base : Option (List Frame)) (last : WrittenCondition) (frames : List Frame) : Type 0 where
  pub or_left : Option WrittenCondition
  pub is_or_left : IsLeft kind or_left conjunction.or_left
  pub is_last : IsDraft kind last conjunction.last
  pub is : frames ≡ or_frames or_left (outside base)

-- the state is that after this conjunction
abbrev pub LeadsConjunction : ℕ → Option (List Frame) → ReadingState → Conjunction → Type 0
LeadsConjunction kind base state conjunction = (last : WrittenCondition) × (frames : List Frame) × IsDraftConjunction kind conjunction base last frames × (state ≡ Done last frames)

-- a unit is due in the state, inside of this level
abbrev pub LeadsLevel : ℕ → Option (List Frame) → ReadingState → Level → Type 0
LeadsLevel kind base state level = (frames : List Frame) × IsLevel kind level base frames × (state ≡ Operand frames)

-- the draft is of the condition that the conjunction ends
abbrev pub IsWhole : ℕ → Option (List Frame) → WrittenCondition → List Frame → Draft → Type 0
IsWhole kind base last frames draft = (or_left : Option WrittenCondition) × IsDraft kind (either_of or_left last) draft × (frames ≡ or_frames or_left (outside base))

-- What tokens lead to, and the levels of open parentheses.
use Rattle.std.proofs.Common.{◌≡◌, ℕ, List, [], ◌∷◌, ◌++◌, Option, Some, None, Result, Ok, Err, reverse, refl, ap, sym, ◌∙◌}
use Rattle.std.proofs.lemmas.List.{reverse-append, reverse-reverse}
use Rattle.cond_terms.specs.Machine.{ReadingState, Frame, operand_read, conjunction_read, First, Operand, whole, whole_or_wrong}
use Rattle.cond_terms.specs.Machine as machine
use Rattle.cond_syntax.specs.WrittenConditions.{WrittenCondition}
use Rattle.cond_terms.specs.CodeTokens.{token_seen}
use Rattle.cond_terms.specs.Comparisons.{term_begun}
use Rattle.cond_text.specs.Drafts.{either_of}
use Rattle.cond_text.specs.Levels.{IsLevel, IsDraftConjunction, IsWhole, LeadsLevel, LeadsConjunction, outside, or_frames}
use Rattle.cond_text.specs.Readers.{AreOutside, IsReaderPlace, HasReached, IsTaken, IsFailedAt, Fails, IsEnded, IsReadWhole, unit_begun}
use Rattle.cond_terms.specs.Sources.{reading, IsAtEnd}
use Rattle.gx_base.specs.Kinds.{kind_number}
use Rattle.cond_text.specs.declared.drafts.Draft.{Draft}
use Rattle.cond_terms.specs.declared.sources.Source.{Source}
use Rattle.cond_terms.specs.declared.sources.Stop.TheVariants.{Wrong, Cut}
use Rattle.cond_text.specs.declared.failures.Failure.{Failure}
use Rattle.cond_text.specs.declared.failures.Failure.TheVariants.{Stopped, NoMemory}
use Rattle.cond_text.specs.declared.levels.Conjunction.{Conjunction}
use Rattle.cond_text.specs.declared.readers.Innermost.{Innermost}
use Rattle.cond_text.specs.declared.readers.Innermost.TheVariants.{Due, Done}
use Rattle.cond_text.specs.declared.readers.Reader.{Reader}
use Rattle.cond_text.specs.declared.levels.Level.{Level}
use Rattle.cond_terms.specs.declared.tokens.TextToken.{TextToken}
use Rattle.cond_terms.specs.declared.tokens.TextToken.TheVariants.{NotKey, TrueKey, FalseKey, Open}

pub operand_read-other : (frames : List Frame) (t : TextToken) → (t ≡ NotKey → ⊥) → (t ≡ Open → ⊥) → operand_read frames (token_seen t) ≡ unit_begun frames (token_seen t)
operand_read-other frames NotKey isnt isnt' = absurd (isnt refl)
operand_read-other frames Open isnt isnt' = absurd (isnt' refl)
operand_read-other frames _ isnt isnt' = refl

pub unit_begun-other : (frames : List Frame) (t : TextToken) → (t ≡ TrueKey → ⊥) → (t ≡ FalseKey → ⊥) → unit_begun frames (token_seen t) ≡ term_begun First frames (token_seen t)
unit_begun-other frames TrueKey isnt isnt' = absurd (isnt refl)
unit_begun-other frames FalseKey isnt isnt' = absurd (isnt' refl)
unit_begun-other frames _ isnt isnt' = refl

-- ---- the levels of open parentheses

pub AreOutside-push : (kind : ℕ) (levels : List Level) (level : Level) (base : Option (List Frame)) (frames : List Frame) → AreOutside kind (reverse levels) base → IsLevel kind level base frames → AreOutside kind (reverse (levels ++ level ∷ [])) (Some frames)
AreOutside-push kind levels level base frames outer is = rw (reverse-append levels (level ∷ [])) (frames, base, refl, is, outer)

pub AreOutside-pop : (kind : ℕ) (levels rest : List Level) (level : Level) (base : Option (List Frame)) → levels ≡ rest ++ level ∷ [] → AreOutside kind (reverse levels) base → AreOutside kind (level ∷ reverse rest) base
AreOutside-pop kind levels rest level base is outer =
    let turned : reverse levels ≡ level ∷ reverse rest = ap reverse is ∙ reverse-append rest (level ∷ []) in
    rw turned at outer

pub AreOutside-none : (kind : ℕ) (levels : List Level) (base : Option (List Frame)) → levels ≡ [] → AreOutside kind (reverse levels) base → base ≡ None
AreOutside-none kind levels base none outer =
    let turned : reverse levels ≡ [] = ap reverse none in
    rw turned at outer

outside_some : (kind : ℕ) (levels : List Level) (base : Option (List Frame)) → AreOutside kind levels base → (levels ≡ [] → ⊥) → (frames : List Frame) × (base ≡ Some frames)
outside_some kind [] base outer some = absurd (some refl)
outside_some kind (level ∷ levels) base outer some = (outer.0, outer.2)

pub AreOutside-some : (kind : ℕ) (levels : List Level) (base : Option (List Frame)) → (levels ≡ [] → ⊥) → AreOutside kind (reverse levels) base → (frames : List Frame) × (base ≡ Some frames)
AreOutside-some kind levels base some outer = outside_some kind (reverse levels) base outer (λ none. some (sym (reverse-reverse levels) ∙ ap reverse none))

-- ---- what has been read inside of the innermost one

pub place_due : (kind : ℕ) (base : Option (List Frame)) (place : Innermost) (state : ReadingState) (level : Level) → IsReaderPlace kind base place state → place ≡ Due level → LeadsLevel kind base state level
place_due kind base place state level is due = rw due at is

pub place_done : (kind : ℕ) (base : Option (List Frame)) (place : Innermost) (state : ReadingState) (conjunction : Conjunction) → IsReaderPlace kind base place state → place ≡ Done conjunction → LeadsConjunction kind base state conjunction
place_done kind base place state conjunction is done = rw done at is

pub whole-some : (or_left : Option WrittenCondition) (frames : List Frame) (last : WrittenCondition) → whole (machine.Done last (or_frames or_left (outside (Some frames)))) ≡ None
whole-some (Some left) frames last = refl
whole-some None frames last = refl

pub whole-none : (or_left : Option WrittenCondition) (last : WrittenCondition) → whole (machine.Done last (or_frames or_left (outside None))) ≡ Some (either_of or_left last)
whole-none (Some left) last = refl
whole-none None last = refl

-- where a parenthesis is open, nothing whole has been read
pub ended_open : (kind : ℕ) (reader : Reader) (conjunction : Conjunction) (state : ReadingState) → HasReached kind reader state → reader.place ≡ Done conjunction → (reader.outer.items ≡ [] → ⊥) → whole state ≡ None
ended_open kind reader conjunction state read is some =
    let done = place_done kind read.base reader.place state conjunction read.place is in
    let open_at = AreOutside-some kind reader.outer.items read.base some read.outer in
    ap whole (done.3 ∙ ap (machine.Done done.0) (done.2.is ∙ ap (λ b. or_frames done.2.or_left (outside b)) open_at.1)) ∙ whole-some done.2.or_left open_at.0 done.0

-- where none is, the conjunction ends the whole
pub ended_closed : (kind : ℕ) (reader : Reader) (conjunction : Conjunction) (state : ReadingState) (draft : Draft) → HasReached kind reader state → reader.place ≡ Done conjunction → reader.outer.items ≡ []
    → ((base : Option (List Frame)) (last : WrittenCondition) (frames : List Frame) → IsDraftConjunction kind conjunction base last frames → IsWhole kind base last frames draft) → IsEnded kind (whole state) (Ok draft)
ended_closed kind reader conjunction state draft read is closed ends =
    let done = place_done kind read.base reader.place state conjunction read.place is in
    let none = AreOutside-none kind reader.outer.items read.base closed read.outer in
    let all = ends read.base done.0 done.1 done.2 in
    (either_of all.0 done.0, all.1, ap whole (done.3 ∙ ap (machine.Done done.0) (all.2 ∙ ap (λ b. or_frames all.0 (outside b)) none)) ∙ whole-none all.0 done.0)

pub taken_some : (kind : ℕ) (state : Option ReadingState) (taken : Option Reader) (reader : Reader) → IsTaken kind state taken → taken ≡ Some reader → (next : ReadingState) × HasReached kind reader next × (state ≡ Some next)
taken_some kind state taken reader is some = rw some at is

pub taken_none : (kind : ℕ) (state : Option ReadingState) (taken : Option Reader) → IsTaken kind state taken → taken ≡ None → state ≡ None
taken_none kind state taken is none = rw none at is

-- ---- the end of reading

pub fails_whole : (old now new : Source) (state : Option ReadingState) (failure : Failure) → reading (Some (Operand [])) old ≡ reading state now → Fails now state failure → IsFailedAt new failure → IsReadWhole old new (Err failure)
fails_whole old now new state (Stopped Wrong) same fails at = same ∙ fails
fails_whole old now new state (Stopped Cut) same fails at = (same ∙ fails, at)
fails_whole old now new state NoMemory same fails at = tt

pub ended_whole : (old new : Source) (given : Option WrittenCondition) (result : Result Draft Failure) → reading (Some (Operand [])) old ≡ whole_or_wrong given → IsAtEnd new → IsEnded (kind_number old.kind) given result → IsReadWhole old new result
ended_whole old new given (Ok draft) is at ended = (ended.0, ended.1, is ∙ ap whole_or_wrong ended.2, at)
ended_whole old new given (Err (Stopped Wrong)) is at ended = is ∙ ap whole_or_wrong ended
ended_whole old new given (Err (Stopped Cut)) is at ended = absurd ended
ended_whole old new given (Err NoMemory) is at ended = tt

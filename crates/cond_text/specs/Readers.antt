-- What has been read, as a state of the grammar's machine.
use Rattle.std.specs.Prelude.{◌≡◌, ℕ, List, [], ◌∷◌, reverse, Option, Some, None, Result, Ok, Err}
use Rattle.gx_base.specs.Kinds.{kind_number}
use Rattle.cond_syntax.specs.WrittenConditions.{WrittenCondition, True, False}
use Rattle.cond_terms.specs.Machine as machine
use Rattle.cond_terms.specs.Machine.{Frame, ReadingState, Operand, Whole, First, unit_done}
use Rattle.cond_terms.specs.Comparisons.{term_begun}
use Rattle.cond_syntax.specs.Tokens.{Token, TrueKey, FalseKey}
use Rattle.cond_text.specs.Drafts.{IsDraft}
use Rattle.cond_text.specs.Levels.{IsLevel, LeadsConjunction, LeadsLevel}
use Rattle.cond_terms.specs.Sources.{reading, Stops, IsStoppedAt, IsAtEnd}
use Rattle.cond_terms.specs.declared.sources.Source.{Source}
use Rattle.cond_terms.specs.declared.sources.Stop.{Stop}
use Rattle.cond_terms.specs.declared.sources.Stop.TheVariants.{Wrong, Cut}
use Rattle.cond_text.specs.declared.drafts.Draft.{Draft}
use Rattle.cond_text.specs.declared.failures.Failure.{Failure}
use Rattle.cond_text.specs.declared.failures.Failure.TheVariants.{Stopped, NoMemory}
use Rattle.cond_text.specs.declared.levels.Level.{Level}
use Rattle.cond_text.specs.declared.readers.Innermost.{Innermost}
use Rattle.cond_text.specs.declared.readers.Innermost.TheVariants.{Due, Done}
use Rattle.cond_text.specs.declared.readers.Reader.{Reader}

-- levels, the innermost first, stand for the frames outside of the innermost parenthesis
abbrev pub AreOutside : ℕ → List Level → Option (List Frame) → Type 0
AreOutside kind [] base = base ≡ None
AreOutside kind (level ∷ levels) base = (frames : List Frame) × (below : Option (List Frame)) × (base ≡ Some frames) × IsLevel kind level below frames × AreOutside kind levels below

abbrev pub IsReaderPlace : ℕ → Option (List Frame) → Innermost → ReadingState → Type 0
IsReaderPlace kind base (Due level) state = LeadsLevel kind base state level
IsReaderPlace kind base (Done conjunction) state = LeadsConjunction kind base state conjunction

-- what has been read is this state, with the words of a kind
pub record HasReached (kind : ℕ) (reader : Reader) (state : ReadingState) : Type 0 where
  pub base : Option (List Frame)
  pub outer : AreOutside kind (reverse reader.outer.items) base
  pub place : IsReaderPlace kind base reader.place state

-- the reader has come to this state, if there is one
abbrev pub IsTaken : ℕ → Option ReadingState → Option Reader → Type 0
IsTaken kind state (Some reader) = (next : ReadingState) × HasReached kind reader next × (state ≡ Some next)
IsTaken kind state None = state ≡ None

-- where reading stops for a further parenthesis, no token is ahead
abbrev pub IsFailedAt : Source → Failure → Type 0
IsFailedAt source (Stopped stop) = IsStoppedAt source stop
IsFailedAt source NoMemory = Unit {0}

abbrev pub IsFailed : {T : Type 0} → Source → Result T Failure → Type 0
IsFailed source (Ok value) = Unit {0}
IsFailed source (Err failure) = IsFailedAt source failure

-- Reading ends, from a state on. The state is none where what has been read before can't stand there.
abbrev pub Fails : Source → Option ReadingState → Failure → Type 0
Fails source state (Stopped stop) = Stops source state stop
Fails source state NoMemory = Unit {0}

-- What is read leads from this state, if there is one, to that of the reader.
abbrev pub LeadsReader : ℕ → Source → Source → Option ReadingState → Result Reader Failure → Type 0
LeadsReader kind old new state (Ok reader) = (next : ReadingState) × HasReached kind reader next × (reading state old ≡ reading (Some next) new)
LeadsReader kind old new state (Err failure) = Fails old state failure

-- the state after a token where a unit is due, no `not` and no parenthesis
abbrev pub unit_begun : List Frame → Token → Option ReadingState
unit_begun frames TrueKey = Some (unit_done True frames)
unit_begun frames FalseKey = Some (unit_done False frames)
unit_begun frames t = term_begun First frames t

-- what is read is a unit that this token begins, no `not` and no parenthesis
abbrev pub LeadsUnit : Source → Source → Token → Result Draft Stop → Type 0
LeadsUnit old new t (Ok draft) = (written : WrittenCondition) × IsDraft (kind_number old.kind) written draft × ((frames : List Frame) → reading (unit_begun frames t) old ≡ reading (Some (unit_done written frames)) new)
LeadsUnit old new t (Err stop) = (frames : List Frame) → Stops old (unit_begun frames t) stop

-- the condition that has been read, if it is whole
abbrev pub IsEnded : ℕ → Option WrittenCondition → Result Draft Failure → Type 0
IsEnded kind whole (Ok draft) = (written : WrittenCondition) × IsDraft kind written draft × (whole ≡ Some written)
IsEnded kind whole (Err (Stopped Wrong)) = whole ≡ None
IsEnded kind whole (Err (Stopped Cut)) = ⊥
IsEnded kind whole (Err NoMemory) = Unit {0}

-- what reading all tokens comes to
abbrev pub IsReadWhole : Source → Source → Result Draft Failure → Type 0
IsReadWhole old new (Ok draft) = (written : WrittenCondition) × IsDraft (kind_number old.kind) written draft × (reading (Some (Operand [])) old ≡ Whole written) × IsAtEnd new
IsReadWhole old new (Err (Stopped Wrong)) = reading (Some (Operand [])) old ≡ machine.Wrong
IsReadWhole old new (Err (Stopped Cut)) = (reading (Some (Operand [])) old ≡ machine.Cut) × IsAtEnd new
IsReadWhole old new (Err NoMemory) = Unit {0}

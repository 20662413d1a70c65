-- What the tokens that are still to be read come to.
use Rattle.std.specs.Prelude.{◌≡◌, ◌≤◌, ◌<◌, ℕ, Bool, true, false, ◌&&◌, List, [], ◌∷◌, length, Option, Some, Result, Ok, Err}
use Rattle.gx_base.specs.declared.kinds.Kind.{Kind}
use Rattle.gx_base.specs.Kinds.{kind_number}
use Rattle.cond_syntax.specs.Tokens as plain
use Rattle.cond_syntax.specs.Tokens.{tokens_in}
use Rattle.cond_syntax.specs.Fronts.{front_from, front_of, is_cut_from, all_known}
use Rattle.cond_syntax.specs.Fronts as fronts
use Rattle.cond_terms.specs.Machine as machine
use Rattle.cond_terms.specs.Machine.{ReadingState, Reading, run, ended, step, whole, whole_or_wrong}
use Rattle.cond_terms.specs.CodeTokens.{token_seen}
use Rattle.cond_terms.specs.declared.tokens.TextToken.{TextToken}
use Rattle.cond_terms.specs.declared.sources.Source.{Source}
use Rattle.cond_terms.specs.declared.sources.Next.{Next}
use Rattle.cond_terms.specs.declared.sources.Next.TheVariants.{Read, End}
use Rattle.cond_terms.specs.declared.sources.Next.TheVariants as next
use Rattle.cond_terms.specs.declared.sources.Stop.{Stop}
use Rattle.cond_terms.specs.declared.sources.Stop.TheVariants.{Wrong, Cut}

-- the tokens that are still to be read
abbrev pub tokens_ahead : Source → List plain.Token
tokens_ahead source = front_from source.opened (tokens_in source.rest.now)

-- whether one parenthesis too many would be open after them
abbrev pub is_cut : Source → Bool
is_cut source = is_cut_from source.opened (tokens_in source.rest.now)

-- what reading all of them from a state on comes to
unfoldable pub reading : Option ReadingState → Source → Reading
reading state source = ended (is_cut source) (run state (tokens_ahead source))

-- whether each word is known in its place, of those that have been read and those ahead
unfoldable pub words_known : Source → Bool
words_known source = source.all_known && all_known (kind_number source.kind) source.inside (tokens_ahead source)

-- nothing of a text has been read
pub record IsSourceStart (wanted : Kind) (text : List ℕ) (source : Source) : Type 0 where
  pub kind : source.kind ≡ wanted
  pub known : words_known source ≡ all_known (kind_number wanted) false (front_of (tokens_in text))
  pub ahead : tokens_ahead source ≡ front_of (tokens_in text)
  pub cut : is_cut source ≡ fronts.is_cut (tokens_in text)

-- a part of what is ahead has been read
pub record IsLater (old new : Source) : Type 0 where
  pub kind : new.kind ≡ old.kind
  pub known : words_known old ≡ words_known new
  pub cut : is_cut old ≡ is_cut new
  pub shorter : length new.rest.now ≤ length old.rest.now

-- no token is ahead
abbrev pub IsAtEnd : Source → Type 0
IsAtEnd source = tokens_ahead source ≡ []

-- one token has been read
pub record IsRead (old : Source) (token : plain.Token) (new : Source) : Type 0 where
  pub ahead : tokens_ahead old ≡ token ∷ tokens_ahead new
  pub shorter : length new.rest.now < length old.rest.now

-- what the next token is
abbrev pub IsNext : Source → Source → Next → Type 0
IsNext old new (Read token) = IsRead old (token_seen token) new
IsNext old new End = (is_cut old ≡ false) × IsAtEnd old × IsAtEnd new
IsNext old new next.Cut = (is_cut old ≡ true) × IsAtEnd old × IsAtEnd new

-- where reading stops for a further parenthesis, no token is ahead
abbrev pub IsStoppedAt : Source → Stop → Type 0
IsStoppedAt source Wrong = Unit {0}
IsStoppedAt source Cut = IsAtEnd source

abbrev pub IsStopped : {T : Type 0} → Source → Result T Stop → Type 0
IsStopped source (Ok value) = Unit {0}
IsStopped source (Err stop) = IsStoppedAt source stop

-- Reading stops, from a state on. The state is none where what has been read before can't stand there.
abbrev pub Stops : Source → Option ReadingState → Stop → Type 0
Stops source state Wrong = reading state source ≡ machine.Wrong
Stops source state Cut = reading state source ≡ machine.Cut

-- what is read leads from one state to another that depends on the answer
abbrev pub Leads : {T : Type 0} → Source → Source → Option ReadingState → (T → ReadingState) → Result T Stop → Type 0
Leads old new state after (Ok value) = reading state old ≡ reading (Some (after value)) new
Leads old new state after (Err stop) = Stops old state stop

-- there is no token
abbrev pub StopsToken : Source → ReadingState → Stop → Type 0
StopsToken source state Wrong = reading (Some state) source ≡ whole_or_wrong (whole state)
StopsToken source state Cut = reading (Some state) source ≡ machine.Cut

-- one token has been read that has to be there
abbrev pub LeadsToken : Source → Source → ReadingState → Result TextToken Stop → Type 0
LeadsToken old new state (Ok token) = reading (Some state) old ≡ reading (step state (token_seen token)) new
LeadsToken old new state (Err stop) = StopsToken old state stop

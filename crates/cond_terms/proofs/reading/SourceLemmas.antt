-- What is read after one token, and after what stops.
use Rattle.std.proofs.Common.{◌≡◌, ◌<◌, ℕ, length, Bool, true, false, ◌&&◌, List, [], ◌∷◌, Option, Some, None, refl, ap, ◌∙◌, arith}
use Rattle.gx_base.specs.declared.kinds.Kind.{Kind}
use Rattle.gx_base.specs.Kinds.{kind_number}
use Rattle.cond_syntax.specs.Tokens as plain
use Rattle.cond_syntax.specs.Tokens.{tokens_in}
use Rattle.cond_terms.specs.Machine as machine
use Rattle.cond_terms.specs.Machine.{ReadingState, Operand, run, step, whole, whole_or_wrong, reading_of}
use Rattle.cond_syntax.specs.Fronts.{all_known}
use Rattle.cond_terms.specs.TokenSteps.{opened_after, inside_after, knows}
use Rattle.cond_terms.specs.Sources.{reading, words_known, tokens_ahead, is_cut, IsSourceStart, IsLater, IsAtEnd, IsRead, Stops, StopsToken}
use Rattle.cond_terms.specs.declared.sources.Stop.{Stop}
use Rattle.cond_terms.specs.declared.sources.Stop.TheVariants.{Wrong, Cut}
use Rattle.cond_terms.specs.declared.sources.Source.{Source}
use Rattle.cond_terms.proofs.reading.TokenLemmas.{front_from-next, is_cut_from-next, front_from-cut, is_cut_from-cut, all_known-next}

-- the second source is the first after a token
pub record IsAfter (old : Source) (t : plain.Token) (new : Source) : Type 0 where
  pub token : tokens_in old.rest.now ≡ t ∷ tokens_in new.rest.now
  pub opened : opened_after old.opened t ≡ Some new.opened
  pub kind : new.kind ≡ old.kind
  pub inside : new.inside ≡ inside_after old.inside t
  pub all_known : new.all_known ≡ knows (kind_number old.kind) old.inside t && old.all_known

tokens_ahead-after : (old new : Source) (t : plain.Token) → IsAfter old t new → tokens_ahead old ≡ t ∷ tokens_ahead new
tokens_ahead-after old new t after = rw after.token (front_from-next old.opened new.opened t (tokens_in new.rest.now) after.opened)

is_cut-after : (old new : Source) (t : plain.Token) → IsAfter old t new → is_cut old ≡ is_cut new
is_cut-after old new t after = rw after.token (is_cut_from-next old.opened new.opened t (tokens_in new.rest.now) after.opened)

and-turned : (a b c : Bool) → a && (b && c) ≡ (b && a) && c
and-turned true true c = refl
and-turned true false c = refl
and-turned false true c = refl
and-turned false false c = refl

words_known-after : (old new : Source) (t : plain.Token) → IsAfter old t new → words_known old ≡ words_known new
unfolding words_known
words_known-after old new t after =
    let front = tokens_ahead-after old new t after in
    let next = all_known-next (kind_number old.kind) old.inside t (tokens_ahead new) in
    let turned = and-turned old.all_known (knows (kind_number old.kind) old.inside t) (all_known (kind_number old.kind) (inside_after old.inside t) (tokens_ahead new)) in
    rw (front, next, turned, after.all_known, after.inside, after.kind)

pub IsLater-after : (old new : Source) (t : plain.Token) → IsAfter old t new → length new.rest.now < length old.rest.now → IsLater old new
IsLater-after old new t after shorter = record {
  kind = after.kind;
  known = words_known-after old new t after;
  cut = is_cut-after old new t after;
  shorter = omega arith;
}

pub IsRead-after : (old new : Source) (t : plain.Token) → IsAfter old t new → length new.rest.now < length old.rest.now → IsRead old t new
IsRead-after old new t after shorter = record { ahead = tokens_ahead-after old new t after; shorter = shorter }

and-true : (a : Bool) → a && true ≡ a
and-true true = refl
and-true false = refl

-- no token is ahead
pub words_known-end : (source : Source) → IsAtEnd source → words_known source ≡ source.all_known
unfolding words_known
words_known-end source ahead = rw ahead (and-true source.all_known)

pub tokens_ahead-end : (source : Source) → tokens_in source.rest.now ≡ [] → IsAtEnd source
tokens_ahead-end source is = rw is

pub is_cut-end : (source : Source) → tokens_in source.rest.now ≡ [] → is_cut source ≡ false
is_cut-end source is = rw is

pub tokens_ahead-cut : (source : Source) (t : plain.Token) (ts : List plain.Token) → tokens_in source.rest.now ≡ t ∷ ts → opened_after source.opened t ≡ None → IsAtEnd source
tokens_ahead-cut source t ts is cut = rw is (front_from-cut source.opened t ts cut)

pub is_cut-cut : (source : Source) (t : plain.Token) (ts : List plain.Token) → tokens_in source.rest.now ≡ t ∷ ts → opened_after source.opened t ≡ None → is_cut source ≡ true
is_cut-cut source t ts is cut = rw is (is_cut_from-cut source.opened t ts cut)

-- ---- what reading comes to

pub reading-start : (kind : Kind) (text : List ℕ) (source : Source) → IsSourceStart kind text source → reading (Some (Operand [])) source ≡ reading_of (tokens_in text)
unfolding reading
reading-start kind text source start = rw (start.ahead, start.cut)

pub reading-next : (old new : Source) (t : plain.Token) → IsLater old new → IsRead old t new → (state : ReadingState) → reading (Some state) old ≡ reading (step state t) new
unfolding reading
reading-next old new t later read state = rw (read.ahead, later.cut)

pub reading-end : (source : Source) → is_cut source ≡ false → IsAtEnd source → (state : ReadingState) → reading (Some state) source ≡ whole_or_wrong (whole state)
unfolding reading
reading-end source cut ahead state = rw (ahead, cut)

pub reading-cut : (source : Source) → is_cut source ≡ true → IsAtEnd source → (state : ReadingState) → reading (Some state) source ≡ machine.Cut
unfolding reading
reading-cut source cut ahead state = rw (ahead, cut)

run-none : (ts : List plain.Token) → run None ts ≡ None
run-none [] = refl
run-none (t ∷ ts) = refl

pub reading-none : (source : Source) → reading None source ≡ machine.Wrong
unfolding reading
reading-none source = rw (run-none (tokens_ahead source))

-- ---- what stops

-- a token that isn't there ends what isn't whole
pub token_stops : (source : Source) (state : ReadingState) (stop : Stop) → whole state ≡ None → StopsToken source state stop → Stops source (Some state) stop
token_stops source state Wrong part is = is ∙ ap whole_or_wrong part
token_stops source state Cut part is = is

-- a token that can't stand there
pub other_stops : (old new : Source) (state : ReadingState) (after : Option ReadingState) → reading (Some state) old ≡ reading after new → after ≡ None → reading (Some state) old ≡ machine.Wrong
other_stops old new state after same none = same ∙ ap (λ s. reading s new) none ∙ reading-none new

-- what stops a part stops the whole
pub part_stops : (old middle : Source) (first second : Option ReadingState) (stop : Stop) → reading first old ≡ reading second middle → Stops middle second stop → Stops old first stop
part_stops old middle first second Wrong same is = same ∙ is
part_stops old middle first second Cut same is = same ∙ is

-- ---- one part after another

pub IsLater-then : (old middle new : Source) → IsLater old middle → IsLater middle new → IsLater old new
IsLater-then old middle new first second = record {
  kind = second.kind ∙ first.kind;
  known = first.known ∙ second.known;
  cut = first.cut ∙ second.cut;
  shorter = omega arith;
}

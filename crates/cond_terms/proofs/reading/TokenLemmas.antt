-- What the tokens are that aren't the looked-for ones, and what one token changes.
use Rattle.std.proofs.Common.{◌≡◌, ℕ, ◌+◌, ◌==◌, cond, Bool, true, false, ◌&&◌, List, [], ◌∷◌, Some, None, refl, ap, Bor, ℤ}
use Rattle.cond_syntax.specs.Tokens as plain
use Rattle.cond_syntax.specs.Fronts.{front_from, is_cut_from, all_known}
use Rattle.cond_syntax.specs.WrittenConditions.{WrittenTerm, Comparison}
use Rattle.cond_terms.specs.Machine.{ReadingState, Frame, Due, Second, open_read, word_read, comma_read, close_due, operator_read, term_read}
use Rattle.cond_terms.specs.Comparisons.{term_begun}
use Rattle.cond_terms.specs.CodeTokens.{token_seen}
use Rattle.cond_terms.specs.TokenSteps.{opened_after, inside_after, knows}
use Rattle.cond_terms.specs.declared.tokens.TextToken.{TextToken}
use Rattle.cond_terms.specs.declared.tokens.TextToken.TheVariants.{Word, Number, BeyondKey, Open, Close, Comma, Equal, Differ, Less, AtMost}

some_same : {A : Type 0} {x y : A} → Some x ≡ Some y → x ≡ y
some_same is = cc

pub open_read-other : (next : ReadingState) (t : TextToken) → (t ≡ Open → ⊥) → open_read next (token_seen t) ≡ None
open_read-other next Open isnt = absurd (isnt refl)
open_read-other next _ isnt = refl

pub word_read-other : (next : List ℕ → ReadingState) (t : TextToken) → ((word : Bor (List ℕ)) → t ≡ Word word → ⊥) → word_read next (token_seen t) ≡ None
word_read-other next (Word word) isnt = absurd (isnt word refl)
word_read-other next _ isnt = refl

pub comma_read-other : (next : ReadingState) (t : TextToken) → (t ≡ Comma → ⊥) → comma_read next (token_seen t) ≡ None
comma_read-other next Comma isnt = absurd (isnt refl)
comma_read-other next _ isnt = refl

pub close_due-other : (next : ReadingState) (t : TextToken) → (t ≡ Close → ⊥) → close_due next (token_seen t) ≡ None
close_due-other next Close isnt = absurd (isnt refl)
close_due-other next _ isnt = refl

pub operator_read-other : (x : WrittenTerm) (frames : List Frame) (t : TextToken) → (t ≡ Equal → ⊥) → (t ≡ Differ → ⊥) → (t ≡ Less → ⊥) → (t ≡ AtMost → ⊥) → operator_read x frames (token_seen t) ≡ None
operator_read-other x frames Equal equal differ less at_most = absurd (equal refl)
operator_read-other x frames Differ equal differ less at_most = absurd (differ refl)
operator_read-other x frames Less equal differ less at_most = absurd (less refl)
operator_read-other x frames AtMost equal differ less at_most = absurd (at_most refl)
operator_read-other x frames _ equal differ less at_most = refl

pub term_begun-other : (due : Due) (frames : List Frame) (t : TextToken) → ((w : Bor (List ℕ)) → t ≡ Word w → ⊥) → ((z : ℤ) → t ≡ Number z → ⊥) → (t ≡ BeyondKey → ⊥) → term_begun due frames (token_seen t) ≡ None
term_begun-other due frames (Word w) word number beyond = absurd (word w refl)
term_begun-other due frames (Number z) word number beyond = absurd (number z refl)
term_begun-other due frames BeyondKey word number beyond = absurd (beyond refl)
term_begun-other due frames _ word number beyond = refl

-- a second term begins as a first one does
pub term_read-begun : (x : WrittenTerm) (op : Comparison) (frames : List Frame) (t : plain.Token) → term_read x op frames t ≡ term_begun (Second x op) frames t
term_read-begun x op frames (plain.Word w) = refl
term_read-begun x op frames (plain.Number z) = refl
term_read-begun x op frames plain.BeyondKey = refl
term_read-begun x op frames _ = refl

-- ---- what is read after one token

if-some : {A B : Type 0} (b : Bool) (k m : A) (f : A → B) (none : B) → cond b None (Some k) ≡ Some m → cond b none (f k) ≡ f m
if-some true k m f none is = cc
if-some false k m f none is = ap f (some_same is)

if-none : {A B : Type 0} (b : Bool) (k : A) (none other : B) → cond b None (Some k) ≡ None → cond b none other ≡ none
if-none true k none other is = refl
if-none false k none other is = cc

-- a further parenthesis can be open, or the token opens none
pub front_from-next : (n m : ℕ) (t : plain.Token) (ts : List plain.Token) → opened_after n t ≡ Some m → front_from n (t ∷ ts) ≡ t ∷ front_from m ts
front_from-next n m plain.Open ts is = if-some (n == 64) (n + 1) m (λ k. plain.Open ∷ front_from k ts) [] is
front_from-next n m plain.Close ts is = cc
front_from-next n m _ ts is = cc

pub is_cut_from-next : (n m : ℕ) (t : plain.Token) (ts : List plain.Token) → opened_after n t ≡ Some m → is_cut_from n (t ∷ ts) ≡ is_cut_from m ts
is_cut_from-next n m plain.Open ts is = if-some (n == 64) (n + 1) m (λ k. is_cut_from k ts) true is
is_cut_from-next n m plain.Close ts is = cc
is_cut_from-next n m _ ts is = cc

-- no further parenthesis can be open, and the token opens one
pub front_from-cut : (n : ℕ) (t : plain.Token) (ts : List plain.Token) → opened_after n t ≡ None → front_from n (t ∷ ts) ≡ []
front_from-cut n plain.Open ts is = if-none (n == 64) (n + 1) [] _ is
front_from-cut n plain.Close ts is = cc
front_from-cut n _ ts is = cc

pub is_cut_from-cut : (n : ℕ) (t : plain.Token) (ts : List plain.Token) → opened_after n t ≡ None → is_cut_from n (t ∷ ts) ≡ true
is_cut_from-cut n plain.Open ts is = if-none (n == 64) (n + 1) true _ is
is_cut_from-cut n plain.Close ts is = cc
is_cut_from-cut n _ ts is = cc

pub all_known-next : (kind : ℕ) (inside : Bool) (t : plain.Token) (ts : List plain.Token) → all_known kind inside (t ∷ ts) ≡ knows kind inside t && all_known kind (inside_after inside t) ts
all_known-next kind inside (plain.Word w) ts = refl
all_known-next kind inside plain.BeyondKey ts = refl
all_known-next kind inside plain.Close ts = refl
all_known-next kind inside _ ts = refl

-- Reading from line to line.
use Rattle.std.proofs.Common.{◌≡◌, ◌≢◌, ℕ, zero, suc, ◌+◌, ◌-◌, ◌≤◌, false, List, [], ◌∷◌, ◌++◌, length, take, drop, refl, sym, ap, subst, ◌∙◌, arith, add-one, length-drop}
use Rattle.gx_base.specs.declared.kinds.Kind.{Kind}
use Rattle.text_lines.specs.Lines.{lines_of}
use Rattle.cond_syntax.specs.Tokens.{tokens_in}
use Rattle.cond_syntax.specs.TableTexts as table
use Rattle.cond_syntax.specs.TableTexts.{Fault, SoFar, Untyped, IsRead, AreRead, HasFault, IsFaultHere, IsFirstFault, is_skipped}
use Rattle.cond_text.specs.TextFaults.{IsFaultTold}
use Rattle.cond_text.specs.LineAnswers.{IsRefused, told_at}
use Rattle.cond_text.specs.declared.tables.line_faults.LineFault.{LineFault}
use Rattle.cond_text.specs.declared.tables.line_faults.LineFault.TheVariants.{Syntax, UnknownMethod, UnknownName, Twice, TooDeep, NoMemory}

-- so many lines have been read without a fault, and this text is left
pub record HaveRead (wanted : List Kind) (bytes : List ℕ) (count : ℕ) (rest : List ℕ) (reached : SoFar) : Type 0 where
  pub left : drop count (lines_of bytes) ≡ lines_of rest
  pub earlier : AreRead wanted Untyped (take count (lines_of bytes)) reached

-- ---- lists

drop_next : (xs : List (List ℕ)) (n : ℕ) (y : List ℕ) (ys : List (List ℕ)) → drop n xs ≡ y ∷ ys → drop (suc n) xs ≡ ys
drop_next [] zero y ys e = cc
drop_next [] (suc n) y ys e = cc
drop_next (x ∷ xs) zero y ys e = cc
drop_next (x ∷ xs) (suc n) y ys e = drop_next xs n y ys e

take_next : (xs : List (List ℕ)) (n : ℕ) (y : List ℕ) (ys : List (List ℕ)) → drop n xs ≡ y ∷ ys → take (suc n) xs ≡ take n xs ++ y ∷ []
take_next [] zero y ys e = cc
take_next [] (suc n) y ys e = cc
take_next (x ∷ xs) zero y ys e = cc
take_next (x ∷ xs) (suc n) y ys e = ap (λ (l : List (List ℕ)). x ∷ l) (take_next xs n y ys e)

short : (xs : List (List ℕ)) (n : ℕ) (y : List ℕ) (ys : List (List ℕ)) → drop n xs ≡ y ∷ ys → n + 1 ≤ length xs
short [] zero y ys e = absurd (cc)
short [] (suc n) y ys e = absurd (cc)
short (x ∷ xs) zero y ys e = omega arith
short (x ∷ xs) (suc n) y ys e = let h = short xs n y ys e in omega arith

take_whole : (xs : List (List ℕ)) (n : ℕ) → drop n xs ≡ [] → take n xs ≡ xs
take_whole [] zero e = refl
take_whole [] (suc n) e = refl
take_whole (x ∷ xs) zero e = absurd (cc)
take_whole (x ∷ xs) (suc n) e = ap (λ (l : List (List ℕ)). x ∷ l) (take_whole xs n e)

AreRead-push : (wanted : List Kind) (before : SoFar) (lines : List (List ℕ)) (reached : SoFar) (line : List ℕ) (next : SoFar)
    → AreRead wanted before lines reached → IsRead wanted reached line next → AreRead wanted before (lines ++ line ∷ []) next
AreRead-push wanted before [] reached line next same read = (next, subst (λ (s : SoFar). IsRead wanted s line next) (sym same) read, refl)
AreRead-push wanted before (other ∷ lines) reached line next all read = (all.0, all.1, AreRead-push wanted all.0 lines reached line next all.2 read)

-- ---- steps

pub one_more : (wanted : List Kind) (bytes : List ℕ) (count : ℕ) (rest line after : List ℕ) (reached next : SoFar)
    → HaveRead wanted bytes count rest reached → lines_of rest ≡ line ∷ lines_of after → IsRead wanted reached line next → HaveRead wanted bytes (count + 1) after next
one_more wanted bytes count rest line after reached next have first read =
    let front : drop count (lines_of bytes) ≡ line ∷ lines_of after = have.left ∙ first in
    record {
      left = rw add-one (drop_next (lines_of bytes) count line (lines_of after) front);
      earlier = rw (add-one, take_next (lines_of bytes) count line (lines_of after) front) (AreRead-push wanted Untyped (take count (lines_of bytes)) reached line next have.earlier read);
    }

fault_here : (wanted : List Kind) (reached : SoFar) (lines : List (List ℕ)) (line : List ℕ) (others : List (List ℕ)) (fault : Fault)
    → lines ≡ line ∷ others → is_skipped line ≡ false → HasFault wanted reached (tokens_in line) fault → IsFaultHere wanted reached lines fault
fault_here wanted reached lines line others fault e some has = subst (λ (l : List (List ℕ)). IsFaultHere wanted reached l fault) (sym e) (some, has)

fault_next : (wanted : List Kind) (bytes : List ℕ) (count : ℕ) (rest line after : List ℕ) (reached : SoFar) (fault : Fault)
    → HaveRead wanted bytes count rest reached → lines_of rest ≡ line ∷ lines_of after → is_skipped line ≡ false → HasFault wanted reached (tokens_in line) fault
    → IsFirstFault wanted bytes (count + 1) fault
fault_next wanted bytes count rest line after reached fault have first some has =
    let front : drop count (lines_of bytes) ≡ line ∷ lines_of after = have.left ∙ first in
    let at : count + 1 - 1 ≡ count = omega arith in
    let inside = short (lines_of bytes) count line (lines_of after) front in
    record {
      from_one = omega arith;
      within = omega arith;
      before = reached;
      earlier = rw at have.earlier;
      here = rw at (fault_here wanted reached (drop count (lines_of bytes)) line (lines_of after) fault front some has);
    }

-- there is a line more
pub one_line_more : (wanted : List Kind) (bytes : List ℕ) (count : ℕ) (rest line after : List ℕ) (reached : SoFar)
    → HaveRead wanted bytes count rest reached → lines_of rest ≡ line ∷ lines_of after → count + 1 ≤ length (lines_of bytes)
one_line_more wanted bytes count rest line after reached have first = short (lines_of bytes) count line (lines_of after) (have.left ∙ first)

-- what is refused at the next line is told with its number
pub refused_next : (wanted : List Kind) (bytes : List ℕ) (count : ℕ) (rest line after : List ℕ) (reached : SoFar) (fault : LineFault)
    → HaveRead wanted bytes count rest reached → lines_of rest ≡ line ∷ lines_of after → (fault ≢ NoMemory → is_skipped line ≡ false)
    → IsRefused wanted reached (tokens_in line) fault → IsFaultTold (IsFirstFault wanted bytes) (told_at (count + 1) fault)
refused_next wanted bytes count rest line after reached Syntax have first some has = fault_next wanted bytes count rest line after reached table.Syntax have first (some (λ e. cc)) has
refused_next wanted bytes count rest line after reached UnknownMethod have first some has = fault_next wanted bytes count rest line after reached table.UnknownMethod have first (some (λ e. cc)) has
refused_next wanted bytes count rest line after reached UnknownName have first some has = fault_next wanted bytes count rest line after reached table.UnknownName have first (some (λ e. cc)) has
refused_next wanted bytes count rest line after reached Twice have first some has = fault_next wanted bytes count rest line after reached table.Twice have first (some (λ e. cc)) has
refused_next wanted bytes count rest line after reached TooDeep have first some has = fault_next wanted bytes count rest line after reached table.TooDeep have first (some (λ e. cc)) has
refused_next wanted bytes count rest line after reached NoMemory have first some has = tt

-- ---- the end

empty : (xs : List ℕ) → length xs ≡ 0 → xs ≡ []
empty [] e = refl
empty (x ∷ xs) e = absurd (omega arith)

pub all_read : (wanted : List Kind) (bytes : List ℕ) (count : ℕ) (rest : List ℕ) (reached : SoFar) → HaveRead wanted bytes count rest reached → length rest ≡ 0 → AreRead wanted Untyped (lines_of bytes) reached
all_read wanted bytes count rest reached have none =
    let nothing : drop count (lines_of bytes) ≡ [] = have.left ∙ ap lines_of (empty rest none) in
    subst (λ (l : List (List ℕ)). AreRead wanted Untyped l reached) (take_whole (lines_of bytes) count nothing) have.earlier

-- how many lines were read
pub all_counted : (wanted : List Kind) (bytes : List ℕ) (count : ℕ) (rest : List ℕ) (reached : SoFar) → HaveRead wanted bytes count rest reached → count ≤ length (lines_of bytes) → length rest ≡ 0 → count ≡ length (lines_of bytes)
all_counted wanted bytes count rest reached have within none =
    let nothing : length (drop count (lines_of bytes)) ≡ 0 = ap (λ (l : List (List ℕ)). length l) (have.left ∙ ap lines_of (empty rest none)) in
    omega (arith, length-drop count (lines_of bytes))

take_length : (xs : List (List ℕ)) → take (length xs) xs ≡ xs
take_length [] = refl
take_length (x ∷ xs) = ap (λ (l : List (List ℕ)). x ∷ l) (take_length xs)

drop_length : (xs : List (List ℕ)) → drop (length xs) xs ≡ []
drop_length [] = refl
drop_length (x ∷ xs) = drop_length xs

-- no `type` line is told with the number of lines plus 1
pub untyped_at_end : (wanted : List Kind) (bytes : List ℕ) (count : ℕ) → AreRead wanted Untyped (lines_of bytes) Untyped → count ≡ length (lines_of bytes) → IsFirstFault wanted bytes (count + 1) table.Syntax
untyped_at_end wanted bytes count all is =
    let at : count + 1 - 1 ≡ length (lines_of bytes) = omega arith in
    record {
      from_one = omega arith;
      within = omega arith;
      before = Untyped;
      earlier = rw (at, take_length (lines_of bytes)) all;
      here = rw (at, drop_length (lines_of bytes)) (refl, refl);
    }

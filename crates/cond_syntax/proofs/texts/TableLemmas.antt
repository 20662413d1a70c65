-- Bytes are the text of one table at most, or else they have one first fault at most.
use Rattle.std.specs.Prelude.{◌≡◌, ℕ, zero, suc, ◌-◌, ◌≤◌, List, [], ◌∷◌, length, take, drop, refl}
use Rattle.std.proofs.Common.{sym, ◌∙◌, ap, subst, arith}
use Rattle.gx_base.specs.declared.kinds.Kind.{Kind}
use Rattle.gx_base.specs.TableRows.{RowMap}
use Rattle.text_lines.specs.Lines.{lines_of}
use Rattle.cond_syntax.specs.Tokens.{tokens_in}
use Rattle.cond_syntax.specs.TableTexts.{SoFar, Untyped, Typed, AreRead, IsTableText, Fault, HasFault, IsFaultHere, IsFirstFault}
use Rattle.cond_syntax.proofs.texts.LineReading.{read_once, all_read_once}
use Rattle.cond_syntax.proofs.texts.LineFaults.{one_fault, read_has_no_fault}

-- ---- one table

pub same_table : (wanted : List Kind) (bytes : List ℕ) (kind other : Kind) (rows others : RowMap) → IsTableText wanted bytes kind rows → IsTableText wanted bytes other others
    → (kind ≡ other) × (rows ≡ others)
same_table wanted bytes kind other rows others one two =
    let same : Typed kind rows ≡ Typed other others = all_read_once wanted Untyped Untyped (Typed kind rows) (Typed other others) (lines_of bytes) refl one two in
    (cc, cc)

-- ---- one fault

-- the lines have their first fault after so many lines
pub record FaultAt (wanted : List Kind) (before : SoFar) (lines : List (List ℕ)) (number : ℕ) (fault : Fault) : Type 0 where
  pub within : number ≤ length lines
  pub after : SoFar
  pub earlier : AreRead wanted before (take number lines) after
  pub here : IsFaultHere wanted after (drop number lines) fault

fault_along : {wanted : List Kind} {before start : SoFar} {lines : List (List ℕ)} {number : ℕ} {fault : Fault} → before ≡ start → FaultAt wanted before lines number fault
    → FaultAt wanted start lines number fault
fault_along {wanted} {lines} {number} {fault} same = let Here : SoFar → Type 0 = λ s. FaultAt wanted s lines number fault in subst Here same

line_fault : (wanted : List Kind) (before : SoFar) (line : List ℕ) (lines : List (List ℕ)) (fault : Fault) → FaultAt wanted before (line ∷ lines) zero fault
    → HasFault wanted before (tokens_in line) fault
line_fault wanted before line lines fault at = let Here : SoFar → Type 0 = λ s. HasFault wanted s (tokens_in line) fault in subst Here (sym at.earlier) at.here.1

-- the fault after one line less
later_fault : (wanted : List Kind) (before : SoFar) (line : List ℕ) (lines : List (List ℕ)) (number : ℕ) (fault : Fault) (at : FaultAt wanted before (line ∷ lines) (suc number) fault)
    → FaultAt wanted at.earlier.0 lines number fault
later_fault wanted before line lines number fault at =
    let within : suc number ≤ suc (length lines) = at.within in
    record { within = omega arith; after = at.after; earlier = at.earlier.2; here = at.here }

same_place : (wanted : List Kind) (before : SoFar) (lines : List (List ℕ)) (n m : ℕ) (fault other : Fault) → FaultAt wanted before lines n fault → FaultAt wanted before lines m other
    → (n ≡ m) × (fault ≡ other)
same_place wanted before [] zero zero fault other one two = (refl, one.here.1 ∙ sym two.here.1)
same_place wanted before [] zero (suc m) fault other one two = let within : suc m ≤ zero = two.within in absurd (omega arith)
same_place wanted before [] (suc n) m fault other one two = let within : suc n ≤ zero = one.within in absurd (omega arith)
same_place wanted before (line ∷ lines) zero zero fault other one two =
    (refl, one_fault wanted before (tokens_in line) fault other (line_fault wanted before line lines fault one) (line_fault wanted before line lines other two))
same_place wanted before (line ∷ lines) zero (suc m) fault other one two =
    absurd (read_has_no_fault two.earlier.1 one.here.0 (line_fault wanted before line lines fault one))
same_place wanted before (line ∷ lines) (suc n) zero fault other one two =
    absurd (read_has_no_fault one.earlier.1 two.here.0 (line_fault wanted before line lines other two))
same_place wanted before (line ∷ lines) (suc n) (suc m) fault other one two =
    let first = later_fault wanted before line lines n fault one in
    let second = fault_along (read_once two.earlier.1 one.earlier.1) (later_fault wanted before line lines m other two) in
    let same = same_place wanted one.earlier.0 lines n m fault other first second in
    (ap suc same.0, same.1)

fault_at : (wanted : List Kind) (bytes : List ℕ) (line : ℕ) (fault : Fault) → IsFirstFault wanted bytes line fault → FaultAt wanted Untyped (lines_of bytes) (line - 1) fault
fault_at wanted bytes line fault first = record { within = omega arith; after = first.before; earlier = first.earlier; here = first.here }

pub same_fault : (wanted : List Kind) (bytes : List ℕ) (line number : ℕ) (fault other : Fault) → IsFirstFault wanted bytes line fault → IsFirstFault wanted bytes number other
    → (line ≡ number) × (fault ≡ other)
same_fault wanted bytes line number fault other one two =
    let same = same_place wanted Untyped (lines_of bytes) (line - 1) (number - 1) fault other (fault_at wanted bytes line fault one) (fault_at wanted bytes number other two) in
    let place : line - 1 ≡ number - 1 = same.0 in
    (omega arith, same.1)

-- ---- no fault where there is a table

table_has_no_fault : (wanted : List Kind) (before : SoFar) (kind : Kind) (rows : RowMap) (lines : List (List ℕ)) (n : ℕ) (fault : Fault)
    → AreRead wanted before lines (Typed kind rows) → FaultAt wanted before lines n fault → ⊥
table_has_no_fault wanted before kind rows [] zero fault reads at = let differ : Typed kind rows ≡ Untyped = sym reads ∙ at.earlier ∙ at.here.0 in cc
table_has_no_fault wanted before kind rows [] (suc n) fault reads at = let within : suc n ≤ zero = at.within in omega arith
table_has_no_fault wanted before kind rows (line ∷ lines) zero fault reads at = read_has_no_fault reads.1 at.here.0 (line_fault wanted before line lines fault at)
table_has_no_fault wanted before kind rows (line ∷ lines) (suc n) fault reads at =
    table_has_no_fault wanted reads.0 kind rows lines n fault reads.2 (fault_along (read_once at.earlier.1 reads.1) (later_fault wanted before line lines n fault at))

pub no_fault_of_a_table : (wanted : List Kind) (bytes : List ℕ) (kind : Kind) (rows : RowMap) (line : ℕ) (fault : Fault) → IsTableText wanted bytes kind rows
    → IsFirstFault wanted bytes line fault → ⊥
no_fault_of_a_table wanted bytes kind rows line fault reads first =
    table_has_no_fault wanted Untyped kind rows (lines_of bytes) (line - 1) fault reads (fault_at wanted bytes line fault first)

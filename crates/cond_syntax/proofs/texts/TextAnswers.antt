-- Bytes are the text of a table, or have a first fault.
use Rattle.std.specs.Prelude.{◌≡◌, ◌⊎◌, ℕ, zero, suc, ◌-◌, ◌≤◌, false, List, [], ◌∷◌, length, refl}
use Rattle.std.proofs.Common.{subst, inl, inr, arith}
use Rattle.gx_base.specs.declared.kinds.Kind.{Kind}
use Rattle.gx_base.specs.TableRows.{RowMap}
use Rattle.text_lines.specs.Lines.{lines_of}
use Rattle.cond_syntax.specs.Tokens.{tokens_in}
use Rattle.cond_syntax.specs.TableTexts.{is_skipped, SoFar, Untyped, Typed, IsRead, AreRead, IsTableText, Fault, Syntax, HasFault, IsFirstFault}
use Rattle.cond_syntax.proofs.texts.TableLemmas.{FaultAt}
use Rattle.cond_syntax.proofs.texts.LineAnswers.{reads, faulty, line_answer}

-- the lines are read as a table, or have their first fault after so many lines
abbrev LinesAnswer : List Kind → SoFar → List (List ℕ) → Type 0
LinesAnswer wanted before lines =
    ((kind : Kind) × (rows : RowMap) × AreRead wanted before lines (Typed kind rows)) ⊎ ((number : ℕ) × (fault : Fault) × FaultAt wanted before lines number fault)

-- a line more in front
fault_later : (wanted : List Kind) (before next : SoFar) (line : List ℕ) (lines : List (List ℕ)) (number : ℕ) (fault : Fault) → IsRead wanted before line next
    → FaultAt wanted next lines number fault → FaultAt wanted before (line ∷ lines) (suc number) fault
fault_later wanted before next line lines number fault is at =
    let within : number ≤ length lines = at.within in
    record { within = omega arith; after = at.after; earlier = (next, is, at.earlier); here = at.here }

answer_later : (wanted : List Kind) (before next : SoFar) (line : List ℕ) (lines : List (List ℕ)) → IsRead wanted before line next → LinesAnswer wanted next lines
    → LinesAnswer wanted before (line ∷ lines)
answer_later wanted before next line lines is (inl (kind, rows, are)) = inl (kind, rows, (next, is, are))
answer_later wanted before next line lines is (inr (number, fault, at)) = inr (suc number, fault, fault_later wanted before next line lines number fault is at)

fault_here : (wanted : List Kind) (before : SoFar) (line : List ℕ) (lines : List (List ℕ)) (fault : Fault) → is_skipped line ≡ false → HasFault wanted before (tokens_in line) fault
    → FaultAt wanted before (line ∷ lines) zero fault
fault_here wanted before line lines fault seen has = record { within = omega arith; after = before; earlier = refl; here = (seen, has) }

lines_answer : (wanted : List Kind) (before : SoFar) (lines : List (List ℕ)) → LinesAnswer wanted before lines
lines_answer wanted Untyped [] = inr (zero, Syntax, record { within = omega arith; after = Untyped; earlier = refl; here = (refl, refl) })
lines_answer wanted (Typed kind rows) [] = inl (kind, rows, refl)
lines_answer wanted before (line ∷ lines) = elim (line_answer wanted before line) [
  | reads next is ↦ answer_later wanted before next line lines is (lines_answer wanted next lines)
  | faulty fault seen has ↦ inr (zero, fault, fault_here wanted before line lines fault seen has)
]

first_fault : (wanted : List Kind) (bytes : List ℕ) (number : ℕ) (fault : Fault) → FaultAt wanted Untyped (lines_of bytes) number fault → IsFirstFault wanted bytes (suc number) fault
first_fault wanted bytes number fault at =
    let within : number ≤ length (lines_of bytes) = at.within in
    let Here : ℕ → Type 0 = λ n. FaultAt wanted Untyped (lines_of bytes) n fault in
    let same : number ≡ suc number - 1 = omega arith in
    let moved : Here (suc number - 1) = subst Here same at in
    record { from_one = omega arith; within = omega arith; before = moved.after; earlier = moved.earlier; here = moved.here }

-- every text is that of a table or has a first fault
pub answered : (wanted : List Kind) (bytes : List ℕ)
    → ((kind : Kind) × (rows : RowMap) × IsTableText wanted bytes kind rows) ⊎ ((line : ℕ) × (fault : Fault) × IsFirstFault wanted bytes line fault)
answered wanted bytes = elim (lines_answer wanted Untyped (lines_of bytes)) [
  | inl table ↦ inl table
  | inr (number, fault, at) ↦ inr (suc number, fault, first_fault wanted bytes number fault at)
]

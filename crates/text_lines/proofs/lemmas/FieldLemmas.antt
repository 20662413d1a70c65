-- The first field of a line.
use Rattle.std.proofs.Common.{◌≡◌, ℕ, zero, suc, ◌<◌, ◌≤◌, true, false, List, [], ◌∷◌, length, get_or, take, drop, refl, sym, ◌∙◌, arith}
use Rattle.std.proofs.lemmas.Bool.{false≢true}
use Rattle.text_lines.specs.Fields.{is_blank, ends_here, fields_of, StartsField}

ends_false : (bs : List ℕ) → 0 < length bs → is_blank (get_or bs 0 0) ≡ false → ends_here bs ≡ false
ends_false [] some h = absurd (omega arith)
ends_false (b ∷ bs) some h = h

pub field_to : (line : List ℕ) (n : ℕ) → 0 < n → n ≤ length line → ((k : ℕ) → k < n → is_blank (get_or line k 0) ≡ false) → ends_here (drop n line) ≡ true → fields_of line ≡ take n line ∷ fields_of (drop n line)
field_to [] n some le none ends = absurd (omega arith)
field_to (b ∷ bs) zero some le none ends = absurd (omega arith)
field_to (b ∷ bs) (suc zero) some le none ends = rw (none 0 (omega arith), ends) refl
field_to (b ∷ bs) (suc (suc n)) some le none ends =
    let first = none 0 (omega arith) in
    let second : ends_here bs ≡ false = ends_false bs (omega arith) (none 1 (omega arith)) in
    let others = field_to bs (suc n) (omega arith) (omega arith) (λ k lt. none (suc k) (omega arith)) ends in
    rw (first, second, others) refl

pub not_at_start : (line : List ℕ) (n : ℕ) → StartsField line → 0 < length line → is_blank (get_or line n 0) ≡ true → 0 < n
not_at_start [] n starts some h = absurd (omega arith)
not_at_start (b ∷ bs) zero starts some h = absurd (false≢true (sym starts ∙ h))
not_at_start (b ∷ bs) (suc n) starts some h = omega arith

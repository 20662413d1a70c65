-- The first line of a text, and a carriage return at a line's end.
use Rattle.std.proofs.Common.{◌≡◌, ℕ, zero, suc, ◌-◌, ◌<◌, true, false, cond, eqb, List, [], ◌∷◌, length, get_or, take, drop, refl, sym, ap, ◌∙◌, inl, inr, arith}
use Rattle.std.proofs.lemmas.Bool.{cases_Bool}
use Rattle.std.proofs.lemmas.Bool.Decides.{nat_tests}
use Rattle.text_lines.specs.Lines.{onto, begins_with, lines_of, without_return_of}

-- ---- a carriage return at the end

some_not_none : (n : ℕ) → eqb (suc n) 0 ≡ false
some_not_none n = grind (arith, nat_tests)

not_eq : (a b : ℕ) → (a ≡ b → ⊥) → eqb a b ≡ false
not_eq a b h = grind (arith, nat_tests)

pub return_dropped : (b : ℕ) (bs : List ℕ) → get_or (b ∷ bs) (length bs) 0 ≡ 13 → without_return_of (b ∷ bs) ≡ take (length bs) (b ∷ bs)
return_dropped b [] last = rw last refl
return_dropped b (c ∷ bs) last = rw (some_not_none (length bs), return_dropped c bs last) refl

pub return_absent : (b : ℕ) (bs : List ℕ) → (get_or (b ∷ bs) (length bs) 0 ≡ 13 → ⊥) → without_return_of (b ∷ bs) ≡ b ∷ bs
return_absent b [] last = rw (not_eq b 13 last) refl
return_absent b (c ∷ bs) last = rw (some_not_none (length bs), return_absent c bs last) refl

pub is_dropped : (line : List ℕ) → 0 < length line → get_or line (length line - 1) 0 ≡ 13 → take (length line - 1) line ≡ without_return_of line
is_dropped [] some last = absurd (omega arith)
is_dropped (b ∷ bs) some last = let one : suc (length bs) - 1 ≡ length bs = omega arith in rw one (sym (return_dropped b bs (rw one at last)))

pub is_absent : (line : List ℕ) → 0 < length line → (get_or line (length line - 1) 0 ≡ 13 → ⊥) → line ≡ without_return_of line
is_absent [] some last = refl
is_absent (b ∷ bs) some last = let one : suc (length bs) - 1 ≡ length bs = omega arith in sym (return_absent b bs (rw one at last))

-- ---- lines

begins_true : (bs : List ℕ) → get_or bs 0 0 ≡ 10 → begins_with 10 bs ≡ true
begins_true [] h = absurd (omega (arith, h))
begins_true (b ∷ bs) h = rw h refl

-- what goes before a line feed, by its first byte
one_byte : (b : ℕ) (more : List (List ℕ)) → cond (eqb b 13) ([] ∷ more) ((b ∷ []) ∷ more) ≡ without_return_of (b ∷ []) ∷ more
one_byte b more = elim (cases_Bool (eqb b 13)) [ inl t ↦ rw t refl | inr f ↦ rw f refl ]

line_step : (b : ℕ) (bs : List ℕ) → eqb b 10 ≡ false → begins_with 10 bs ≡ false → lines_of (b ∷ bs) ≡ onto b (lines_of bs)
line_step b bs first next = rw (first, next) refl

return_step : (b c : ℕ) (bs : List ℕ) → without_return_of (b ∷ c ∷ bs) ≡ b ∷ without_return_of (c ∷ bs)
return_step b c bs = rw (some_not_none (length bs)) refl

pub line_to : (text : List ℕ) (n : ℕ) → n < length text → ((k : ℕ) → k < n → get_or text k 0 ≡ 10 → ⊥) → get_or text n 0 ≡ 10 → lines_of text ≡ without_return_of (take n text) ∷ lines_of (drop (suc n) text)
line_to [] n lt none here = absurd (omega arith)
line_to (b ∷ bs) zero lt none here = rw here refl
line_to (b ∷ bs) (suc zero) lt none here =
    let first = not_eq b 10 (none 0 (omega arith)) in
    let next = begins_true bs here in
    let others = line_to bs zero (omega arith) (λ k l. absurd (omega (arith, l))) here in
    rw (first, next, others) (one_byte b (lines_of (drop 1 bs)))
line_to (b ∷ []) (suc (suc n)) lt none here = absurd (omega arith)
line_to (b ∷ c ∷ bs) (suc (suc n)) lt none here =
    let first = not_eq b 10 (none 0 (omega arith)) in
    let next = not_eq c 10 (none 1 (omega arith)) in
    let others = line_to (c ∷ bs) (suc n) (omega arith) (λ k l. none (suc k) (omega arith)) here in
    line_step b (c ∷ bs) first next ∙ ap (onto b) others ∙ ap (λ (l : List ℕ). l ∷ lines_of (drop (suc n) bs)) (sym (return_step b c (take n bs)))

pub last_line : (text : List ℕ) → 0 < length text → ((k : ℕ) → k < length text → get_or text k 0 ≡ 10 → ⊥) → lines_of text ≡ text ∷ []
last_line [] some none = absurd (omega arith)
last_line (b ∷ []) some none = rw (not_eq b 10 (none 0 (omega arith))) refl
last_line (b ∷ c ∷ bs) some none =
    let first = not_eq b 10 (none 0 (omega arith)) in
    let next = not_eq c 10 (none 1 (omega arith)) in
    let others = last_line (c ∷ bs) (omega arith) (λ k l. none (suc k) (omega arith)) in
    line_step b (c ∷ bs) first next ∙ ap (onto b) others

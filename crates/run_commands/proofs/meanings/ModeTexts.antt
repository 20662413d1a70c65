-- The lines on modes, put together from their pieces.
use Rattle.std.proofs.Common.{◌≡◌, ℕ, zero, suc, ◌+◌, List, [], ◌∷◌, ◌++◌, map, codes, sym, ap, ◌∙◌, append_assoc, arith}
use Rattle.std.proofs.lemmas.List.{append-nil, flat_map_more}
use Rattle.std.proofs.lemmas.List.FromFn.{map-range_with_len_more}
use Rattle.std.specs.List.{flat_map, range_with_len}
use Rattle.line_writer.specs.Lines.{spaced, line}

-- the numbers from a on, and one more
range_more : (a n j : ℕ) → a + n ≡ j → range_with_len a (suc n) ≡ range_with_len a n ++ j ∷ []
range_more a zero j e = ap (λ x. x ∷ []) (let same : a ≡ j = omega arith in same)
range_more a (suc n) j e = ap (λ xs. a ∷ xs) (range_more (a + 1) n j (omega arith))

-- the lines of the numbers so far, and the next one
pub one_more_line : (f : ℕ → List ℕ) (n : ℕ) (before so_far after : List ℕ) → so_far ≡ before ++ flat_map f (range_with_len 0 n) → after ≡ so_far ++ f n → after ≡ before ++ flat_map f (range_with_len 0 (n + 1))
one_more_line f n before so_far after s e =
    let next : suc n ≡ n + 1 = omega arith in
    let number : 0 + n ≡ n = omega arith in
    e ∙ ap (λ xs. xs ++ f n) s ∙ flat_map_more f before (range_with_len 0 n) n ∙ ap (λ xs. before ++ flat_map f xs) (sym (range_more 0 n n number) ∙ ap (range_with_len 0) next)

-- fields after the first, each after a space
pub spaced_more : {A : Type 0} (text : A → List ℕ) (first : List ℕ) (others : List A) → spaced (first ∷ map text others) ≡ first ++ flat_map (λ x. 32 ∷ text x) others
spaced_more text first [] = sym (append-nil first)
spaced_more text first (x ∷ xs) = ap (λ rest. first ++ 32 ∷ rest) (spaced_more text (text x) xs)

-- the signs so far, and the next one
pub one_more_sign : (f : ℕ → ℕ) (n sign : ℕ) (before so_far encoded after : List ℕ) → so_far ≡ before ++ map f (range_with_len 0 n) → after ≡ so_far ++ encoded → encoded ≡ sign ∷ [] → sign ≡ f n
    → after ≡ before ++ map f (range_with_len 0 (n + 1))
one_more_sign f n sign before so_far encoded after s e one is =
    let number : 0 + n ≡ n = omega arith in
    e ∙ ap (λ xs. xs ++ encoded) s ∙ append_assoc before (map f (range_with_len 0 n)) encoded
    ∙ ap (λ xs. before ++ (map f (range_with_len 0 n) ++ xs)) (one ∙ ap (λ x. x ∷ []) is) ∙ ap (λ xs. before ++ xs) (sym (map-range_with_len_more f 0 n n number))

regroup : (before number fields : List ℕ) → ((before ++ (codes "mode " ++ number)) ++ fields) ++ 10 ∷ [] ≡ before ++ (codes "mode " ++ ((number ++ fields) ++ 10 ∷ []))
regroup before number fields = simp append_assoc

-- a mode's line, by its number, its members and the line feed
pub whole_line : {A : Type 0} (text : A → List ℕ) (number : List ℕ) (members others : List A) (before numbered told after : List ℕ) → numbered ≡ before ++ (codes "mode " ++ number) → told ≡ numbered ++ flat_map (λ x. 32 ∷ text x) members
    → members ≡ others → after ≡ told ++ 10 ∷ [] → after ≡ before ++ line (codes "mode" ∷ number ∷ map text others)
whole_line text number members others before numbered told after n t same a =
    a ∙ ap (λ xs. xs ++ 10 ∷ []) (t ∙ ap (λ xs. xs ++ flat_map (λ x. 32 ∷ text x) members) n)
    ∙ ap (λ xs. ((before ++ (codes "mode " ++ number)) ++ flat_map (λ x. 32 ∷ text x) xs) ++ 10 ∷ []) same ∙ regroup before number (flat_map (λ x. 32 ∷ text x) others)
    ∙ ap (λ xs. before ++ (codes "mode " ++ (xs ++ 10 ∷ []))) (sym (spaced_more text number others))

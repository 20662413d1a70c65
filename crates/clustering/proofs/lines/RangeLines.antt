-- Lines for the numbers from 0 on.
use Rattle.std.proofs.Common.{◌≡◌, ℕ, zero, suc, ◌+◌, List, [], ◌∷◌, ◌++◌, refl, sym, ap, ◌∙◌, append_assoc, arith}
use Rattle.std.proofs.lemmas.List.{append-nil}
use Rattle.std.proofs.lemmas.Grind.{flat_map-append}
use Rattle.std.proofs.lemmas.List.Concat.{flat_map-cons}
use Rattle.std.specs.List.{flat_map, range_with_len}

range_more : (a n : ℕ) → range_with_len a (suc n) ≡ range_with_len a n ++ (a + n) ∷ []
range_more a zero = let e : a ≡ a + 0 = omega arith in ap (λ (k : ℕ). k ∷ []) e
range_more a (suc n) =
    let e : (a + 1) + n ≡ a + suc n = omega arith in
    ap (λ (l : List ℕ). a ∷ l) (range_more (a + 1) n ∙ ap (λ (k : ℕ). range_with_len (a + 1) n ++ k ∷ []) e)

one_line : (f : ℕ → List ℕ) (n : ℕ) → flat_map f ((0 + n) ∷ []) ≡ f n
one_line f n = let e : 0 + n ≡ n = omega arith in flat_map-cons f (0 + n) [] ∙ append-nil (f (0 + n)) ∙ ap f e

flat_more : (f : ℕ → List ℕ) (n : ℕ) → flat_map f (range_with_len 0 (n + 1)) ≡ flat_map f (range_with_len 0 n) ++ f n
flat_more f n =
    let e : n + 1 ≡ suc n = omega arith in
    ap (λ (k : ℕ). flat_map f (range_with_len 0 k)) e ∙ ap (flat_map f) (range_more 0 n) ∙ flat_map-append f (range_with_len 0 n) ((0 + n) ∷ [])
    ∙ ap (λ (l : List ℕ). flat_map f (range_with_len 0 n) ++ l) (one_line f n)

-- one line more
pub lines_more : (f : ℕ → List ℕ) (base text new : List ℕ) (n : ℕ) → new ≡ text ++ f n → text ≡ base ++ flat_map f (range_with_len 0 n) → new ≡ base ++ flat_map f (range_with_len 0 (n + 1))
lines_more f base text new n e h =
    e ∙ ap (λ (l : List ℕ). l ++ f n) h ∙ append_assoc base (flat_map f (range_with_len 0 n)) (f n) ∙ ap (λ (l : List ℕ). base ++ l) (sym (flat_more f n))

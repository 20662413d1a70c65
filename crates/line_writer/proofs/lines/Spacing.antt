-- Spaced fields, one after another.
use Rattle.std.proofs.Common.{◌≡◌, ℕ, List, [], ◌∷◌, ◌++◌, map, sym, ap, ◌∙◌, append_assoc}
use Rattle.std.proofs.lemmas.List.{append-nil}
use Rattle.std.specs.List.{flat_map}
use Rattle.line_writer.specs.Lines.{spaced}

-- the first field, and each other one after a space
pub spaced-first : {A : Type 0} (text : A → List ℕ) (first : A) (others : List A) → spaced (map text (first ∷ others)) ≡ text first ++ flat_map (λ field. 32 ∷ text field) others
spaced-first text first [] = sym (append-nil (text first))
spaced-first text first (next ∷ others) = ap (λ rest. text first ++ 32 ∷ rest) (spaced-first text next others)

-- the same by the two texts that are added one after the other
pub spaced-added : {A : Type 0} (text : A → List ℕ) (fields others : List A) (first : A) (before between after : List ℕ) → fields ≡ first ∷ others → between ≡ before ++ text first
    → after ≡ between ++ flat_map (λ field. 32 ∷ text field) others → after ≡ before ++ spaced (map text fields)
spaced-added text fields others first before between after e b a =
    a ∙ ap (λ xs. xs ++ flat_map (λ field. 32 ∷ text field) others) b ∙ append_assoc before (text first) (flat_map (λ field. 32 ∷ text field) others)
    ∙ ap (λ xs. before ++ xs) (sym (spaced-first text first others)) ∙ ap (λ xs. before ++ spaced (map text xs)) (sym e)

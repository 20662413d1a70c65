-- Texts that grow by one piece for each method of a kind.
use Rattle.std.specs.Prelude.{◌≡◌, ℕ, ◌+◌, List, [], ◌∷◌, ◌++◌, drop}
use Rattle.std.specs.List.{flat_map}
use Rattle.std.proofs.Common.{sym, ap, ◌∙◌, append_assoc, append-nil}

-- with the pieces of the methods that are left the text comes to the whole, also once one more piece is put
pub one_more_piece : (piece : ℕ → List ℕ) (methods : List ℕ) (place method : ℕ) (was now all : List ℕ)
    → drop place methods ≡ method ∷ drop (place + 1) methods → now ≡ was ++ piece method
    → was ++ flat_map piece (drop place methods) ≡ all → now ++ flat_map piece (drop (place + 1) methods) ≡ all
one_more_piece piece methods place method was now all here put before =
    ap (λ text. text ++ flat_map piece (drop (place + 1) methods)) put
    ∙ append_assoc was (piece method) (flat_map piece (drop (place + 1) methods))
    ∙ sym (ap (λ rest. was ++ flat_map piece rest) here)
    ∙ before

-- where no method is left, the text is the whole
pub all_pieces : (piece : ℕ → List ℕ) (rest : List ℕ) (now all : List ℕ) → rest ≡ [] → now ++ flat_map piece rest ≡ all → now ≡ all
all_pieces piece rest now all none before =
    sym (append-nil now) ∙ sym (ap (λ left. now ++ flat_map piece left) none) ∙ before

-- The kind that is found for a method has it, and the word that stands at its place is the method's.
use Rattle.std.specs.Prelude.{◌≡◌, ℕ, ◌+◌, ◌-◌, ◌<◌, ◌≤◌, Bool, true, false, cond, nat_le, nat_lt, map, find, slice_get, List, [], ◌∷◌, length, Option, Some, None, refl}
use Rattle.std.specs.Option.{option_map}
use Rattle.std.proofs.Common.{sym, ap, ◌∙◌, subst, get_or, arith}
use Rattle.std.proofs.lemmas.Bool.{and_parts, leb-true, ltb-true}
use Rattle.std.proofs.lemmas.Option.{slice_get-map, slice_get-get_or}
use Rattle.std.proofs.lemmas.List.{length-map}
use Rattle.gx_base.specs.declared.kinds.Kind.{Kind}
use Rattle.gx_base.specs.declared.kinds.Kind.TheVariants.{Set, Cells, Flow, Points, Domains}
use Rattle.gx_base.specs.Kinds.{kind_number}
use Rattle.gx_base.specs.Methods.{first_method, words_of, is_method, kind_with, word_or_mark, word_of}

-- the order in which a kind is looked for
abbrev all_kinds : List Kind
all_kinds = Set ∷ Cells ∷ Flow ∷ Points ∷ Domains ∷ []

abbrev number_in : Option Kind → ℕ
number_in None = length all_kinds
number_in (Some kind) = kind_number kind

first_of : (set cells flow points domains : Bool) (kind : Kind)
    → cond set (Some Set) (cond cells (Some Cells) (cond flow (Some Flow) (cond points (Some Points) (cond domains (Some Domains) None)))) ≡ Some kind
    → cond set (kind_number Set) (cond cells (kind_number Cells) (cond flow (kind_number Flow) (cond points (kind_number Points) (cond domains (kind_number Domains) (length all_kinds))))) ≡ kind_number kind
first_of true cells flow points domains kind e = ap number_in e
first_of false true flow points domains kind e = ap number_in e
first_of false false true points domains kind e = ap number_in e
first_of false false false true domains kind e = ap number_in e
first_of false false false false true kind e = ap number_in e
first_of false false false false false kind e = ap number_in e

some_is : {a b : Kind} → Some a ≡ Some b → a ≡ b
some_is e = cc

here_or_on : (test : Kind → Bool) (known kind : Kind) (others : Option Kind) (b : Bool) → test known ≡ b → (others ≡ Some kind → test kind ≡ true) → cond b (Some known) others ≡ Some kind → test kind ≡ true
here_or_on test known kind others true passes on e = subst (λ k. test k ≡ true) (some_is e) passes
here_or_on test known kind others false passes on e = on e

found_passes : (test : Kind → Bool) (kind : Kind) (kinds : List Kind) → find test kinds ≡ Some kind → test kind ≡ true
found_passes test kind [] e = absurd (cc)
found_passes test kind (known ∷ kinds) e = here_or_on test known kind (find test kinds) (test known) refl (found_passes test kind kinds) e

word_at : {A : Type 0} (v : A → List ℕ) (words : List A) (names : List (List ℕ)) (place : ℕ) (d : A) → map v words ≡ names → place < length names → v (get_or words place d) ≡ word_or_mark (slice_get names place)
word_at v words names place d are within =
    sym (ap word_or_mark (ap (λ ns. slice_get ns place) (sym are) ∙ slice_get-map v words place ∙ ap (option_map v) (slice_get-get_or words place d (subst (λ n. place < n) (ap length (sym are) ∙ length-map words v) within))))

-- the word at the method's place, where a search has found the method's kind
pub word_found : {A : Type 0} (v : A → List ℕ) (words : List A) (kind : Kind) (method : ℕ) (d : A)
    → find (λ known. is_method (kind_number known) method) all_kinds ≡ Some kind → map v words ≡ words_of (kind_number kind)
    → v (get_or words (method - first_method (kind_number kind)) d) ≡ word_of method
word_found v words kind method d found are =
    let p : (nat_le (first_method (kind_number kind)) method ≡ true) × (nat_lt method (first_method (kind_number kind) + length (words_of (kind_number kind))) ≡ true) = and_parts _ _ (found_passes (λ known. is_method (kind_number known) method) kind all_kinds found) in
    let at : kind_with method ≡ kind_number kind = first_of (is_method (kind_number Set) method) (is_method (kind_number Cells) method) (is_method (kind_number Flow) method) (is_method (kind_number Points) method) (is_method (kind_number Domains) method) kind found in
    word_at v words (words_of (kind_number kind)) (method - first_method (kind_number kind)) d are (omega (arith, leb-true _ _ p.0, ltb-true _ _ p.1))
    ∙ ap (λ number. word_or_mark (slice_get (words_of number) (method - first_method number))) (sym at)

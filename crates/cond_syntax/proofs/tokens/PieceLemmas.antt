-- The pieces of lines that are put together from parts.
use Rattle.std.specs.Prelude.{◌≡◌, ℕ, Bool, true, false, cond, ◌&&◌, ◌||◌, ◌==◌, List, [], ◌∷◌, ◌++◌, map}
use Rattle.std.proofs.Common.{refl, sym, ap, ◌∙◌, inl, inr, append_assoc, append-nil, arith}
use Rattle.std.proofs.lemmas.Bool.{cases_Bool, and_parts, and_right}
use Rattle.std.proofs.lemmas.Bool.Decides.{nat_tests}
use Rattle.std.proofs.lemmas.List.{map-append}
use Rattle.std.specs.Char.{is_ascii_digit, is_ascii_alphabetic}
use Rattle.text_lines.specs.Fields.{is_blank}
use Rattle.text_lines.specs.Numbers.{all_digits}
use Rattle.cond_syntax.specs.Pieces.{goes_on, after_piece, pieces_from, pieces_of}
use Rattle.cond_syntax.specs.Tokens.{token_of, tokens_in}

-- no piece goes on into these signs
abbrev pub IsApart : List ℕ → Type 0
IsApart rest = (piece : List ℕ) → pieces_from piece rest ≡ after_piece piece (pieces_of rest)

pub none-IsApart : IsApart []
none-IsApart piece = refl

pub space-IsApart : (rest : List ℕ) → IsApart (32 ∷ rest)
space-IsApart rest piece = refl

by_cases : (b c d : Bool) → cond b false (cond c false (d && false)) ≡ false
by_cases true c d = refl
by_cases false true d = refl
by_cases false false d = and_right d false refl

-- a sign that goes on no piece
pub record IsAlone (b : ℕ) : Type 0 where
  pub seen : is_blank b ≡ false
  pub ends : (piece : List ℕ) → goes_on piece b ≡ false
  pub goes : (c : ℕ) → goes_on (b ∷ []) c ≡ false

close_ends : (piece : List ℕ) → goes_on piece 41 ≡ false
close_ends [] = refl
close_ends (first ∷ more) = by_cases (is_ascii_alphabetic first) (is_ascii_digit first || first == 45) _

pub close-IsAlone : IsAlone 41
close-IsAlone = record { seen = refl; ends = close_ends; goes = λ c. refl }

open_ends : (piece : List ℕ) → goes_on piece 40 ≡ false
open_ends [] = refl
open_ends (first ∷ more) = by_cases (is_ascii_alphabetic first) (is_ascii_digit first || first == 45) _

pub open-IsAlone : IsAlone 40
open-IsAlone = record { seen = refl; ends = open_ends; goes = λ c. refl }

alone_starts : (b : ℕ) (rest : List ℕ) → IsAlone b → (piece : List ℕ) → pieces_from piece (b ∷ rest) ≡ after_piece piece (pieces_from (b ∷ []) rest)
alone_starts b rest h piece = rw (h.seen, h.ends piece) refl

pub alone-IsApart : (b : ℕ) (rest : List ℕ) → IsAlone b → IsApart (b ∷ rest)
alone-IsApart b rest h piece = alone_starts b rest h piece ∙ ap (after_piece piece) (sym (alone_starts b rest h []))

-- a sign that stands alone is a piece
pub alone_piece : (b : ℕ) (rest : List ℕ) → IsAlone b → pieces_of (b ∷ rest) ≡ (b ∷ []) ∷ pieces_of rest
alone_piece b [] h = alone_starts b [] h []
alone_piece b (c ∷ rest) h = alone_starts b (c ∷ rest) h [] ∙ elim (cases_Bool (is_blank c)) [ inl t ↦ rw (t) refl | inr f ↦ rw (f, h.goes c) refl ]

after-append : (piece : List ℕ) (xs ys : List (List ℕ)) → after_piece piece (xs ++ ys) ≡ after_piece piece xs ++ ys
after-append [] xs ys = refl
after-append (b ∷ bs) xs ys = refl

-- the pieces of what stands apart follow those in front
pub pieces-append : (piece text rest : List ℕ) → IsApart rest → pieces_from piece (text ++ rest) ≡ pieces_from piece text ++ pieces_of rest
pieces-append [] [] rest h = refl
pieces-append (a ∷ piece) [] rest h = h (a ∷ piece)
pieces-append piece (b ∷ bs) rest h =
    let blank = ap (after_piece piece) (pieces-append [] bs rest h) ∙ after-append piece (pieces_from [] bs) (pieces_of rest) in
    let on = pieces-append (piece ++ b ∷ []) bs rest h in
    let new = ap (after_piece piece) (pieces-append (b ∷ []) bs rest h) ∙ after-append piece (pieces_from (b ∷ []) bs) (pieces_of rest) in
    elim (cases_Bool (is_blank b)) [
      | inl t ↦ rw t blank
      | inr f ↦ elim (cases_Bool (goes_on piece b)) [ inl t ↦ rw (f, t) on | inr g ↦ rw (f, g) new ]
    ]

-- and so do the tokens
pub tokens-append : (text rest : List ℕ) → IsApart rest → tokens_in (text ++ rest) ≡ tokens_in text ++ tokens_in rest
tokens-append text rest h = ap (map token_of) (pieces-append [] text rest h) ∙ map-append token_of (pieces_of text) (pieces_of rest)

-- ---- digits

pub digit-not_blank : (d : ℕ) → is_ascii_digit d ≡ true → is_blank d ≡ false
digit-not_blank d h = grind (arith, nat_tests)

pub digit-not_alphabetic : (d : ℕ) → is_ascii_digit d ≡ true → is_ascii_alphabetic d ≡ false
digit-not_alphabetic d h = grind (arith, nat_tests)

-- a piece goes on with digits
pub digits_go_on : (first : ℕ) (more ds : List ℕ) → is_ascii_alphabetic first ≡ false → (is_ascii_digit first || first == 45) ≡ true → all_digits ds ≡ true
    → pieces_from (first ∷ more) ds ≡ ((first ∷ more) ++ ds) ∷ []
digits_go_on first more [] a n h = ap (λ ds. ds ∷ []) (sym (append-nil (first ∷ more)))
digits_go_on first more (d ∷ ds) a n h =
    let parts : (is_ascii_digit d ≡ true) × (all_digits ds ≡ true) = and_parts (is_ascii_digit d) (all_digits ds) h in
    let rest = digits_go_on first (more ++ d ∷ []) ds a n parts.1 in
    rw (digit-not_blank d parts.0, a, n, parts.0) (rest ∙ ap (λ ds. ds ∷ []) (append_assoc (first ∷ more) (d ∷ []) ds))

pub digits_piece : (d : ℕ) (ds : List ℕ) → is_ascii_digit d ≡ true → all_digits ds ≡ true → pieces_of (d ∷ ds) ≡ (d ∷ ds) ∷ []
digits_piece d ds first rest = rw (digit-not_blank d first) (digits_go_on d [] ds (digit-not_alphabetic d first) (rw first refl) rest)

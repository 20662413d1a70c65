-- The front of a piece, with one byte more.
use Rattle.std.proofs.Common.{◌≡◌, ℕ, ◌+◌, ◌<◌, true, false, List, [], ◌∷◌, length, get_or, take, drop, refl, ◌∙◌, arith}
use Rattle.std.proofs.lemmas.Bool.Decides.{nat_tests}
use Rattle.std.proofs.lemmas.List.{at_drop_more, take_more}
use Rattle.text_lines.specs.Fields.{is_blank}
use Rattle.cond_syntax.specs.Pieces.{goes_on, pieces_from}

not_blank : (piece : List ℕ) (b : ℕ) → goes_on piece b ≡ true → is_blank b ≡ false
not_blank [] b h = cc
not_blank (first ∷ more) b h = grind (arith, nat_tests)

pub front_more : (line : List ℕ) (n : ℕ) → n < length line → goes_on (take n line) (get_or line n 0) ≡ true
    → pieces_from (take n line) (drop n line) ≡ pieces_from (take (n + 1) line) (drop (n + 1) line)
front_more line n lt h =
    let no_blank = not_blank (take n line) (get_or line n 0) h in
    let next : pieces_from (take n line) (drop n line) ≡ pieces_from (take n line) (get_or line n 0 ∷ drop (n + 1) line) = at_drop_more (pieces_from (take n line)) line n 0 lt in
    next ∙ rw (no_blank, h, take_more line n 0 lt) refl

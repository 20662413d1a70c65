-- The tokens that are read, where no more parentheses are open than may be.
use Rattle.std.specs.Prelude.{◌≡◌, ℕ, ◌-◌, ◌+◌, ◌==◌, Bool, true, false, if◌then◌else◌, List, [], ◌∷◌, refl}
use Rattle.std.proofs.Common.{ap}
use Rattle.cond_syntax.specs.Tokens.{Token, Open, Close}
use Rattle.cond_syntax.specs.Fronts.{most_open, front_from, is_cut_from, front_of, is_cut}

front_at_open : (deep : Bool) (cut : Bool) (front ts : List Token) → (cut ≡ false → front ≡ ts) → (if deep then true else cut) ≡ false
    → (if deep then [] else Open ∷ front) ≡ Open ∷ ts
front_at_open true cut front ts same uncut = absurd (cc)
front_at_open false cut front ts same uncut = ap (λ us. Open ∷ us) (same uncut)

front_whole_from : (count : ℕ) (ts : List Token) → is_cut_from count ts ≡ false → front_from count ts ≡ ts
front_whole_from count [] uncut = refl
front_whole_from count (Open ∷ ts) uncut =
    front_at_open (count == most_open) (is_cut_from (count + 1) ts) (front_from (count + 1) ts) ts (front_whole_from (count + 1) ts) uncut
front_whole_from count (Close ∷ ts) uncut = ap (λ us. Close ∷ us) (front_whole_from (count - 1) ts uncut)
front_whole_from count (t ∷ ts) uncut = ap (λ us. t ∷ us) (front_whole_from count ts uncut)

-- where the tokens aren't cut, all of them are read
pub front_whole : (ts : List Token) → is_cut ts ≡ false → front_of ts ≡ ts
front_whole ts uncut = front_whole_from 0 ts uncut

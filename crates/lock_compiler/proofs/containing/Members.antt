-- What lists contain that are made of others.
use Rattle.std.specs.Prelude.{◌≡◌, ◌⊎◌, ℕ, zero, suc, ◌+◌, ◌-◌, ◌<◌, ◌≤◌, List, [], ◌∷◌, map, length, Contains, refl}
use Rattle.std.specs.List.{flat_map, range_with_len}
use Rattle.std.proofs.Common.{sym, ap, ◌∙◌, subst, inl, inr, arith, get_or}
use Rattle.std.proofs.lemmas.List.{length-map, get_or-map}
use Rattle.std.proofs.lemmas.List.FromFn.{length-range_with_len, get_or-range_with_len}
use Rattle.std.proofs.lemmas.List.Elements.{Contains-get_or, Contains-append_left, Contains-append_right}

pub none_in : {A : Type 0} (y : A) → Contains [] y → ⊥
none_in y (k, h, e) = absurd (omega arith)

pub first_in : {A : Type 0} (x : A) (xs : List A) → Contains (x ∷ xs) x
first_in x xs = (0, omega arith, refl)

pub later_in : {A : Type 0} (x : A) (xs : List A) (y : A) → Contains xs y → Contains (x ∷ xs) y
later_in x xs y (k, h, e) = (suc k, omega arith, e)

pub in_either : {A : Type 0} (x : A) (xs : List A) (y : A) → Contains (x ∷ xs) y → (x ≡ y) ⊎ Contains xs y
in_either x xs y (zero, h, e) = inl e
in_either x xs y (suc k, h, e) = inr (k, omega arith, e)

pub only_in : {A : Type 0} (x y : A) → Contains (x ∷ []) y → x ≡ y
only_in x y h = elim (in_either x [] y h) [ inl e ↦ e | inr none ↦ absurd (none_in y none) ]

pub map_in : {A B : Type 0} (f : A → B) (xs : List A) (x : A) → Contains xs x → Contains (map f xs) (f x)
map_in f xs x (k, h, e) = (k, omega (arith, length-map xs f), get_or-map f xs k x (f x) h ∙ ap f e)

pub in_map : {A B : Type 0} (f : A → B) (xs : List A) (d : A) (y : B) → Contains (map f xs) y → (x : A) × Contains xs x × (f x ≡ y)
in_map f xs d y (k, h, e) =
    let within : k < length xs = omega (arith, length-map xs f) in
    (get_or xs k d, Contains-get_or xs k d within, sym (get_or-map f xs k d y within) ∙ e)

pub flat_map_in : {A B : Type 0} (f : A → List B) (xs : List A) (x : A) (y : B) → Contains xs x → Contains (f x) y → Contains (flat_map f xs) y
flat_map_in f [] x y h there = absurd (none_in x h)
flat_map_in f (z ∷ zs) x y h there =
    elim (in_either z zs x h) [
      | inl e ↦ Contains-append_left (f z) (flat_map f zs) y (subst (λ w. Contains (f w) y) (sym e) there)
      | inr later ↦ Contains-append_right (f z) (flat_map f zs) y (flat_map_in f zs x y later there)
    ]

pub range_in : (from count n : ℕ) → from ≤ n → n < from + count → Contains (range_with_len from count) n
range_in from count n low high =
    let within : n - from < count = omega arith in
    let number : from + (n - from) ≡ n = omega arith in
    (n - from, omega (arith, length-range_with_len from count), get_or-range_with_len from count (n - from) n within ∙ number)

pub in_range : (from count n : ℕ) → Contains (range_with_len from count) n → (from ≤ n) × (n < from + count)
in_range from count n (k, h, e) =
    let within : k < count = omega (arith, length-range_with_len from count) in
    let number : from + k ≡ n = sym (get_or-range_with_len from count k n within) ∙ e in
    (omega arith, omega arith)

-- The methods of a kind, one after another.
use Rattle.std.specs.Prelude.{◌≡◌, ℕ, zero, suc, ◌+◌, ◌%◌, ◌<◌, ◌≤◌, Bool, true, false, cond, nat_le, nat_lt, [], ◌∷◌, length, drop, Some, None, refl}
use Rattle.std.specs.List.{range_with_len}
use Rattle.std.proofs.Common.{sym, ap, ◌∙◌, inl, inr, arith, subst}
use Rattle.std.proofs.lemmas.Bool.{and_parts, leb-true, ltb-true, ltb-false, cases_lt}
use Rattle.gx_base.specs.declared.kinds.Kind.{Kind}
use Rattle.gx_base.specs.declared.kinds.Kind.TheVariants.{Set}
use Rattle.gx_base.specs.Kinds.{kind_number}
use Rattle.gx_base.specs.Methods.{most_methods, first_method, words_of, methods_of, is_method, method_at}

pub few_methods : (kind : Kind) → length (words_of (kind_number kind)) ≤ most_methods
few_methods Set = omega arith
few_methods kind = omega arith

-- the method at a place stands there
pub record IsAt (kind place method : ℕ) : Type 0 where
  pub number : method ≡ first_method kind + place
  pub within : place < length (words_of kind)

some_is : {m n : ℕ} → Some m ≡ Some n → m ≡ n
some_is e = cc

at_some : (kind place method : ℕ) (b : Bool) → nat_lt place (length (words_of kind)) ≡ b → cond b (Some (first_method kind + place)) None ≡ Some method → IsAt kind place method
at_some kind place method true within e = record { number = sym (some_is e); within = ltb-true _ _ within }
at_some kind place method false within e = absurd (cc)

pub method_here : (kind place method : ℕ) → method_at kind place ≡ Some method → IsAt kind place method
method_here kind place method e = at_some kind place method (nat_lt place (length (words_of kind))) refl e

at_none : (kind place : ℕ) (b : Bool) → nat_lt place (length (words_of kind)) ≡ b → cond b (Some (first_method kind + place)) None ≡ None → length (words_of kind) ≤ place
at_none kind place true within e = absurd (cc)
at_none kind place false within e = ltb-false _ _ within

pub no_more : (kind place : ℕ) → method_at kind place ≡ None → length (words_of kind) ≤ place
no_more kind place e = at_none kind place (nat_lt place (length (words_of kind))) refl e

-- a kind's methods are those from its first one up to its count
pub record IsOfKind (kind method : ℕ) : Type 0 where
  pub from : first_method kind ≤ method
  pub upto : method < first_method kind + length (words_of kind)

pub within_of : (kind method : ℕ) → is_method kind method ≡ true → IsOfKind kind method
within_of kind method e =
    let p = and_parts (nat_le (first_method kind) method) (nat_lt method (first_method kind + length (words_of kind))) e in
    record { from = leb-true _ _ p.0; upto = ltb-true _ _ p.1 }

same_rest : (first m n : ℕ) → first ≤ m → m < first + most_methods → first ≤ n → n < first + most_methods → m % most_methods ≡ n % most_methods → m ≡ n
same_rest first m n a b c d e = omega arith

-- no two methods of a kind leave the same rest
pub methods_apart : (kind : Kind) (m n : ℕ) → is_method (kind_number kind) m ≡ true → is_method (kind_number kind) n ≡ true → m % most_methods ≡ n % most_methods → m ≡ n
methods_apart kind m n e f rest =
    let p : IsOfKind (kind_number kind) m = within_of (kind_number kind) m e in
    let q : IsOfKind (kind_number kind) n = within_of (kind_number kind) n f in
    let few : length (words_of (kind_number kind)) ≤ most_methods = few_methods kind in
    let above : m < first_method (kind_number kind) + length (words_of (kind_number kind)) = p.upto in
    let below : n < first_method (kind_number kind) + length (words_of (kind_number kind)) = q.upto in
    same_rest (first_method (kind_number kind)) m n p.from (omega arith) q.from (omega arith) rest

-- what holds of the methods before a place and of the one there holds of those before the next
pub one_more : (kind place method : ℕ) (P : ℕ → Type 0) → method_at kind place ≡ Some method
    → ((n : ℕ) → is_method kind n ≡ true → n < first_method kind + place → P n) → P method
    → (n : ℕ) → is_method kind n ≡ true → n < first_method kind + (place + 1) → P n
one_more kind place method P e before here n known upto =
    let at : IsAt kind place method = method_here kind place method e in
    let number : method ≡ first_method kind + place = at.number in
    elim (cases_lt n (first_method kind + place)) [
      | inl less ↦ before n known less
      | inr more ↦ let equal : method ≡ n = omega arith in subst P equal here
    ]

-- what holds of the methods before the end holds of all
pub all_methods : (kind place : ℕ) (P : ℕ → Type 0) → method_at kind place ≡ None
    → ((n : ℕ) → is_method kind n ≡ true → n < first_method kind + place → P n) → (n : ℕ) → is_method kind n ≡ true → P n
all_methods kind place P e before n known =
    let end : length (words_of kind) ≤ place = no_more kind place e in
    let within : IsOfKind kind n = within_of kind n known in
    before n known (omega arith)

drop_range : (a n place : ℕ) → place < n → drop place (range_with_len a n) ≡ (a + place) ∷ drop (place + 1) (range_with_len a n)
drop_range a zero place h = absurd (omega arith)
drop_range a (suc n) zero h = let e : a ≡ a + 0 = omega arith in ap (λ x. x ∷ range_with_len (a + 1) n) e
drop_range a (suc n) (suc place) h =
    let number : a + 1 + place ≡ a + suc place = omega arith in
    let next : suc (place + 1) ≡ suc place + 1 = omega arith in
    drop_range (a + 1) n place (omega arith)
    ∙ ap (λ x. x ∷ drop (place + 1) (range_with_len (a + 1) n)) number
    ∙ ap (λ k. (a + suc place) ∷ drop k (a ∷ range_with_len (a + 1) n)) next

drop_range_end : (a n place : ℕ) → n ≤ place → drop place (range_with_len a n) ≡ []
drop_range_end a zero zero h = refl
drop_range_end a zero (suc place) h = refl
drop_range_end a (suc n) zero h = absurd (omega arith)
drop_range_end a (suc n) (suc place) h = drop_range_end (a + 1) n place (omega arith)

-- the methods from a place on begin with the one there
pub methods_from : (kind place method : ℕ) → method_at kind place ≡ Some method → drop place (methods_of kind) ≡ method ∷ drop (place + 1) (methods_of kind)
methods_from kind place method e =
    let at : IsAt kind place method = method_here kind place method e in
    drop_range (first_method kind) (length (words_of kind)) place at.within ∙ ap (λ x. x ∷ drop (place + 1) (methods_of kind)) (sym at.number)

pub methods_end : (kind place : ℕ) → method_at kind place ≡ None → drop place (methods_of kind) ≡ []
methods_end kind place e = drop_range_end (first_method kind) (length (words_of kind)) place (no_more kind place e)

-- a place with a method is below the most that a kind has
pub place_below : (kind : Kind) (place method : ℕ) → method_at (kind_number kind) place ≡ Some method → place < most_methods
place_below kind place method e =
    let few : length (words_of (kind_number kind)) ≤ most_methods = few_methods kind in
    let at : IsAt (kind_number kind) place method = method_here (kind_number kind) place method e in
    let within : place < length (words_of (kind_number kind)) = at.within in
    omega arith

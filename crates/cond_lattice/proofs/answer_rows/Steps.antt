-- Whether a condition is below another, by the sides of both.
use Rattle.std.specs.Prelude.{◌≡◌, Bool, true, false, ◌&&◌, ◌||◌, nat_lt, cond, refl}
use Rattle.std.proofs.Common.{sym, ap, ◌∙◌, inl, inr, subst}
use Rattle.std.proofs.Math.Bool.{or_comm, and_comm}
use Rattle.gx_base.specs.Conditions.{Condition, True, False, And, Or}
use Rattle.cond_lattice.specs.Derivations.{is_derived}
use Rattle.cond_lattice.specs.AnswerRows.{AreSides, is_joined, is_and, rows_of, heavy_of, light_of, lower_answer_of, upper_answer_of}
use Rattle.cond_lattice.proofs.order.Derived.{is_derived-and, is_derived-true, or_left_above, or_right_above}

-- ---- where the lower one is an `and` or an `or`

or_false : (b : Bool) → b ≡ (b || false)
or_false true = refl
or_false false = refl

reordered : (l r x y : Bool) → (l || r || x || y) ≡ (x || y || (l || r))
reordered true r true y = refl
reordered true r false true = refl
reordered true r false false = refl
reordered false true true y = refl
reordered false true false true = refl
reordered false true false false = refl
reordered false false x y = or_false (x || y)

kept_above : (x y own : Bool) → (x ≡ true → own ≡ true) → (y ≡ true → own ≡ true) → own ≡ (x || y || own)
kept_above true y own f g = f refl
kept_above false true own f g = g refl
kept_above false false own f g = refl

joined_step : (c p q d x y : Condition) → AreSides c p q → AreSides d x y
    → is_derived c d ≡ upper_answer_of (is_and d) (is_derived c x) (is_derived c y) (lower_answer_of (is_and c) (is_derived p d) (is_derived q d))
joined_step c p q d x y (inl e) (inl f) =
    subst (λ c. is_derived c d ≡ upper_answer_of (is_and d) (is_derived c x) (is_derived c y) (lower_answer_of (is_and c) (is_derived p d) (is_derived q d))) (sym e)
    (subst (λ d. is_derived (And p q) d ≡ upper_answer_of (is_and d) (is_derived (And p q) x) (is_derived (And p q) y) (is_derived p d || is_derived q d)) (sym f) (is_derived-and (And p q) x y))
joined_step c p q d x y (inl e) (inr f) =
    subst (λ c. is_derived c d ≡ upper_answer_of (is_and d) (is_derived c x) (is_derived c y) (lower_answer_of (is_and c) (is_derived p d) (is_derived q d))) (sym e)
    (subst (λ d. is_derived (And p q) d ≡ upper_answer_of (is_and d) (is_derived (And p q) x) (is_derived (And p q) y) (is_derived p d || is_derived q d)) (sym f)
    (reordered (is_derived p (Or x y)) (is_derived q (Or x y)) (is_derived (And p q) x) (is_derived (And p q) y)))
joined_step c p q d x y (inr e) (inl f) =
    subst (λ c. is_derived c d ≡ upper_answer_of (is_and d) (is_derived c x) (is_derived c y) (lower_answer_of (is_and c) (is_derived p d) (is_derived q d))) (sym e)
    (subst (λ d. is_derived (Or p q) d ≡ upper_answer_of (is_and d) (is_derived (Or p q) x) (is_derived (Or p q) y) (is_derived p d && is_derived q d)) (sym f) (is_derived-and (Or p q) x y))
joined_step c p q d x y (inr e) (inr f) =
    subst (λ c. is_derived c d ≡ upper_answer_of (is_and d) (is_derived c x) (is_derived c y) (lower_answer_of (is_and c) (is_derived p d) (is_derived q d))) (sym e)
    (subst (λ d. is_derived (Or p q) d ≡ upper_answer_of (is_and d) (is_derived (Or p q) x) (is_derived (Or p q) y) (is_derived p d && is_derived q d)) (sym f)
    (kept_above (is_derived (Or p q) x) (is_derived (Or p q) y) (is_derived (Or p q) (Or x y)) (or_left_above (Or p q) x y) (or_right_above (Or p q) x y)))

and_leaf : (p q d : Condition) → is_joined d ≡ false → is_derived (And p q) d ≡ (is_derived p d || is_derived q d)
and_leaf p q True e = λ k. sym (is_derived-true p) k || is_derived q True
and_leaf p q (And x y) e = absurd (cc)
and_leaf p q (Or x y) e = absurd (cc)
and_leaf p q _ e = refl

joined_leaf : (c p q d : Condition) → AreSides c p q → is_joined d ≡ false → is_derived c d ≡ lower_answer_of (is_and c) (is_derived p d) (is_derived q d)
joined_leaf c p q d (inl e) f = subst (λ c. is_derived c d ≡ lower_answer_of (is_and c) (is_derived p d) (is_derived q d)) (sym e) (and_leaf p q d f)
joined_leaf c p q d (inr e) f = subst (λ c. is_derived c d ≡ lower_answer_of (is_and c) (is_derived p d) (is_derived q d)) (sym e) refl

-- ---- where it is neither

unit_or : (c x y : Condition) → is_joined c ≡ false → is_derived c (Or x y) ≡ (is_derived c x || is_derived c y || false)
unit_or False x y e = refl
unit_or (And p q) x y e = absurd (cc)
unit_or (Or p q) x y e = absurd (cc)
unit_or _ x y e = or_false _

pub unit_step : (c d x y : Condition) → is_joined c ≡ false → AreSides d x y → is_derived c d ≡ upper_answer_of (is_and d) (is_derived c x) (is_derived c y) false
unit_step c d x y e (inl f) = subst (λ d. is_derived c d ≡ upper_answer_of (is_and d) (is_derived c x) (is_derived c y) false) (sym f) (is_derived-and c x y)
unit_step c d x y e (inr f) = subst (λ d. is_derived c d ≡ upper_answer_of (is_and d) (is_derived c x) (is_derived c y) false) (sym f) (unit_or c x y e)

-- ---- which of the sides of the lower one comes first is the same

either_way : (is_and first : Bool) (test : Condition → Bool) (p q : Condition)
    → lower_answer_of is_and (test p) (test q) ≡ lower_answer_of is_and (test (cond first q p)) (test (cond first p q))
either_way true true test p q = or_comm (test p) (test q)
either_way false true test p q = and_comm (test p) (test q)
either_way is_and false test p q = refl

by_weight : (is_and : Bool) (test : Condition → Bool) (c p q : Condition) → AreSides c p q
    → lower_answer_of is_and (test p) (test q) ≡ lower_answer_of is_and (test (heavy_of c)) (test (light_of c))
by_weight is_and test c p q (inl e) =
    subst (λ c. lower_answer_of is_and (test p) (test q) ≡ lower_answer_of is_and (test (heavy_of c)) (test (light_of c))) (sym e) (either_way is_and (nat_lt (rows_of p) (rows_of q)) test p q)
by_weight is_and test c p q (inr e) =
    subst (λ c. lower_answer_of is_and (test p) (test q) ≡ lower_answer_of is_and (test (heavy_of c)) (test (light_of c))) (sym e) (either_way is_and (nat_lt (rows_of p) (rows_of q)) test p q)

record HasSides (c : Condition) : Type 0 where
  first : Condition
  second : Condition
  sides : AreSides c first second

has_sides : (c : Condition) → is_joined c ≡ true → HasSides c
has_sides (And x y) e = record { first = x; second = y; sides = inl refl }
has_sides (Or x y) e = record { first = x; second = y; sides = inr refl }
has_sides _ e = absurd (cc)

-- an `and` or an `or` below another one
pub row_step : (c d x y : Condition) → is_joined c ≡ true → AreSides d x y
    → is_derived c d
    ≡ upper_answer_of (is_and d) (is_derived c x) (is_derived c y) (lower_answer_of (is_and c) (is_derived (heavy_of c) d) (is_derived (light_of c) d))
row_step c d x y e s =
    let h = has_sides c e in
    joined_step c h.first h.second d x y h.sides s
    ∙ ap (upper_answer_of (is_and d) (is_derived c x) (is_derived c y)) (by_weight (is_and c) (λ p. is_derived p d) c h.first h.second h.sides)

-- an `and` or an `or` below what is neither
pub row_leaf : (c d : Condition) → is_joined c ≡ true → is_joined d ≡ false
    → is_derived c d ≡ lower_answer_of (is_and c) (is_derived (heavy_of c) d) (is_derived (light_of c) d)
row_leaf c d e f =
    let h = has_sides c e in
    joined_leaf c h.first h.second d h.sides f ∙ by_weight (is_and c) (λ p. is_derived p d) c h.first h.second h.sides

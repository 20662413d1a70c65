-- Conditions tell apart only what they name of the state.
use Rattle.std.specs.Prelude.{◌≡◌, ℤ, Bool, true, false, not, ◌&&◌, ◌||◌, refl}
use Rattle.std.proofs.Common.{ap}
use Rattle.gx_base.specs.declared.calls.Made.{Made}
use Rattle.gx_base.specs.declared.calls.Seen.{Seen}
use Rattle.gx_base.specs.declared.conditions.Term.{Term}
use Rattle.gx_base.specs.declared.conditions.Term.TheVariants.{Const, Value, Beyond, State as StateTerm}
use Rattle.gx_base.specs.declared.conditions.Side.{Side}
use Rattle.gx_base.specs.declared.conditions.Side.TheVariants.{First, Second}
use Rattle.gx_base.specs.Conditions.{Condition, True, False, Eq, Ne, Lt, Le, And, Or, Not, holds, term_value}
use Rattle.gx_base.specs.Tables.{uses_state, term_uses_state}
use Rattle.gx_base.specs.Below.{names_state, term_names}

-- two values of the state functions agree where a test says that they are named
pub record Agrees (first second : Bool) (u v : Seen) : Type 0 where
  pub first_same : first ≡ true → u.first ≡ v.first
  pub second_same : second ≡ true → u.second ≡ v.second

or_left : (p q : Bool) → p ≡ true → (p || q) ≡ true
or_left true q e = refl
or_left false q e = absurd (cc)

or_right : (p q : Bool) → q ≡ true → (p || q) ≡ true
or_right true q e = refl
or_right false q e = e

left_agrees : (a b c d : Bool) (u v : Seen) → Agrees (a || b) (c || d) u v → Agrees a c u v
left_agrees a b c d u v h = record { first_same = λ e. h.first_same (or_left a b e); second_same = λ e. h.second_same (or_left c d e) }

right_agrees : (a b c d : Bool) (u v : Seen) → Agrees (a || b) (c || d) u v → Agrees b d u v
right_agrees a b c d u v h = record { first_same = λ e. h.first_same (or_right a b e); second_same = λ e. h.second_same (or_right c d e) }

module _ (a b : Made) (u v : Seen) where
  term_same : (x : Term) → Agrees (term_names First x) (term_names Second x) u v → term_value x a b u ≡ term_value x a b v
  term_same (Const n) h = refl
  term_same (Value First n) h = refl
  term_same (Value Second n) h = refl
  term_same (Beyond x y z) h = refl
  term_same (StateTerm First) h = h.first_same refl
  term_same (StateTerm Second) h = h.second_same refl

  two_terms : (g : ℤ → ℤ → Bool) (x y : Term) → Agrees (term_names First x || term_names First y) (term_names Second x || term_names Second y) u v → g (term_value x a b u) (term_value y a b u) ≡ g (term_value x a b v) (term_value y a b v)
  two_terms g x y h =
      let l : Agrees (term_names First x) (term_names Second x) u v = left_agrees (term_names First x) (term_names First y) (term_names Second x) (term_names Second y) u v h in
      let r : Agrees (term_names First y) (term_names Second y) u v = right_agrees (term_names First x) (term_names First y) (term_names Second x) (term_names Second y) u v h in
      λ i. g (term_same x l i) (term_same y r i)

  -- a condition has one truth where they agree on what it names
  pub named_same : (c : Condition) → Agrees (names_state First c) (names_state Second c) u v → holds c a b u ≡ holds c a b v
  named_same True h = refl
  named_same False h = refl
  named_same (Eq x y) h = two_terms (λ p q. holds (Eq (Const p) (Const q)) a b u) x y h
  named_same (Ne x y) h = two_terms (λ p q. holds (Ne (Const p) (Const q)) a b u) x y h
  named_same (Lt x y) h = two_terms (λ p q. holds (Lt (Const p) (Const q)) a b u) x y h
  named_same (Le x y) h = two_terms (λ p q. holds (Le (Const p) (Const q)) a b u) x y h
  named_same (And x y) h =
      let l : Agrees (names_state First x) (names_state Second x) u v = left_agrees (names_state First x) (names_state First y) (names_state Second x) (names_state Second y) u v h in
      let r : Agrees (names_state First y) (names_state Second y) u v = right_agrees (names_state First x) (names_state First y) (names_state Second x) (names_state Second y) u v h in
      λ i. named_same x l i && named_same y r i
  named_same (Or x y) h =
      let l : Agrees (names_state First x) (names_state Second x) u v = left_agrees (names_state First x) (names_state First y) (names_state Second x) (names_state Second y) u v h in
      let r : Agrees (names_state First y) (names_state Second y) u v = right_agrees (names_state First x) (names_state First y) (names_state Second x) (names_state Second y) u v h in
      λ i. named_same x l i || named_same y r i
  named_same (Not x) h = ap not (named_same x h)

term_used : (side : Side) (x : Term) → term_names side x ≡ true → term_uses_state x ≡ true
term_used side (Const n) e = absurd (cc)
term_used side (Value s n) e = absurd (cc)
term_used side (Beyond x y z) e = absurd (cc)
term_used side (StateTerm s) e = refl

either : (p q r s : Bool) → (p ≡ true → r ≡ true) → (q ≡ true → s ≡ true) → (p || q) ≡ true → (r || s) ≡ true
either true q r s f g e = or_left r s (f refl)
either false q r s f g e = or_right r s (g e)

-- a condition that names a state function uses the state
pub named_used : (side : Side) (c : Condition) → names_state side c ≡ true → uses_state c ≡ true
named_used side True e = absurd (cc)
named_used side False e = absurd (cc)
named_used side (Eq x y) e = either (term_names side x) (term_names side y) (term_uses_state x) (term_uses_state y) (term_used side x) (term_used side y) e
named_used side (Ne x y) e = either (term_names side x) (term_names side y) (term_uses_state x) (term_uses_state y) (term_used side x) (term_used side y) e
named_used side (Lt x y) e = either (term_names side x) (term_names side y) (term_uses_state x) (term_uses_state y) (term_used side x) (term_used side y) e
named_used side (Le x y) e = either (term_names side x) (term_names side y) (term_uses_state x) (term_uses_state y) (term_used side x) (term_used side y) e
named_used side (And x y) e = either (names_state side x) (names_state side y) (uses_state x) (uses_state y) (named_used side x) (named_used side y) e
named_used side (Or x y) e = either (names_state side x) (names_state side y) (uses_state x) (uses_state y) (named_used side x) (named_used side y) e
named_used side (Not x) e = named_used side x e

-- a condition that doesn't use the state has one truth
pub blind : (c : Condition) (a b : Made) (u v : Seen) → uses_state c ≡ false → holds c a b u ≡ holds c a b v
blind c a b u v n =
    named_same a b u v c (record { first_same = λ e. absurd (clash First e); second_same = λ e. absurd (clash Second e) })
  where
    clash : (side : Side) → names_state side c ≡ true → ⊥
    clash side e = let used : uses_state c ≡ true = named_used side c e in cc

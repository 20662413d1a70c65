-- Tables, row by row.
use Rattle.std.specs.Prelude.{◌≡◌, ℕ, ◌+◌, Bool, true, false, ◌&&◌, List, [], ◌∷◌, drop, map, refl}
use Rattle.std.proofs.Common.{sym, ap, ◌∙◌, subst}
use Rattle.gx_base.specs.Conditions.{Condition, False}
use Rattle.gx_base.specs.Methods.{is_method}
use Rattle.gx_base.specs.Tables.{Rows, KeepsToKind}
use Rattle.gx_base.specs.Below.{IsBelow, AreBelow}
use Rattle.gx_base.proofs.CallerLemmas.{False-IsBelow}
use Rattle.cond_lattice.specs.declared.grades.Grade.{Grade}
use Rattle.cond_lattice.specs.declared.grades.Grade.TheVariants.{Simple, Online, General}
use Rattle.cond_lattice.specs.Grades.{greater, greatest}
use Rattle.cond_lattice.specs.Tables.{AreRowsBelow}
use Rattle.cond_lattice.proofs.order.Derived.{IsRowBelow-sound}
use Rattle.cond_lattice.proofs.tables.Greatest.{greater-Simple}

greater-assoc : (g h k : Grade) → greater (greater g h) k ≡ greater g (greater h k)
greater-assoc Simple h k = refl
greater-assoc General h k = refl
greater-assoc Online Simple k = refl
greater-assoc Online General k = refl
greater-assoc Online Online Simple = refl
greater-assoc Online Online Online = refl
greater-assoc Online Online General = refl

-- one more class is taken into the greatest
pub one_more_class : (f : ℕ → Grade) (methods : List ℕ) (place method : ℕ) (g r all : Grade)
    → drop place methods ≡ method ∷ drop (place + 1) methods → r ≡ greater g (f method)
    → greater g (greatest (map f (drop place methods))) ≡ all → greater r (greatest (map f (drop (place + 1) methods))) ≡ all
one_more_class f methods place method g r all at made before =
    ap (λ x. greater x (greatest (map f (drop (place + 1) methods)))) made
    ∙ greater-assoc g (f method) (greatest (map f (drop (place + 1) methods)))
    ∙ sym (ap (λ xs. greater g (greatest (map f xs))) at)
    ∙ before

-- with no method left the greatest class is found
pub all_classes : (f : ℕ → Grade) (methods : List ℕ) (place : ℕ) (g all : Grade)
    → drop place methods ≡ [] → greater g (greatest (map f (drop place methods))) ≡ all → g ≡ all
all_classes f methods place g all end before = sym (greater-Simple g) ∙ sym (ap (λ xs. greater g (greatest (map f xs))) end) ∙ before

-- a row of other methods is below any
pub rows_sound : (kind : ℕ) (lower upper : Rows) → AreRowsBelow kind lower upper → KeepsToKind kind lower → AreBelow lower upper
rows_sound kind lower upper below keeps m n = by_cases (is_method kind m) (is_method kind n) refl refl
  where
    false_row : (lower m n ≡ False) → IsBelow (lower m n) (upper m n)
    false_row e = subst (λ (c : Condition). IsBelow c (upper m n)) (sym e) (False-IsBelow (upper m n))

    by_cases : (known_m known_n : Bool) → is_method kind m ≡ known_m → is_method kind n ≡ known_n → IsBelow (lower m n) (upper m n)
    by_cases true true e f = IsRowBelow-sound (below m n e f)
    by_cases true false e f = false_row (keeps m n (λ i. e i && f i))
    by_cases false known_n e f = false_row (keeps m n (λ i. e i && is_method kind n))

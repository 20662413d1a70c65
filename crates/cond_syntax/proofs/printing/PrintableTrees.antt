-- The condition that a tree with small numbers stands for is printable.
use Rattle.std.specs.Prelude.{◌≡◌, ℕ, suc, max, ◌≤◌, Bool, true, false, cond, ◌==◌, List, [], ◌∷◌, Option, Some, None, IfSome}
use Rattle.std.proofs.Common.{refl, ap, ap₂, subst, arith}
use Rattle.gx_base.specs.declared.kinds.Kind.{Kind}
use Rattle.gx_base.specs.declared.conditions.Part.{Part}
use Rattle.gx_base.specs.declared.conditions.Side.{Side}
use Rattle.gx_base.specs.declared.conditions.Side.TheVariants.{First, Second}
use Rattle.gx_base.specs.declared.conditions.Term.{Term}
use Rattle.gx_base.specs.declared.conditions.Term.TheVariants.{State}
use Rattle.gx_base.specs.Conditions as plain
use Rattle.gx_base.specs.Conditions.{Condition}
use Rattle.gx_base.specs.Kinds.{kind_number}
use Rattle.cond_syntax.specs.Tokens.{Token}
use Rattle.cond_syntax.specs.WrittenConditions.{WrittenTerm, Fixed, Named, Far, Comparison, IsEqual, IsOther, IsLess, IsAtMost, WrittenCondition, True, False, Compare, And, Or, Not, depth_of, has_state_function, state_named, place_named, side_named, value_at, value_named, term_named, part_named, beyond_of, term_of, compared, joined, negated, condition_in}
use Rattle.cond_syntax.specs.TableTexts.{Spells}
use Rattle.cond_syntax.proofs.grammar.SmallNumbers.{AreSmall, HasSmallNumber, HasSmallNumbers, condition-small}
use Rattle.cond_syntax.specs.Printable.{IsPrintableTerm, ArePrintable, condition_depth, IsPrintable}

-- ---- terms

-- what is named, if anything is, is such
record Names {A : Type 0} (P : A → Type 0) (o : Option A) : Type 0 where
  such : IfSome o P

either-Names : {A : Type 0} (P : A → Type 0) (b : Bool) (x y : Option A) → Names P x → Names P y → Names P (cond b x y)
either-Names P true x y f g = f
either-Names P false x y f g = g

abbrev IsPlaceNumber : ℕ → Type 0
IsPlaceNumber place = place ≤ 7

next_place : (b : Bool) (place : ℕ) (others : Option ℕ) → place ≤ 7 → Names IsPlaceNumber others → Names IsPlaceNumber (cond b (Some place) others)
next_place true place others le f = record { such = le }
next_place false place others le f = f

no_place : Names IsPlaceNumber None
no_place = record { such = tt }

place-named : (letter : ℕ) → Names IsPlaceNumber (place_named letter)
place-named letter =
    next_place (letter == 97) 0 _ (omega arith)
    (next_place (letter == 98) 1 _ (omega arith)
    (next_place (letter == 99) 2 _ (omega arith)
    (next_place (letter == 100) 3 _ (omega arith)
    (next_place (letter == 112) 4 _ (omega arith) (next_place (letter == 113) 5 _ (omega arith) (next_place (letter == 114) 6 _ (omega arith) (next_place (letter == 115) 7 _ (omega arith) no_place)))))))

value-at : (kind : Kind) (side : Option Side) (place : Option ℕ) → IfSome place IsPlaceNumber → IfSome (value_at side place) (IsPrintableTerm kind)
value-at kind None None h = tt
value-at kind None (Some place) h = tt
value-at kind (Some side) None h = tt
value-at kind (Some side) (Some place) h = h

value-named : (kind : Kind) (word : List ℕ) → IfSome (value_named word) (IsPrintableTerm kind)
value-named kind [] = tt
value-named kind (letter ∷ []) = tt
value-named kind (letter ∷ digit ∷ []) = value-at kind (side_named digit) (place_named letter) (place-named letter).such
value-named kind (letter ∷ digit ∷ more ∷ rest) = tt

-- state functions are named in conditions of kinds that have one
state-printable : (kind : Kind) (side : Side) (has : Bool) → has_state_function (kind_number kind) ≡ has → IfSome (cond has (Some (State side)) None) (IsPrintableTerm kind)
state-printable kind side true has = has
state-printable kind side false has = tt

state-named : (kind : Kind) (side : Side) → Names (IsPrintableTerm kind) (state_named (kind_number kind) side)
state-named kind side = record { such = state-printable kind side (has_state_function (kind_number kind)) refl }

term-named : (kind : Kind) (word : List ℕ) → Names (IsPrintableTerm kind) (term_named (kind_number kind) word)
term-named kind word =
    either-Names (IsPrintableTerm kind) _ _ _ (state-named kind First)
    (either-Names (IsPrintableTerm kind) _ _ _ (state-named kind Second) (record { such = value-named kind word }))

far-named : (kind : Kind) (x y z : Option Part) → IfSome (beyond_of x y z) (IsPrintableTerm kind)
far-named kind None None None = tt
far-named kind None None (Some z) = tt
far-named kind None (Some y) None = tt
far-named kind None (Some y) (Some z) = tt
far-named kind (Some x) None None = tt
far-named kind (Some x) None (Some z) = tt
far-named kind (Some x) (Some y) None = tt
far-named kind (Some x) (Some y) (Some z) = tt

term-printable : (kind : Kind) (x : WrittenTerm) → HasSmallNumber x → IfSome (term_of (kind_number kind) x) (IsPrintableTerm kind)
term-printable kind (Fixed number) small = small
term-printable kind (Named word) small = (term-named kind word).such
term-printable kind (Far x y z) small = far-named kind (part_named x) (part_named y) (part_named z)

-- ---- conditions

compared-printable : (kind : Kind) (op : Comparison) (x y : Option Term) → IfSome x (IsPrintableTerm kind) → IfSome y (IsPrintableTerm kind)
    → IfSome (compared op x y) (ArePrintable kind)
compared-printable kind op None None f g = tt
compared-printable kind op None (Some y) f g = tt
compared-printable kind op (Some x) None f g = tt
compared-printable kind IsEqual (Some x) (Some y) f g = (f, g)
compared-printable kind IsOther (Some x) (Some y) f g = (f, g)
compared-printable kind IsLess (Some x) (Some y) f g = (f, g)
compared-printable kind IsAtMost (Some x) (Some y) f g = (f, g)

-- what holds of a joined condition where something holds of its two parts
if_joined : (P Q R : Condition → Type 0) (join : Condition → Condition → Condition) → ((c d : Condition) → P c → Q d → R (join c d)) → (x y : Option Condition) → IfSome x P → IfSome y Q
    → IfSome (joined join x y) R
if_joined P Q R join so None None f g = tt
if_joined P Q R join so None (Some d) f g = tt
if_joined P Q R join so (Some c) None f g = tt
if_joined P Q R join so (Some c) (Some d) f g = so c d f g

if_negated : (P R : Condition → Type 0) → ((c : Condition) → P c → R (plain.Not c)) → (x : Option Condition) → IfSome x P → IfSome (negated x) R
if_negated P R so None f = tt
if_negated P R so (Some c) f = so c f

tree-printable : (kind : Kind) (tree : WrittenCondition) → HasSmallNumbers tree → IfSome (condition_in (kind_number kind) tree) (ArePrintable kind)
tree-printable kind True small = tt
tree-printable kind False small = tt
tree-printable kind (Compare op x y) small =
    compared-printable kind op (term_of (kind_number kind) x) (term_of (kind_number kind) y) (term-printable kind x small.0) (term-printable kind y small.1)
tree-printable kind (And x y) small =
    let P = ArePrintable kind in
    if_joined P P P plain.And (λ c d f g. (f, g)) (condition_in (kind_number kind) x) (condition_in (kind_number kind) y) (tree-printable kind x small.0) (tree-printable kind y small.1)
tree-printable kind (Or x y) small =
    let P = ArePrintable kind in
    if_joined P P P plain.Or (λ c d f g. (f, g)) (condition_in (kind_number kind) x) (condition_in (kind_number kind) y) (tree-printable kind x small.0) (tree-printable kind y small.1)
tree-printable kind (Not x) small =
    let P = ArePrintable kind in
    if_negated P P (λ c f. f) (condition_in (kind_number kind) x) (tree-printable kind x small)

-- ---- they are as deep as the tree

abbrev HasDepth : ℕ → Condition → Type 0
HasDepth depth c = condition_depth c ≡ depth

compared-depth : (op : Comparison) (x y : Option Term) → IfSome (compared op x y) (HasDepth 1)
compared-depth op None None = tt
compared-depth op None (Some y) = tt
compared-depth op (Some x) None = tt
compared-depth IsEqual (Some x) (Some y) = refl
compared-depth IsOther (Some x) (Some y) = refl
compared-depth IsLess (Some x) (Some y) = refl
compared-depth IsAtMost (Some x) (Some y) = refl

tree-depth : (kind : ℕ) (tree : WrittenCondition) → IfSome (condition_in kind tree) (HasDepth (depth_of tree))
tree-depth kind True = refl
tree-depth kind False = refl
tree-depth kind (Compare op x y) = compared-depth op (term_of kind x) (term_of kind y)
tree-depth kind (And x y) =
    if_joined (HasDepth (depth_of x)) (HasDepth (depth_of y)) (HasDepth (depth_of (And x y))) plain.And (λ c d f g. ap₂ (λ m n. suc (max m n)) f g)
    (condition_in kind x) (condition_in kind y) (tree-depth kind x) (tree-depth kind y)
tree-depth kind (Or x y) =
    if_joined (HasDepth (depth_of x)) (HasDepth (depth_of y)) (HasDepth (depth_of (Or x y))) plain.Or (λ c d f g. ap₂ (λ m n. suc (max m n)) f g)
    (condition_in kind x) (condition_in kind y) (tree-depth kind x) (tree-depth kind y)
tree-depth kind (Not x) = if_negated (HasDepth (depth_of x)) (HasDepth (depth_of (Not x))) (λ c f. ap suc f) (condition_in kind x) (tree-depth kind x)

of_some : {A : Type 0} (P : A → Type 0) (o : Option A) (x : A) → o ≡ Some x → IfSome o P → P x
of_some P o x e h = subst (λ (s : Option _). IfSome s P) e h

-- a condition that is spelled is printable, where the numbers of its tokens are small
pub spelled-printable : (kind : Kind) (ts : List Token) (condition : Condition) → AreSmall ts → Spells kind ts condition → IsPrintable kind condition
spelled-printable kind ts condition small spells =
    let depth : condition_depth condition ≡ depth_of spells.tree = of_some (HasDepth (depth_of spells.tree)) (condition_in (kind_number kind) spells.tree) condition spells.means (tree-depth (kind_number kind) spells.tree) in
    record {
      terms = of_some (ArePrintable kind) (condition_in (kind_number kind) spells.tree) condition spells.means (tree-printable kind spells.tree ((condition-small spells.spelled small).0));
      depth = rw depth spells.depth;
    }

-- The last of some steps, and those before it.
use Rattle.std.specs.Prelude.{◌≡◌, suc, true, Some, None, List, [], ◌∷◌, ◌++◌, length, refl}
use Rattle.std.proofs.Common.{sym, ◌∙◌, ap}
use Rattle.gx_base.specs.declared.acts.Step.{Step}
use Rattle.speculation.specs.Sessions.{last_step, steps_before, has_no_step}

pub is_none : (xs : List Step) → has_no_step xs ≡ true → xs ≡ []
is_none [] e = refl
is_none (x ∷ xs) e = absurd (cc)

not_none : (y : Step) (ys : List Step) → last_step (y ∷ ys) ≡ None → ⊥
not_none y [] e = absurd (cc)
not_none y (z ∷ zs) e = not_none z zs e

pub last_is_none : (xs : List Step) → last_step xs ≡ None → xs ≡ []
last_is_none [] e = refl
last_is_none (y ∷ ys) e = absurd (not_none y ys e)

some_step : {x y : Step} → Some x ≡ Some y → x ≡ y
some_step e = cc

pub last_is_last : (xs : List Step) (x : Step) → last_step xs ≡ Some x → xs ≡ steps_before xs ++ x ∷ []
last_is_last [] x e = absurd (cc)
last_is_last (y ∷ []) x e = ap (λ z. z ∷ []) (some_step e)
last_is_last (y ∷ z ∷ zs) x e = ap (λ ys. y ∷ ys) (last_is_last (z ∷ zs) x e)

pub not_empty : {A : Type 0} (xs : List A) (x : A) → xs ++ x ∷ [] ≡ [] → ⊥
not_empty [] x e = absurd (cc)
not_empty (y ∷ ys) x e = absurd (cc)

front : {A : Type 0} → List A → List A
front [] = []
front (x ∷ []) = []
front (x ∷ y ∷ ys) = x ∷ front (y ∷ ys)

front_is : {A : Type 0} (xs : List A) (x : A) → front (xs ++ x ∷ []) ≡ xs
unfolding front
front_is [] x = refl
front_is (y ∷ []) x = refl
front_is (y ∷ z ∷ zs) x = ap (λ ys. y ∷ ys) (front_is (z ∷ zs) x)

-- lists that end in one thing have the same front
pub same_front : {A : Type 0} (xs ys : List A) (x y : A) → xs ++ x ∷ [] ≡ ys ++ y ∷ [] → xs ≡ ys
same_front xs ys x y e = sym (front_is xs x) ∙ ap front e ∙ front_is ys y

longer : (ys : List Step) (x : Step) → length (ys ++ x ∷ []) ≡ suc (length ys)
longer [] x = refl
longer (y ∷ ys) x = ap suc (longer ys x)

pub fewer_before : (xs ys : List Step) (x : Step) → xs ≡ ys ++ x ∷ [] → length xs ≡ suc (length ys)
fewer_before xs ys x e = ap length e ∙ longer ys x

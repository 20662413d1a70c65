-- What calls want, by method, as lists are added to.
use Rattle.std.specs.Prelude.{◌≡◌, ℕ, suc, ◌+◌, ◌<◌, ◌==◌, Bool, true, false, cond, List, [], ◌∷◌, ◌++◌, length, drop, map, slice_get, All, Option, Some, None, ◌≤◌, ◌^◌, refl}
use Rattle.std.specs.List.{position_from, ItemBy}
use Rattle.std.specs.Option.{option_map}
use Rattle.std.proofs.Common.{sym, ap, ◌∙◌, subst, arith, get_or, set, zero-add, append_assoc, lit<}
use Rattle.std.proofs.lemmas.List.{length-map, append-nil, drop_more, drop_all}
use Rattle.std.proofs.lemmas.Option.{slice_get_past, slice_get_read}
use Rattle.std.proofs.lemmas.List.Elements.{All-head, All-tail}
use Rattle.gx_base.specs.declared.calls.Made.{Made}
use Rattle.std.proofs.lemmas.Bool.{cond-true, cond-false, eqb-true, eqb-false, eq-eqb, ne_eqb}
use Rattle.lock_compiler.specs.declared.modes.Mode.{Mode}
use Rattle.lock_compiler.specs.declared.wants.MethodWants.{MethodWants}
use Rattle.lock_compiler.specs.LockModes.{Member, LockModes, Want, wants_among, wants_from, wants_of, need_of, needs_of}
use Rattle.lock_compiler.specs.Wants.{is_for, mode_of, modes_of, wanted_in, AreKeptWants}

-- one more want, where this says so
abbrev pub one_if : Bool → Want → List Want
one_if b want = cond b (want ∷ []) []

more_here : (b : Bool) (xs rest : List Want) (want : Want) → cond b (xs ++ want ∷ []) rest ≡ cond b xs rest ++ one_if b want
more_here true xs rest want = refl
more_here false xs rest want = sym (append-nil rest)

nothing_more : (b : Bool) (xs : List Want) (want : Want) → b ≡ false → xs ≡ xs ++ one_if b want
nothing_more b xs want e = sym (ap (λ t. xs ++ one_if t want) e ∙ append-nil xs)

more_later : (other method m : ℕ) (xs old new : List Want) (want : Want) (b : Bool) → (other == m) ≡ b → (other == method) ≡ false
    → new ≡ old ++ one_if (method == m) want → cond b xs new ≡ cond b xs old ++ one_if (method == m) want
more_later other method m xs old new want true e apart more =
    nothing_more (method == m) xs want (ne_eqb method m (λ same. eqb-false other method apart (eqb-true other m e ∙ sym same)))
more_later other method m xs old new want false e apart more = more

-- the list at a place is the first for a method
pub record IsListFor (method : ℕ) (lists : List MethodWants) (place : ℕ) : Type 0 where
  pub inside : place < length lists
  pub adds : (want : Want) (list d : MethodWants) → list.method ≡ (get_or lists place d).method → list.wants.items ≡ (get_or lists place d).wants.items ++ want ∷ []
      → (m : ℕ) → wanted_in (set lists place list) m ≡ wanted_in lists m ++ one_if (method == m) want

abbrev pub ListFrom : ℕ → ℕ → List MethodWants → ℕ → Type 0
ListFrom method k lists i = (place : ℕ) × (i ≡ k + place) × IsListFor method lists place

here : (method : ℕ) (x : MethodWants) (xs : List MethodWants) → is_for method x ≡ true → IsListFor method (x ∷ xs) 0
here method x xs e =
    let same : x.method ≡ method = eqb-true x.method method e in
    record {
      inside = omega arith;
      adds = λ want list d named items m.
          ap (λ n. cond (n == m) list.wants.items (wanted_in xs m)) (named ∙ same)
          ∙ ap (λ ys. cond (method == m) ys (wanted_in xs m)) items
          ∙ more_here (method == m) x.wants.items (wanted_in xs m) want
          ∙ ap (λ n. cond (n == m) x.wants.items (wanted_in xs m) ++ one_if (method == m) want) (sym same);
    }

later : (method : ℕ) (x : MethodWants) (xs : List MethodWants) (place : ℕ) → is_for method x ≡ false → IsListFor method xs place → IsListFor method (x ∷ xs) (suc place)
later method x xs place e h = record {
  inside = let lt : place < length xs = h.inside in omega arith;
  adds = λ want list d named items m.
      more_later x.method method m x.wants.items (wanted_in xs m) (wanted_in (set xs place list) m) want (x.method == m) refl e (h.adds want list d named items m);
}

by_test : (method : ℕ) (x : MethodWants) (xs : List MethodWants) (k i : ℕ) (t : Bool) → is_for method x ≡ t
    → (position_from (is_for method) (k + 1) xs ≡ Some i → ListFrom method (k + 1) xs i)
    → cond t (Some k) (position_from (is_for method) (k + 1) xs) ≡ Some i → ListFrom method k (x ∷ xs) i
by_test method x xs k i true t rest e = (0, let same : k ≡ i = cc in omega arith, here method x xs t)
by_test method x xs k i false t rest e =
    let found : ListFrom method (k + 1) xs i = rest e in
    (suc found.0, let same : i ≡ (k + 1) + found.0 = found.1 in omega arith, later method x xs found.0 t found.2)

list_from : (method : ℕ) (xs : List MethodWants) (k i : ℕ) → position_from (is_for method) k xs ≡ Some i → ListFrom method k xs i
list_from method [] k i e = absurd (cc)
list_from method (x ∷ xs) k i e = by_test method x xs k i (is_for method x) refl (list_from method xs (k + 1) i) e

pub list_at : (method : ℕ) (xs : List MethodWants) (place : ℕ) → position_from (is_for method) 0 xs ≡ Some place → IsListFor method xs place
list_at method xs place e =
    let found : ListFrom method 0 xs place = list_from method xs 0 place e in
    subst (λ i. IsListFor method xs i) (sym (found.1 ∙ zero-add found.0)) found.2

-- a list for a method that has none comes last
new_by : (method : ℕ) (want : Want) (x : MethodWants) (xs : List MethodWants) (list : MethodWants) (k m : ℕ) (t : Bool) → is_for method x ≡ t
    → (position_from (is_for method) (k + 1) xs ≡ None → wanted_in (xs ++ list ∷ []) m ≡ wanted_in xs m ++ one_if (method == m) want)
    → cond t (Some k) (position_from (is_for method) (k + 1) xs) ≡ None
    → wanted_in (x ∷ (xs ++ list ∷ [])) m ≡ wanted_in (x ∷ xs) m ++ one_if (method == m) want
new_by method want x xs list k m true t rest e = absurd (cc)
new_by method want x xs list k m false t rest e =
    more_later x.method method m x.wants.items (wanted_in xs m) (wanted_in (xs ++ list ∷ []) m) want (x.method == m) refl t (rest e)

new_from : (method : ℕ) (want : Want) (list : MethodWants) → list.method ≡ method → list.wants.items ≡ want ∷ [] → (xs : List MethodWants) (k : ℕ) → position_from (is_for method) k xs ≡ None
    → (m : ℕ) → wanted_in (xs ++ list ∷ []) m ≡ wanted_in xs m ++ one_if (method == m) want
new_from method want list named items [] k e m = ap (λ n. cond (n == m) list.wants.items []) named ∙ ap (λ ys. cond (method == m) ys []) items
new_from method want list named items (x ∷ xs) k e m = new_by method want x xs list k m (is_for method x) refl (λ none. new_from method want list named items xs (k + 1) none m) e

pub new_list : (method : ℕ) (want : Want) (list : MethodWants) (xs : List MethodWants) → list.method ≡ method → list.wants.items ≡ want ∷ [] → position_from (is_for method) 0 xs ≡ None
    → (m : ℕ) → wanted_in (xs ++ list ∷ []) m ≡ wanted_in xs m ++ one_if (method == m) want
new_list method want list xs named items e m = new_from method want list named items xs 0 e m

moved : (b : Bool) (xs rest : List Want) (want : Want) → (xs ++ one_if b want) ++ rest ≡ xs ++ cond b (want ∷ rest) rest
moved true xs rest want = append_assoc xs (want ∷ []) rest
moved false xs rest want = ap (λ ys. ys ++ rest) (append-nil xs)

-- one more member has its want
pub member_added : (number m : ℕ) (member : Member) (rest : List Member) (old new all : List Want) → new ≡ old ++ one_if (member.0 == m) (number, member.1)
    → old ++ wants_among number (member ∷ rest) m ≡ all → new ++ wants_among number rest m ≡ all
member_added number m member rest old new all more before =
    ap (λ ys. ys ++ wants_among number rest m) more ∙ moved (member.0 == m) old (wants_among number rest m) (number, member.1) ∙ before

-- a walk over the members, the lists and the modes, one step on

pub next_member : (number m : ℕ) (members : List Member) (i : ℕ) (d : Member) (old new all : List Want) → i < length members → new ≡ old ++ one_if ((get_or members i d).0 == m) (number, (get_or members i d).1)
    → old ++ wants_among number (drop i members) m ≡ all → new ++ wants_among number (drop (i + 1) members) m ≡ all
next_member number m members i d old new all h more before =
    member_added number m (get_or members i d) (drop (i + 1) members) old new all more (ap (λ ms. old ++ wants_among number ms m) (sym (drop_more members i d h)) ∙ before)

pub no_member_left : (number m : ℕ) (members : List Member) (i : ℕ) (old all : List Want) → length members ≤ i → old ++ wants_among number (drop i members) m ≡ all → old ≡ all
no_member_left number m members i old all h before = sym (append-nil old) ∙ ap (λ ms. old ++ wants_among number ms m) (sym (drop_all i members h)) ∙ before

at_list : (lists : List MethodWants) (i : ℕ) (x : MethodWants) → i < length lists → x ≡ get_or lists i x → drop i lists ≡ x ∷ drop (i + 1) lists
at_list lists i x h e = drop_more lists i x h ∙ ap (λ y. y ∷ drop (i + 1) lists) (sym e)

pub its_list : (method : ℕ) (lists : List MethodWants) (i : ℕ) (x : MethodWants) (all : List Want) → i < length lists → x ≡ get_or lists i x → x.method ≡ method → wanted_in (drop i lists) method ≡ all → x.wants.items ≡ all
its_list method lists i x all h e same before =
    sym (cond-true (x.method == method) x.wants.items (wanted_in (drop (i + 1) lists) method) (eq-eqb x.method method same))
    ∙ ap (λ ls. wanted_in ls method) (sym (at_list lists i x h e)) ∙ before

pub another_list : (method : ℕ) (lists : List MethodWants) (i : ℕ) (x : MethodWants) (all : List Want) → i < length lists → x ≡ get_or lists i x → (x.method ≡ method → ⊥) → wanted_in (drop i lists) method ≡ all
    → wanted_in (drop (i + 1) lists) method ≡ all
another_list method lists i x all h e apart before =
    sym (cond-false (x.method == method) x.wants.items (wanted_in (drop (i + 1) lists) method) (ne_eqb x.method method apart))
    ∙ ap (λ ls. wanted_in ls method) (sym (at_list lists i x h e)) ∙ before

pub no_list_left : (method : ℕ) (lists : List MethodWants) (i : ℕ) (all : List Want) → length lists ≤ i → wanted_in (drop i lists) method ≡ all → [] ≡ all
no_list_left method lists i all h before = ap (λ ls. wanted_in ls method) (sym (drop_all i lists h)) ∙ before

pub next_mode : (number m : ℕ) (modes : List Mode) (x : Mode) (members : List Member) (old new all : List Want) → number < length modes → x ≡ get_or modes number x → members ≡ x.members.items
    → new ≡ old ++ wants_among number members m → old ++ wants_from number (modes_of (drop number modes)) m ≡ all → new ++ wants_from (number + 1) (modes_of (drop (number + 1) modes)) m ≡ all
next_mode number m modes x members old new all h e is more before =
    let here : drop number modes ≡ x ∷ drop (number + 1) modes = drop_more modes number x h ∙ ap (λ y. y ∷ drop (number + 1) modes) (sym e) in
    ap (λ ys. ys ++ wants_from (number + 1) (modes_of (drop (number + 1) modes)) m) (more ∙ ap (λ ms. old ++ wants_among number ms m) is)
    ∙ append_assoc old (wants_among number x.members.items m) (wants_from (number + 1) (modes_of (drop (number + 1) modes)) m)
    ∙ ap (λ ms. old ++ wants_from number (modes_of ms) m) (sym here) ∙ before

pub no_mode_left : (number m : ℕ) (modes : List Mode) (old all : List Want) → length modes ≤ number → old ++ wants_from number (modes_of (drop number modes)) m ≡ all → old ≡ all
no_mode_left number m modes old all h before = sym (append-nil old) ∙ ap (λ ms. old ++ wants_from number (modes_of ms) m) (sym (drop_all number modes h)) ∙ before

-- what a list lends at a place
pub lent : {R X : Type 0} (now : R → X) (xs : List X) (i : ℕ) (r : Option R) → ItemBy now xs i i r → option_map now r ≡ slice_get xs i
lent now xs i None h = sym (slice_get_past xs i h.3)
lent now xs i (Some b) h = sym (slice_get_read xs (length xs) i (now b) refl h.3.0 h.1)

few_by : (t : Bool) (xs ys : List Want) → length xs < 2 ^ 32 → length ys < 2 ^ 32 → length (cond t xs ys) < 2 ^ 32
few_by true xs ys h k = h
few_by false xs ys h k = k

-- where no list is too long, what is wanted is not
pub few_wanted : (lists : List MethodWants) → All (λ (list : MethodWants). length list.wants.items < 2 ^ 32) lists → (method : ℕ) → length (wanted_in lists method) < 2 ^ 32
few_wanted [] h method = lit< tt
few_wanted (x ∷ xs) h method =
    few_by (x.method == method) x.wants.items (wanted_in xs method) (All-head (λ (list : MethodWants). length list.wants.items < 2 ^ 32) x xs h)
    (few_wanted xs (All-tail (λ (list : MethodWants). length list.wants.items < 2 ^ 32) x xs h) method)

-- modes and lists that are kept for them
pub kept : (modes : List Mode) (lists : List MethodWants) → length modes < 2 ^ 32 → All (λ (list : MethodWants). length list.wants.items < 2 ^ 32) lists
    → ((method : ℕ) → wanted_in lists method ≡ wants_of (modes_of modes) method) → AreKeptWants (modes_of modes) lists
kept modes lists few few_each wants = record {
  few = omega (arith, length-map modes mode_of);
  few_wants = λ method. subst (λ (ws : List Want). length ws < 2 ^ 32) (wants method) (few_wanted lists few_each method);
  wants = wants;
}

pub few_needs : (modes : LockModes) (lists : List MethodWants) (made : Made) → AreKeptWants modes lists → length (needs_of modes made) < 2 ^ 32
few_needs modes lists made k =
    let few : length (wants_of modes made.call.method) < 2 ^ 32 = k.few_wants made.call.method in
    omega (arith, length-map (wants_of modes made.call.method) (need_of made))

pub needs_kept : (modes : LockModes) (lists : List MethodWants) (made : Made) (i : ℕ) → AreKeptWants modes lists → slice_get (map (need_of made) (wanted_in lists made.call.method)) i ≡ slice_get (needs_of modes made) i
needs_kept modes lists made i k = ap (λ (ws : List Want). slice_get (map (need_of made) ws) i) (k.wants made.call.method)

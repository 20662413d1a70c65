-- A ready set is kept as std's ordered set of its items, and its first item is the least.
use Rattle.std.specs.Prelude.{◌≡◌, ℕ, suc, ◌+◌, ◌<◌, length, Bool, true, false, not, ◌&&◌, ◌||◌, if◌then◌else◌, List, [], ◌∷◌, ◌++◌, take, ℤ, slice_index_or, refl}
use Rattle.std.proofs.Common.{sym, ◌∙◌, ap, arith, cond}
use Rattle.std.proofs.lemmas.List.{take_more}
use Rattle.std.specs.Ordering.{is_eq, is_lt, is_gt, int_cmp, ordering_then, ordering_reverse, match_ordering}
use Rattle.std.specs.declared.cmp.Ordering.{Ordering}
use Rattle.std.specs.declared.cmp.Ordering.TheVariants.{Less, Equal, Greater}
use Rattle.std.specs.Cmp.{IsTotalOrder, int_cmp_total, then_total, on_total, tied_itself}
use Rattle.std.specs.List.{All, list_any}
use Rattle.std.specs.Set.{remove_key}
use Rattle.std.specs.BTreeSet.{insert_key}
use Rattle.std.specs.BTreeMap.Range.{IsLeBy}
use Rattle.gx_base.specs.declared.acts.Step.{Step}
use Rattle.gx_base.specs.declared.items.Item.{Item}
use Rattle.gx_base.specs.SerialIterations.{ready_after}
use Rattle.gx_base.proofs.CallerLemmas.{same_int}
use Rattle.gx_base.specs.Worklists.{item_cmp, same_item, is_before, has_item, is_least, with_item, with_items, without_item, without_items}

pub item_cmp_total : IsTotalOrder item_cmp
unfolding item_cmp
item_cmp_total =
    then_total (on_total (λ (x : Item). x.k0) int_cmp_total)
    (then_total (on_total (λ (x : Item). x.k1) int_cmp_total) (then_total (on_total (λ (x : Item). x.k2) int_cmp_total) (on_total (λ (x : Item). x.k3) int_cmp_total)))

pub same_itself : (x : Item) → same_item x x ≡ true
same_itself x = ap is_eq (tied_itself item_cmp_total x)

pub before_itself : (x : Item) → is_before x x ≡ false
before_itself x = ap is_lt (tied_itself item_cmp_total x)

with_by : (x y : Item) (ys ws : List Item) (r s : Ordering) → r ≡ ordering_reverse s → (if is_eq r then y ∷ ys else (if is_lt s then x ∷ y ∷ ys else y ∷ ws)) ≡ match_ordering s (x ∷ y ∷ ys) (y ∷ ys) (y ∷ ws)
with_by x y ys ws r Less e = ap (λ o. if is_eq o then y ∷ ys else x ∷ y ∷ ys) e
with_by x y ys ws r Equal e = ap (λ o. if is_eq o then y ∷ ys else y ∷ ws) e
with_by x y ys ws r Greater e = ap (λ o. if is_eq o then y ∷ ys else y ∷ ws) e

-- std puts an item at the same place
pub with_item-insert_key : (ys : List Item) (x : Item) → with_item ys x ≡ insert_key item_cmp ys x
unfolding with_item
with_item-insert_key [] x = refl
with_item-insert_key (y ∷ ys) x =
    with_by x y ys (with_item ys x) (item_cmp y x) (item_cmp x y) (item_cmp_total.antisymm y x)
    ∙ ap (λ ws. match_ordering (item_cmp x y) (x ∷ y ∷ ys) (y ∷ ys) (y ∷ ws)) (with_item-insert_key ys x)

pub has_item-first : (x : Item) (xs : List Item) → has_item (x ∷ xs) x ≡ true
unfolding has_item
has_item-first x xs = ap (λ (b : Bool). b || has_item xs x) (same_itself x)

pub with_items-append : (xs ready : List Item) (x : Item) → with_items ready (xs ++ x ∷ []) ≡ with_item (with_items ready xs) x
unfolding with_items
with_items-append [] ready x = refl
with_items-append (y ∷ ys) ready x = with_items-append ys (with_item ready y) x

-- one more item of a list enters
pub one_more_ready : (xs ready before now : List Item) (i : ℕ) (d : Item) → i < length xs → before ≡ with_items ready (take i xs) → now ≡ with_item before (slice_index_or xs i d) → now ≡ with_items ready (take (i + 1) xs)
one_more_ready xs ready before now i d h e n =
    n ∙ ap (λ ys. with_item ys (slice_index_or xs i d)) e ∙ sym (with_items-append (take i xs) ready (slice_index_or xs i d)) ∙ ap (with_items ready) (sym (take_more xs i d h))

without_items-append : (xs ready : List Item) (x : Item) → without_items ready (xs ++ x ∷ []) ≡ without_item (without_items ready xs) x
unfolding without_items
without_items-append [] ready x = refl
without_items-append (y ∷ ys) ready x = without_items-append ys (without_item ready y) x

-- one more item of a list leaves
pub one_fewer_ready : (xs ready before now : List Item) (i : ℕ) (d : Item) → i < length xs → before ≡ without_items ready (take i xs) → now ≡ without_item before (slice_index_or xs i d) → now ≡ without_items ready (take (i + 1) xs)
one_fewer_ready xs ready before now i d h e n =
    n ∙ ap (λ ys. without_item ys (slice_index_or xs i d)) e ∙ sym (without_items-append (take i xs) ready (slice_index_or xs i d)) ∙ ap (without_items ready) (sym (take_more xs i d h))

-- ---- items that are the same

pub is_equal : (r : Ordering) → is_eq r ≡ true → r ≡ Equal
is_equal Less e = absurd (cc)
is_equal Equal e = refl
is_equal Greater e = absurd (cc)

then_equal : (r s : Ordering) → ordering_then r s ≡ Equal → (r ≡ Equal) × (s ≡ Equal)
then_equal Less s e = absurd (cc)
then_equal Equal s e = (refl, e)
then_equal Greater s e = absurd (cc)

number_equal : (x y : ℤ) → int_cmp x y ≡ Equal → x ≡ y
number_equal x y e = same_int x y (ap is_eq e)

pub item_equal : (x y : Item) → item_cmp x y ≡ Equal → x ≡ y
unfolding item_cmp
item_equal x y e =
    let p : (int_cmp x.k0 y.k0 ≡ Equal) × (ordering_then (int_cmp x.k1 y.k1) (ordering_then (int_cmp x.k2 y.k2) (int_cmp x.k3 y.k3)) ≡ Equal) = then_equal _ _ e in
    let q : (int_cmp x.k1 y.k1 ≡ Equal) × (ordering_then (int_cmp x.k2 y.k2) (int_cmp x.k3 y.k3) ≡ Equal) = then_equal _ _ p.1 in
    let r : (int_cmp x.k2 y.k2 ≡ Equal) × (int_cmp x.k3 y.k3 ≡ Equal) = then_equal _ _ q.1 in
    λ i. record { k0 = number_equal x.k0 y.k0 p.0 i; k1 = number_equal x.k1 y.k1 q.0 i; k2 = number_equal x.k2 y.k2 r.0 i; k3 = number_equal x.k3 y.k3 r.1 i }

-- ---- an item in a set

eq_reversed : (r : Ordering) → is_eq (ordering_reverse r) ≡ is_eq r
eq_reversed Less = refl
eq_reversed Equal = refl
eq_reversed Greater = refl

same_turned : (x y : Item) → is_eq (item_cmp x y) ≡ same_item y x
same_turned x y = ap is_eq (item_cmp_total.antisymm x y) ∙ eq_reversed (item_cmp y x)

-- std looks an item up in the same way
pub has_item-any : (ys : List Item) (x : Item) → list_any (λ y. is_eq (item_cmp x y)) ys ≡ has_item ys x
unfolding has_item
has_item-any [] x = refl
has_item-any (y ∷ ys) x = λ i. same_turned x y i || has_item-any ys x i

lt_reversed : (r : Ordering) → is_lt (ordering_reverse r) ≡ is_gt r
lt_reversed Less = refl
lt_reversed Equal = refl
lt_reversed Greater = refl

-- an item that none is before is the least
pub is_least-from : (x : Item) (ys : List Item) → All (IsLeBy item_cmp x) ys → is_least ys x ≡ true
unfolding is_least
is_least-from x [] h = refl
is_least-from x (y ∷ ys) h =
    let here : is_before y x ≡ false = ap is_lt (item_cmp_total.antisymm y x) ∙ lt_reversed (item_cmp x y) ∙ h 0 y (omega arith) in
    ap (λ b. not b && is_least ys x) here ∙ is_least-from x ys (λ k d l. h (suc k) d (omega arith))

-- ---- an item leaves

neither : (a b : Bool) → (a || b) ≡ false → (a ≡ false) × (b ≡ false)
neither true b e = absurd (cc)
neither false b e = (refl, e)

without_absent : (x : Item) (ys : List Item) → list_any (λ y. is_eq (item_cmp x y)) ys ≡ false → without_item ys x ≡ ys
unfolding without_item
without_absent x [] h = refl
without_absent x (y ∷ ys) h =
    let other = neither (is_eq (item_cmp x y)) (list_any (λ z. is_eq (item_cmp x z)) ys) h in
    ap (λ b. if b then without_item ys x else y ∷ without_item ys x) (sym (same_turned x y) ∙ other.0) ∙ ap (λ zs. y ∷ zs) (without_absent x ys other.1)

removed_by : (x y : Item) (ys kept : List Item) (same : Bool) → is_eq (item_cmp x y) ≡ same → list_any (λ z. is_eq (item_cmp x z)) (cond same ys (y ∷ kept)) ≡ false
    → (list_any (λ z. is_eq (item_cmp x z)) kept ≡ false → kept ≡ without_item ys x) → cond same ys (y ∷ kept) ≡ without_item (y ∷ ys) x
unfolding without_item
removed_by x y ys kept true e h k = sym (without_absent x ys h) ∙ sym (ap (λ b. if b then without_item ys x else y ∷ without_item ys x) (sym (same_turned x y) ∙ e))
removed_by x y ys kept false e h k =
    ap (λ zs. y ∷ zs) (k (neither (is_eq (item_cmp x y)) (list_any (λ z. is_eq (item_cmp x z)) kept) h).1) ∙ sym (ap (λ b. if b then without_item ys x else y ∷ without_item ys x) (sym (same_turned x y) ∙ e))

-- std takes an item out of a set in the same way, where it isn't there afterwards
pub without_item-remove_key : (ys : List Item) (x : Item) → list_any (λ y. is_eq (item_cmp x y)) (remove_key (λ y. is_eq (item_cmp x y)) ys) ≡ false → remove_key (λ y. is_eq (item_cmp x y)) ys ≡ without_item ys x
unfolding without_item
without_item-remove_key [] x h = refl
without_item-remove_key (y ∷ ys) x h = removed_by x y ys (remove_key (λ z. is_eq (item_cmp x z)) ys) (is_eq (item_cmp x y)) refl h (without_item-remove_key ys x)

-- a body that withdraws nothing only adds its pushes
pub ready_after-pushes : (ready : List Item) (item : Item) (steps : List Step) (pushes : List Item) → ready_after ready item (record { steps = steps; pushes = pushes; withdrawn = [] }) ≡ with_items (without_item ready item) pushes
unfolding without_items
ready_after-pushes ready item steps pushes = refl

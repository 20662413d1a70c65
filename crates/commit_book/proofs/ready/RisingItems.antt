-- Sets of items, as lists by rising item: what is in one after items enter and leave, and that two with the same items are
-- the same.
use Rattle.std.specs.Prelude.{◌≡◌, Bool, true, false, not, ◌&&◌, ◌||◌, if◌then◌else◌, Some, None, List, [], ◌∷◌, ◌++◌, slice_get, slice_index_or, ℕ, ◌+◌, ◌<◌, ◌≤◌, length, drop, refl}
use Rattle.std.proofs.lemmas.List.{drop_more, drop_all}
use Rattle.std.proofs.Common.{sym, ◌∙◌, ap, subst}
use Rattle.std.specs.Ordering.{is_eq, is_lt, ordering_reverse}
use Rattle.std.specs.declared.cmp.Ordering.{Ordering}
use Rattle.std.specs.declared.cmp.Ordering.TheVariants.{Less, Equal, Greater}
use Rattle.gx_base.specs.declared.items.Item.{Item}
use Rattle.gx_base.specs.Worklists.{item_cmp, same_item, is_before, has_item, is_least, with_item, with_items, without_item, without_items}
use Rattle.commit_book.specs.LawfulBooks.{AreAfter, AreRising, least_before}
use Rattle.commit_book.proofs.ready.ReadySets.{item_cmp_total, item_equal, is_equal, same_itself}

-- ---- the order of two items

pub same_is : (x y : Item) → same_item x y ≡ true → x ≡ y
same_is x y e = item_equal x y (is_equal (item_cmp x y) e)

is_less : (r : Ordering) → is_lt r ≡ true → r ≡ Less
is_less Less e = refl
is_less Equal e = absurd (cc)
is_less Greater e = absurd (cc)

pub before_then : (x y z : Item) → is_before x y ≡ true → is_before y z ≡ true → is_before x z ≡ true
before_then x y z e f = ap is_lt (item_cmp_total.trans x y z (is_less _ e) (is_less _ f))

pub before_not_same : (x y : Item) → is_before x y ≡ true → same_item y x ≡ false
before_not_same x y e = ap is_eq (item_cmp_total.antisymm y x ∙ ap ordering_reverse (is_less _ e))

else_less : (r s : Ordering) → s ≡ ordering_reverse r → is_eq r ≡ false → is_lt s ≡ false → is_lt r ≡ true
else_less Less s t e f = refl
else_less Equal s t e f = absurd (cc)
else_less Greater s t e f = absurd (let g : is_lt s ≡ true = ap is_lt t in cc)

-- of two items that aren't the same one comes first
pub else_before : (x y : Item) → same_item y x ≡ false → is_before x y ≡ false → is_before y x ≡ true
else_before x y e f = else_less (item_cmp y x) (item_cmp x y) (item_cmp_total.antisymm x y) e f

eq_turned : (r s : Ordering) → s ≡ ordering_reverse r → is_eq s ≡ is_eq r
eq_turned Less s t = ap is_eq t
eq_turned Equal s t = ap is_eq t
eq_turned Greater s t = ap is_eq t

pub same_turned : (x y : Item) → same_item x y ≡ same_item y x
same_turned x y = eq_turned (item_cmp y x) (item_cmp x y) (item_cmp_total.antisymm x y)

-- ---- what is in a set

or_twice : (a b c : Bool) → a ≡ b → (b || c) ≡ (a || (b || c))
or_twice true b c e = ap (λ s. s || c) (sym e)
or_twice false b c e = refl

or_swapped : (a b c : Bool) → (a || (b || c)) ≡ (b || (a || c))
or_swapped true true c = refl
or_swapped true false c = refl
or_swapped false b c = refl

has-with_by : (x y z : Item) (ys ws : List Item) (same before : Bool) → same_item y x ≡ same → has_item ws z ≡ (same_item x z || has_item ys z)
    → has_item (if same then y ∷ ys else (if before then x ∷ y ∷ ys else y ∷ ws)) z ≡ (same_item x z || has_item (y ∷ ys) z)
unfolding has_item
has-with_by x y z ys ws true before e h = or_twice (same_item x z) (same_item y z) (has_item ys z) (ap (λ w. same_item w z) (sym (same_is y x e)))
has-with_by x y z ys ws false true e h = refl
has-with_by x y z ys ws false false e h = ap (λ b. same_item y z || b) h ∙ or_swapped (same_item y z) (same_item x z) (has_item ys z)

pub has-with : (ys : List Item) (x z : Item) → has_item (with_item ys x) z ≡ (same_item x z || has_item ys z)
unfolding has_item with_item
has-with [] x z = refl
has-with (y ∷ ys) x z = has-with_by x y z ys (with_item ys x) (same_item y x) (is_before x y) refl (has-with ys x z)

not_here : (a h : Bool) → (not a && h) ≡ (not a && (a || h))
not_here true h = refl
not_here false h = refl

not_there : (a b h : Bool) → (a ≡ true → b ≡ false) → (b || (not a && h)) ≡ (not a && (b || h))
not_there true true h e = let f : true ≡ false = e refl in absurd (cc)
not_there true false h e = refl
not_there false b h e = refl

has-without_by : (x y z : Item) (ys ws : List Item) (same : Bool) → same_item y x ≡ same → has_item ws z ≡ (not (same_item x z) && has_item ys z)
    → has_item (if same then ws else y ∷ ws) z ≡ (not (same_item x z) && has_item (y ∷ ys) z)
unfolding has_item
has-without_by x y z ys ws true e h =
    h ∙ ap (λ a. not a && has_item ys z) (ap (λ w. same_item w z) (sym (same_is y x e)))
    ∙ not_here (same_item y z) (has_item ys z)
    ∙ ap (λ a. not a && (same_item y z || has_item ys z)) (ap (λ w. same_item w z) (same_is y x e))
has-without_by x y z ys ws false e h =
    ap (λ b. same_item y z || b) h
    ∙ not_there (same_item x z) (same_item y z) (has_item ys z) (λ s. ap (λ w. same_item y w) (sym (same_is x z s)) ∙ e)

false_right : (a : Bool) → false ≡ (a && false)
false_right true = refl
false_right false = refl

pub has-without : (ys : List Item) (x z : Item) → has_item (without_item ys x) z ≡ (not (same_item x z) && has_item ys z)
unfolding has_item without_item
has-without [] x z = false_right (not (same_item x z))
has-without (y ∷ ys) x z = has-without_by x y z ys (without_item ys x) (same_item y x) refl (has-without ys x z)

or_moved : (a b c : Bool) → (a || (b || c)) ≡ ((b || a) || c)
or_moved true true c = refl
or_moved true false c = refl
or_moved false true c = refl
or_moved false false c = refl

pub has-withs : (xs ys : List Item) (z : Item) → has_item (with_items ys xs) z ≡ (has_item xs z || has_item ys z)
unfolding has_item with_items
has-withs [] ys z = refl
has-withs (x ∷ xs) ys z =
    has-withs xs (with_item ys x) z ∙ ap (λ b. has_item xs z || b) (has-with ys x z) ∙ or_moved (has_item xs z) (same_item x z) (has_item ys z)

and_moved : (a b c : Bool) → (not a && (not b && c)) ≡ (not (b || a) && c)
and_moved true true c = refl
and_moved true false c = refl
and_moved false true c = refl
and_moved false false c = refl

pub has-withouts : (xs ys : List Item) (z : Item) → has_item (without_items ys xs) z ≡ (not (has_item xs z) && has_item ys z)
unfolding has_item without_items
has-withouts [] ys z = refl
has-withouts (x ∷ xs) ys z =
    has-withouts xs (without_item ys x) z ∙ ap (λ b. not (has_item xs z) && b) (has-without ys x z) ∙ and_moved (has_item xs z) (same_item x z) (has_item ys z)

or_grouped : (a b c : Bool) → (a || (b || c)) ≡ ((a || b) || c)
or_grouped true b c = refl
or_grouped false b c = refl

pub has-append : (xs ys : List Item) (z : Item) → has_item (xs ++ ys) z ≡ (has_item xs z || has_item ys z)
unfolding has_item
has-append [] ys z = refl
has-append (x ∷ xs) ys z = ap (λ b. same_item x z || b) (has-append xs ys z) ∙ or_grouped (same_item x z) (has_item xs z) (has_item ys z)

-- ---- rising items

pub after_then : (x y : Item) (ys : List Item) → is_before x y ≡ true → AreAfter y ys → AreAfter x ys
after_then x y [] e a = tt
after_then x y (z ∷ zs) e a = (before_then x y z e a.0, after_then x y zs e a.1)

after-with_by : (w x y : Item) (ys ws : List Item) (same before : Bool) → is_before w x ≡ true → AreAfter w (y ∷ ys) → AreAfter w ws → AreAfter w (if same then y ∷ ys else (if before then x ∷ y ∷ ys else y ∷ ws))
after-with_by w x y ys ws true before e a h = a
after-with_by w x y ys ws false true e a h = (e, a)
after-with_by w x y ys ws false false e a h = (a.0, h)

after-with : (w x : Item) (ys : List Item) → is_before w x ≡ true → AreAfter w ys → AreAfter w (with_item ys x)
unfolding with_item
after-with w x [] e a = (e, tt)
after-with w x (y ∷ ys) e a = after-with_by w x y ys (with_item ys x) (same_item y x) (is_before x y) e a (after-with w x ys e a.1)

rising-with_by : (x y : Item) (ys : List Item) (same before : Bool) → same_item y x ≡ same → is_before x y ≡ before → AreRising (y ∷ ys) → AreRising (with_item ys x) → AreRising (if same then y ∷ ys else (if before then x ∷ y ∷ ys else y ∷ with_item ys x))
rising-with_by x y ys true before e f r h = r
rising-with_by x y ys false true e f r h = ((f, after_then x y ys f r.0), r)
rising-with_by x y ys false false e f r h = (after-with y x ys (else_before x y e f) r.0, h)

pub rising-with : (ys : List Item) (x : Item) → AreRising ys → AreRising (with_item ys x)
unfolding with_item
rising-with [] x r = (tt, tt)
rising-with (y ∷ ys) x r = rising-with_by x y ys (same_item y x) (is_before x y) refl refl r (rising-with ys x r.1)

pub rising-withs : (xs ys : List Item) → AreRising ys → AreRising (with_items ys xs)
unfolding with_items
rising-withs [] ys r = r
rising-withs (x ∷ xs) ys r = rising-withs xs (with_item ys x) (rising-with ys x r)

after-without_by : (w x y : Item) (ws : List Item) (same : Bool) → is_before w y ≡ true → AreAfter w ws → AreAfter w (if same then ws else y ∷ ws)
after-without_by w x y ws true e h = h
after-without_by w x y ws false e h = (e, h)

after-without : (w x : Item) (ys : List Item) → AreAfter w ys → AreAfter w (without_item ys x)
unfolding without_item
after-without w x [] a = tt
after-without w x (y ∷ ys) a = after-without_by w x y (without_item ys x) (same_item y x) a.0 (after-without w x ys a.1)

rising-without_by : (x y : Item) (ws : List Item) (same : Bool) → AreAfter y ws → AreRising ws → AreRising (if same then ws else y ∷ ws)
rising-without_by x y ws true a h = h
rising-without_by x y ws false a h = (a, h)

pub rising-without : (ys : List Item) (x : Item) → AreRising ys → AreRising (without_item ys x)
unfolding without_item
rising-without [] x r = tt
rising-without (y ∷ ys) x r = rising-without_by x y (without_item ys x) (same_item y x) (after-without y x ys r.0) (rising-without ys x r.1)

pub rising-withouts : (xs ys : List Item) → AreRising ys → AreRising (without_items ys xs)
unfolding without_items
rising-withouts [] ys r = r
rising-withouts (x ∷ xs) ys r = rising-withouts xs (without_item ys x) (rising-without ys x r)

-- ---- sets with the same items

pub not_after : (x : Item) (ys : List Item) → AreAfter x ys → has_item ys x ≡ false
unfolding has_item
not_after x [] a = refl
not_after x (y ∷ ys) a = ap (λ b. b || has_item ys x) (before_not_same x y a.0) ∙ not_after x ys a.1

has_first : (x : Item) (xs : List Item) → has_item (x ∷ xs) x ≡ true
unfolding has_item
has_first x xs = ap (λ b. b || has_item xs x) (same_itself x)

has_none : (x : Item) → has_item [] x ≡ false
unfolding has_item
has_none x = refl

-- the items of one set come after an item that the other one has
missing : (x y : Item) (ys : List Item) → is_before x y ≡ true → AreRising (y ∷ ys) → has_item (y ∷ ys) x ≡ false
missing x y ys e r = not_after x (y ∷ ys) (e, after_then x y ys e r.0)

rest_by : (x z : Item) (xs ys : List Item) (same : Bool) → same_item x z ≡ same → AreAfter x xs → AreAfter x ys → (same_item x z || has_item xs z) ≡ (same_item x z || has_item ys z) → has_item xs z ≡ has_item ys z
rest_by x z xs ys true e a b h = ap (has_item xs) (sym (same_is x z e)) ∙ not_after x xs a ∙ sym (not_after x ys b) ∙ ap (has_item ys) (same_is x z e)
rest_by x z xs ys false e a b h = ap (λ s. s || has_item xs z) (sym e) ∙ h ∙ ap (λ s. s || has_item ys z) e

same_rest : (x : Item) (xs ys : List Item) → AreAfter x xs → AreAfter x ys → ((z : Item) → has_item (x ∷ xs) z ≡ has_item (x ∷ ys) z) → (z : Item) → has_item xs z ≡ has_item ys z
unfolding has_item
same_rest x xs ys a b h z = rest_by x z xs ys (same_item x z) refl a b (h z)

same_by : (x y : Item) (xs ys : List Item) (same before : Bool) → same_item y x ≡ same → is_before x y ≡ before → AreRising (x ∷ xs) → AreRising (y ∷ ys) → ((z : Item) → has_item (x ∷ xs) z ≡ has_item (y ∷ ys) z)
    → (((z : Item) → has_item xs z ≡ has_item ys z) → xs ≡ ys) → (x ∷ xs) ≡ (y ∷ ys)
same_by x y xs ys true before e f r s h rest =
    let is : x ≡ y = sym (same_is y x e) in
    let a : AreAfter x ys = subst (λ w. AreAfter w ys) (sym is) s.0 in
    (λ i. x ∷ rest (same_rest x xs ys r.0 a (λ z. h z ∙ ap (λ w. has_item (w ∷ ys) z) (sym is))) i) ∙ ap (λ w. w ∷ ys) is
same_by x y xs ys false true e f r s h rest = absurd (let k : true ≡ false = sym (has_first x xs) ∙ h x ∙ missing x y ys f s in cc)
same_by x y xs ys false false e f r s h rest = absurd (let k : true ≡ false = sym (has_first y ys) ∙ sym (h y) ∙ missing y x xs (else_before x y e f) r in cc)

pub same_items : (xs ys : List Item) → AreRising xs → AreRising ys → ((z : Item) → has_item xs z ≡ has_item ys z) → xs ≡ ys
same_items [] [] r s h = refl
same_items [] (y ∷ ys) r s h = absurd (let k : true ≡ false = sym (has_first y ys) ∙ sym (h y) ∙ has_none y in cc)
same_items (x ∷ xs) [] r s h = absurd (let k : true ≡ false = sym (has_first x xs) ∙ h x ∙ has_none x in cc)
same_items (x ∷ xs) (y ∷ ys) r s h = same_by x y xs ys (same_item y x) (is_before x y) refl refl r s h (same_items xs ys r.1 s.1)

-- ---- what commits and their taking back rest on

present_by : (ys : List Item) (x z : Item) (same : Bool) → same_item x z ≡ same → has_item ys x ≡ true → (same || has_item ys z) ≡ has_item ys z
present_by ys x z true e h = sym h ∙ ap (has_item ys) (same_is x z e)
present_by ys x z false e h = refl

-- an item that is in a set may enter once more
pub with_present : (ys : List Item) (x : Item) → AreRising ys → has_item ys x ≡ true → with_item ys x ≡ ys
with_present ys x r h = same_items (with_item ys x) ys (rising-with ys x r) r (λ z. has-with ys x z ∙ present_by ys x z (same_item x z) refl h)

-- the items that were added are those that weren't in the set before
pub record IsNoted (before now added : List Item) : Type 0 where
  pub rising : AreRising now
  pub others : (z : Item) → (not (has_item added z) && has_item now z) ≡ has_item before z

pub noted_first : (before : List Item) → AreRising before → IsNoted before before []
unfolding has_item
noted_first before r = record { rising = r; others = λ z. refl }

noted_by : (before now added : List Item) (x z : Item) (same noted : Bool) → same_item x z ≡ same → has_item added z ≡ noted → has_item now x ≡ false → (not noted && has_item now z) ≡ has_item before z
    → (not (noted || (same || false)) && (same || has_item now z)) ≡ has_item before z
noted_by before now added x z true true e n h o = o
noted_by before now added x z true false e n h o = sym h ∙ ap (has_item now) (same_is x z e) ∙ o
noted_by before now added x z false true e n h o = o
noted_by before now added x z false false e n h o = o

-- one that wasn't in the set is noted, and then it enters
pub noted_more : (before now added : List Item) (x : Item) → IsNoted before now added → has_item now x ≡ false → IsNoted before (with_item now x) (added ++ x ∷ [])
unfolding has_item
noted_more before now added x n h = record {
  rising = rising-with now x n.rising;
  others = λ z.
      (λ i. not (has-append added (x ∷ []) z i) && has-with now x z i)
      ∙ noted_by before now added x z (same_item x z) (has_item added z) refl refl h (n.others z);
}

kept_by : (before now : List Item) (x z : Item) (same noted : Bool) → same_item x z ≡ same → has_item now x ≡ false → (not noted && has_item now z) ≡ has_item before z
    → (not (noted || (same || false)) && has_item now z) ≡ has_item before z
kept_by before now x z true true e h o = o
kept_by before now x z true false e h o = sym h ∙ ap (has_item now) (same_is x z e) ∙ o
kept_by before now x z false true e h o = o
kept_by before now x z false false e h o = o

-- it may be noted and not enter
pub noted_only : (before now added : List Item) (x : Item) → IsNoted before now added → has_item now x ≡ false → IsNoted before now (added ++ x ∷ [])
unfolding has_item
noted_only before now added x n h = record {
  rising = n.rising;
  others = λ z. ap (λ b. not b && has_item now z) (has-append added (x ∷ []) z) ∙ kept_by before now x z (same_item x z) (has_item added z) refl h (n.others z);
}

-- the same of lists that are these
pub noted_as : (before now now2 added added2 : List Item) → now2 ≡ now → added2 ≡ added → IsNoted before now added → IsNoted before now2 added2
noted_as before now now2 added added2 p q n = subst (λ x. IsNoted before x added2) (sym p) (subst (λ x. IsNoted before now x) (sym q) n)

-- the set without the items that were added is as it was
pub taken_back : (before now added : List Item) → AreRising before → IsNoted before now added → without_items now added ≡ before
taken_back before now added r n =
    same_items (without_items now added) before (rising-withouts added now n.rising) r (λ z. has-withouts added now z ∙ n.others z)

pushed_by : (ps ready : List Item) (x z : Item) (same : Bool) → same_item x z ≡ same → has_item ps x ≡ true → (has_item ps z || has_item ready z) ≡ (has_item ps z || (not same && has_item ready z))
pushed_by ps ready x z true e h = let p : has_item ps z ≡ true = ap (has_item ps) (sym (same_is x z e)) ∙ h in ap (λ b. b || has_item ready z) p ∙ ap (λ b. b || false) (sym p)
pushed_by ps ready x z false e h = refl

-- an item that is among those that enter needn't leave before
pub left_and_pushed : (ps ready : List Item) (x : Item) → AreRising ready → has_item ps x ≡ true → with_items ready ps ≡ with_items (without_item ready x) ps
left_and_pushed ps ready x r h =
    same_items (with_items ready ps) (with_items (without_item ready x) ps) (rising-withs ps ready r) (rising-withs ps (without_item ready x) (rising-without ready x r))
    (λ z. has-withs ps ready z ∙ pushed_by ps ready x z (same_item x z) refl h ∙ ap (λ b. has_item ps z || b) (sym (has-without ready x z)) ∙ sym (has-withs ps (without_item ready x) z))

other_by : (ps ready : List Item) (x z : Item) (same : Bool) → same_item x z ≡ same → has_item ps x ≡ false → (not same && (has_item ps z || has_item ready z)) ≡ (has_item ps z || (not same && has_item ready z))
other_by ps ready x z true e h = let p : has_item ps z ≡ false = ap (has_item ps) (sym (same_is x z e)) ∙ h in sym (ap (λ b. b || false) p)
other_by ps ready x z false e h = refl

-- one that isn't may leave after
pub left_after : (ps ready : List Item) (x : Item) → AreRising ready → has_item ps x ≡ false → without_item (with_items ready ps) x ≡ with_items (without_item ready x) ps
left_after ps ready x r h =
    same_items (without_item (with_items ready ps) x) (with_items (without_item ready x) ps) (rising-without (with_items ready ps) x (rising-withs ps ready r)) (rising-withs ps (without_item ready x) (rising-without ready x r))
    (λ z. has-without (with_items ready ps) x z ∙ ap (λ b. not (same_item x z) && b) (has-withs ps ready z) ∙ other_by ps ready x z (same_item x z) refl h ∙ ap (λ b. has_item ps z || b) (sym (has-without ready x z)) ∙ sym (has-withs ps (without_item ready x) z))

-- ---- the least of a set

least_by : (x y item : Item) (before : Bool) → is_before y item ≡ before → is_before x item ≡ false → is_before x y ≡ true → not before ≡ true
least_by x y item true e f g = absurd (let h : is_before x item ≡ true = before_then x y item g e in cc)
least_by x y item false e f g = refl

least_above : (x item : Item) (ys : List Item) → is_before x item ≡ false → AreAfter x ys → is_least ys item ≡ true
unfolding is_least
least_above x item [] f a = refl
least_above x item (y ∷ ys) f a = ap (λ b. b && is_least ys item) (least_by x y item (is_before y item) refl f a.0) ∙ least_above x item ys f a.1

none_by : (x item : Item) (before : Bool) → is_before x item ≡ before → (if before then Some x else None) ≡ None → is_before x item ≡ false
none_by x item true e n = absurd (cc)
none_by x item false e n = e

-- an item that the least of a set isn't before is before none of it
pub none_before : (ready : List Item) (item : Item) → AreRising ready → least_before ready item ≡ None → is_least ready item ≡ true
unfolding is_least
none_before [] item r n = refl
none_before (x ∷ xs) item r n =
    let f : is_before x item ≡ false = none_by x item (is_before x item) refl n in
    ap (λ b. not b && is_least xs item) f ∙ least_above x item xs f r.0

pub least_before-first : (ready : List Item) (x item : Item) → slice_get ready 0 ≡ Some x → least_before ready item ≡ (if is_before x item then Some x else None)
least_before-first [] x item e = absurd (cc)
least_before-first (y ∷ ys) x item e = let is : y ≡ x = cc in ap (λ z. if is_before z item then Some z else None) is

-- ---- a walk over items

among_here : (x y : Item) (ys : List Item) → same_item y x ≡ true → has_item (y ∷ ys) x ≡ true
unfolding has_item
among_here x y ys e = ap (λ b. b || has_item ys x) e

among_later : (x y : Item) (ys : List Item) → same_item y x ≡ false → has_item (y ∷ ys) x ≡ has_item ys x
unfolding has_item
among_later x y ys e = ap (λ b. b || has_item ys x) e

-- the item that the walk has come to is this one
pub among_at : (items : List Item) (item : Item) (i : ℕ) (d : Item) → i < length items → has_item (drop i items) item ≡ has_item items item → same_item (slice_index_or items i d) item ≡ true → true ≡ has_item items item
among_at items item i d l so e = sym (ap (λ ys. has_item ys item) (drop_more items i d l) ∙ among_here item (slice_index_or items i d) (drop (i + 1) items) e) ∙ so

-- it is another one
pub among_after : (items : List Item) (item : Item) (i : ℕ) (d : Item) → i < length items → has_item (drop i items) item ≡ has_item items item → same_item (slice_index_or items i d) item ≡ false → has_item (drop (i + 1) items) item ≡ has_item items item
among_after items item i d l so e = sym (ap (λ ys. has_item ys item) (drop_more items i d l) ∙ among_later item (slice_index_or items i d) (drop (i + 1) items) e) ∙ so

-- none is left
pub among_none : (items : List Item) (item : Item) (i : ℕ) → length items ≤ i → has_item (drop i items) item ≡ has_item items item → false ≡ has_item items item
among_none items item i l so = sym (ap (λ ys. has_item ys item) (drop_all i items l) ∙ has_none item) ∙ so

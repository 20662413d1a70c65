-- Ready sets stay in order, and the first item of such a set is its least.
use Rattle.std.specs.Prelude.{◌≡◌, Bool, true, false, not, if◌then◌else◌, List, [], ◌∷◌, refl}
use Rattle.std.proofs.Common.{ap}
use Rattle.std.specs.Ordering.{is_lt}
use Rattle.std.specs.declared.cmp.Ordering.{Ordering}
use Rattle.std.specs.declared.cmp.Ordering.TheVariants.{Less, Equal, Greater}
use Rattle.gx_base.specs.declared.items.Item.{Item}
use Rattle.gx_base.specs.Outcomes.{Outcome}
use Rattle.gx_base.specs.SerialIterations.{ready_after}
use Rattle.gx_base.specs.Worklists.{item_cmp, same_item, is_before, has_item, without_item, with_item, without_items, with_items, is_least}
use Rattle.gate_core.proofs.lists.EntryLists.{both_true}
use Rattle.commit_book.proofs.ready.ReadySets.{item_cmp_total, before_itself}
use Rattle.speculation.specs.ScheduledRuns.{is_empty}
use Rattle.speculation.specs.Premises.{IsInOrder}
use Rattle.speculation.proofs.Putting.{no_bool, both_are}

is_less : (r : Ordering) → is_lt r ≡ true → r ≡ Less
is_less Less e = refl
is_less Equal e = absurd (cc)
is_less Greater e = absurd (cc)

before_trans : (x y z : Item) → is_before x y ≡ true → is_before y z ≡ true → is_before x z ≡ true
before_trans x y z e f = ap is_lt (item_cmp_total.trans x y z (is_less (item_cmp x y) e) (is_less (item_cmp y z) f))

not_both : (b : Bool) → (b ≡ true → ⊥) → b ≡ false
not_both true n = absurd (n refl)
not_both false n = refl

before_back : (x y : Item) → is_before x y ≡ true → is_before y x ≡ false
before_back x y e = not_both (is_before y x) (λ f. no_bool (is_before x x) (before_trans x y x e f) (before_itself x))

is_not : (b : Bool) → not b ≡ true → b ≡ false
is_not true e = absurd (cc)
is_not false e = refl

-- ---- an item enters

-- nothing before a later item is before an earlier one
least_before : (ys : List Item) (x y : Item) → is_least ys y ≡ true → is_before x y ≡ true → is_least ys x ≡ true
unfolding is_least
least_before [] x y h e = refl
least_before (z ∷ zs) x y h e =
    let p : (not (is_before z y) ≡ true) × (is_least zs y ≡ true) = both_true (not (is_before z y)) (is_least zs y) h in
    both_are (not (is_before z x)) (is_least zs x) (ap not (not_both (is_before z x) (λ f. no_bool (is_before z y) (before_trans z x y f e) (is_not (is_before z y) p.0)))) (least_before zs x y p.1 e)

least_by : (y z x : Item) (zs ws : List Item) (b c : Bool) → is_least (z ∷ zs) y ≡ true → is_before x y ≡ false → is_least ws y ≡ true → is_least (if b then z ∷ zs else (if c then x ∷ z ∷ zs else z ∷ ws)) y ≡ true
unfolding is_least
least_by y z x zs ws true c h e k = h
least_by y z x zs ws false true h e k = both_are (not (is_before x y)) (is_least (z ∷ zs) y) (ap not e) h
least_by y z x zs ws false false h e k = both_are (not (is_before z y)) (is_least ws y) (both_true (not (is_before z y)) (is_least zs y) h).0 k

least_with : (ys : List Item) (x y : Item) → is_least ys y ≡ true → is_before x y ≡ false → is_least (with_item ys x) y ≡ true
unfolding is_least with_item
least_with [] x y h e = both_are (not (is_before x y)) true (ap not e) refl
least_with (z ∷ zs) x y h e = least_by y z x zs (with_item zs x) (same_item z x) (is_before x z) h e (least_with zs x y (both_true (not (is_before z y)) (is_least zs y) h).1 e)

order_by : (z x : Item) (zs ws : List Item) (b c : Bool) → is_before x z ≡ c → IsInOrder (z ∷ zs) → IsInOrder ws → (is_before x z ≡ false → is_least ws z ≡ true) → IsInOrder (if b then z ∷ zs else (if c then x ∷ z ∷ zs else z ∷ ws))
unfolding is_least
order_by z x zs ws true c e h k l = h
order_by z x zs ws false true e h k l = (both_are (not (is_before z x)) (is_least zs x) (ap not (before_back x z e)) (least_before zs x z h.0 e), h)
order_by z x zs ws false false e h k l = (l e, k)

order_with : (ys : List Item) (x : Item) → IsInOrder ys → IsInOrder (with_item ys x)
unfolding is_least with_item
order_with [] x h = (refl, tt)
order_with (z ∷ zs) x h = order_by z x zs (with_item zs x) (same_item z x) (is_before x z) refl h (order_with zs x h.1) (λ e. least_with zs x z h.0 e)

-- ---- an item leaves

least_without_by : (y z : Item) (ws : List Item) (b : Bool) → not (is_before z y) ≡ true → is_least ws y ≡ true → is_least (if b then ws else z ∷ ws) y ≡ true
unfolding is_least
least_without_by y z ws true e h = h
least_without_by y z ws false e h = both_are (not (is_before z y)) (is_least ws y) e h

least_without : (ys : List Item) (x y : Item) → is_least ys y ≡ true → is_least (without_item ys x) y ≡ true
unfolding is_least without_item
least_without [] x y h = h
least_without (z ∷ zs) x y h =
    let p : (not (is_before z y) ≡ true) × (is_least zs y ≡ true) = both_true (not (is_before z y)) (is_least zs y) h in
    least_without_by y z (without_item zs x) (same_item z x) p.0 (least_without zs x y p.1)

order_without_by : (z : Item) (ws : List Item) (b : Bool) → IsInOrder ws → is_least ws z ≡ true → IsInOrder (if b then ws else z ∷ ws)
order_without_by z ws true h l = h
order_without_by z ws false h l = (l, h)

order_without : (ys : List Item) (x : Item) → IsInOrder ys → IsInOrder (without_item ys x)
unfolding without_item
order_without [] x h = h
order_without (z ∷ zs) x h = order_without_by z (without_item zs x) (same_item z x) (order_without zs x h.1) (least_without zs x z h.0)

order_with_all : (xs ys : List Item) → IsInOrder ys → IsInOrder (with_items ys xs)
unfolding with_items
order_with_all [] ys h = h
order_with_all (x ∷ xs) ys h = order_with_all xs (with_item ys x) (order_with ys x h)

order_without_all : (xs ys : List Item) → IsInOrder ys → IsInOrder (without_items ys xs)
unfolding without_items
order_without_all [] ys h = h
order_without_all (x ∷ xs) ys h = order_without_all xs (without_item ys x) (order_without ys x h)

pub ready_stays_in_order : (ready : List Item) (item : Item) (o : Outcome) → IsInOrder ready → IsInOrder (ready_after ready item o)
ready_stays_in_order ready item o h = order_with_all o.pushes (without_items (without_item ready item) o.withdrawn) (order_without_all o.withdrawn (without_item ready item) (order_without ready item h))

-- ---- the first item is the least

pub least_first : (x : Item) (xs : List Item) → IsInOrder (x ∷ xs) → is_least (x ∷ xs) x ≡ true
unfolding is_least
least_first x xs h = both_are (not (is_before x x)) (is_least xs x) (ap not (before_itself x)) h.0

pub not_empty_set : (xs : List Item) (x : Item) → has_item xs x ≡ true → is_empty xs ≡ false
unfolding has_item
not_empty_set [] x e = absurd (cc)
not_empty_set (y ∷ ys) x e = refl

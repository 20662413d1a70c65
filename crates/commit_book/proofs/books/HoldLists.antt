-- The holds of a book as std's ordered map keeps them, and what keeps them apart.
use Rattle.std.specs.Prelude.{◌≡◌, ℕ, Bool, true, false, ◌&&◌, ◌||◌, ◌==◌, if◌then◌else◌, Option, Some, None, is_some, List, [], ◌∷◌, refl, ⊤}
use Rattle.std.proofs.Common.{sym, ◌∙◌, ap, subst, cond}
use Rattle.std.proofs.lemmas.Bool.{eqb-true, eq-eqb}
use Rattle.std.specs.Cmp.{both_ways}
use Rattle.std.specs.Ordering.{is_eq, is_lt, match_ordering}
use Rattle.std.specs.declared.cmp.Ordering.{Ordering}
use Rattle.std.specs.declared.cmp.Ordering.TheVariants.{Less, Equal, Greater}
use Rattle.std.specs.Map.{lookup, remove_entry}
use Rattle.std.specs.BTreeMap.{insert_entry, is_at}
use Rattle.gx_base.specs.declared.items.Item.{Item}
use Rattle.gx_base.specs.Worklists.{item_cmp, same_item, is_before, with_item}
use Rattle.commit_book.specs.declared.holds.Holder.{Holder}
use Rattle.commit_book.specs.BookViews.{Hold, is_hold_of, is_held, held_by, with_hold, without_iteration, without_item_held, holds_after, with_name, is_named_in}
use Rattle.commit_book.specs.LawfulBooks.{AreAfter, AreRising, AreOthers, AreHeldApart}
use Rattle.commit_book.specs.StoredBooks.{hold_at, holds_of}
use Rattle.commit_book.proofs.ready.ReadySets.{same_itself}
use Rattle.commit_book.proofs.ready.RisingItems.{same_is, same_turned, before_then, before_not_same, else_before, rising-with}

-- ---- iterations

eq_turned : (a b : ℕ) → (a == b) ≡ (b == a)
eq_turned a b = both_ways (a == b) (b == a) (λ e. eq-eqb b a (sym (eqb-true a b e))) (λ e. eq-eqb a b (sym (eqb-true b a e)))

pub hold_of_turned : (h k : Hold) → is_hold_of h.worker h.iter k ≡ is_hold_of k.worker k.iter h
hold_of_turned h k = λ i. eq_turned k.worker h.worker i && eq_turned k.iter h.iter i

and_first : (a b : Bool) → (a && b) ≡ true → a ≡ true
and_first true b e = refl
and_first false b e = e

and_second : (a b : Bool) → (a && b) ≡ true → b ≡ true
and_second true b e = e
and_second false b e = absurd (cc)

-- a hold of the iteration of another hold
is_hold_of-same : (worker iter : ℕ) (h k : Hold) → is_hold_of worker iter h ≡ true → is_hold_of h.worker h.iter k ≡ is_hold_of worker iter k
is_hold_of-same worker iter h k e =
    λ i. (k.worker == eqb-true h.worker worker (and_first (h.worker == worker) (h.iter == iter) e) i) && (k.iter == eqb-true h.iter iter (and_second (h.worker == worker) (h.iter == iter) e) i)

-- ---- an item that is held

found_by : (here : Bool) (holder : Holder) (later : Option Holder) → is_some (cond here (Some holder) later) ≡ (here || is_some later)
found_by true holder later = refl
found_by false holder later = refl

-- std looks an item up in the same way
pub is_held-lookup : (es : List (Item × Holder)) (item : Item) → is_some (lookup (is_at (item_cmp item)) es) ≡ is_held (holds_of es) item
is_held-lookup [] item = refl
is_held-lookup (e ∷ es) item =
    found_by (is_at (item_cmp item) e.0) e.1 (lookup (is_at (item_cmp item)) es)
    ∙ (λ i. same_turned item e.0 i || is_held-lookup es item i)

-- ---- the items that are held

abbrev pub items_held : List Hold → List Item
items_held [] = []
items_held (h ∷ hs) = h.item ∷ items_held hs

others_after : (h : Hold) (ks : List Hold) → AreOthers h ks → AreAfter h.item (items_held ks)
others_after h [] a = tt
others_after h (k ∷ ks) a = (a.0, others_after h ks a.2)

pub apart_rising : (hs : List Hold) → AreHeldApart hs → AreRising (items_held hs)
apart_rising [] a = tt
apart_rising (h ∷ hs) a = (others_after h hs a.0, apart_rising hs a.1)

neither : (a b : Bool) → (a || b) ≡ false → (a ≡ false) × (b ≡ false)
neither true b e = absurd (cc)
neither false b e = (refl, e)

items_by : (h k : Hold) (ks : List Hold) (before : Bool) → items_held (with_hold ks h) ≡ with_item (items_held ks) h.item
    → items_held (if before then h ∷ k ∷ ks else k ∷ with_hold ks h) ≡ (if before then h.item ∷ k.item ∷ items_held ks else k.item ∷ with_item (items_held ks) h.item)
items_by h k ks true rest = refl
items_by h k ks false rest = ap (λ l. k.item ∷ l) rest

items-with_hold : (hs : List Hold) (h : Hold) → is_held hs h.item ≡ false → items_held (with_hold hs h) ≡ with_item (items_held hs) h.item
unfolding with_item
items-with_hold [] h n = refl
items-with_hold (k ∷ ks) h n =
    let p = neither (same_item k.item h.item) (is_held ks h.item) n in
    items_by h k ks (is_before h.item k.item) (items-with_hold ks h p.1)
    ∙ sym (ap (λ b. if b then k.item ∷ items_held ks else (if is_before h.item k.item then h.item ∷ k.item ∷ items_held ks else k.item ∷ with_item (items_held ks) h.item)) p.0)

-- ---- an item that is held no more

others_not_item : (item : Item) (ks : List Hold) → AreAfter item (items_held ks) → without_item_held ks item ≡ ks
others_not_item item [] a = refl
others_not_item item (k ∷ ks) a =
    ap (λ b. if b then without_item_held ks item else k ∷ without_item_held ks item) (before_not_same item k.item a.0) ∙ ap (λ l. k ∷ l) (others_not_item item ks a.1)

removed_by : (e : Item × Holder) (es : List (Item × Holder)) (item : Item) (here : Bool) → is_at (item_cmp item) e.0 ≡ here → AreAfter e.0 (items_held (holds_of es)) → holds_of (remove_entry (is_at (item_cmp item)) es) ≡ without_item_held (holds_of es) item
    → holds_of (cond here es (e ∷ remove_entry (is_at (item_cmp item)) es)) ≡ (if here then without_item_held (holds_of es) item else hold_at e ∷ without_item_held (holds_of es) item)
removed_by e es item true h a rest =
    let is : e.0 ≡ item = sym (same_is item e.0 h) in
    sym (others_not_item e.0 (holds_of es) a) ∙ ap (without_item_held (holds_of es)) is
removed_by e es item false h a rest = ap (λ l. hold_at e ∷ l) rest

-- std takes an item out in the same way
pub held-remove_entry : (es : List (Item × Holder)) (item : Item) → AreRising (items_held (holds_of es)) → holds_of (remove_entry (is_at (item_cmp item)) es) ≡ without_item_held (holds_of es) item
held-remove_entry [] item a = refl
held-remove_entry (e ∷ es) item a =
    removed_by e es item (is_at (item_cmp item) e.0) refl a.0 (held-remove_entry es item a.1)
    ∙ ap (λ b. if b then without_item_held (holds_of es) item else hold_at e ∷ without_item_held (holds_of es) item) (same_turned item e.0)

-- ---- an iteration that holds an item no more

-- what is so of each hold of a list
others_not_of : (worker iter : ℕ) (h : Hold) (ks : List Hold) → is_hold_of worker iter h ≡ true → AreOthers h ks → without_iteration ks worker iter ≡ ks
others_not_of worker iter h [] e a = refl
others_not_of worker iter h (k ∷ ks) e a =
    ap (λ b. if b then without_iteration ks worker iter else k ∷ without_iteration ks worker iter) (sym (is_hold_of-same worker iter h k e) ∙ a.1)
    ∙ ap (λ l. k ∷ l) (others_not_of worker iter h ks e a.2)

others_held_by : (h k : Hold) (ks : List Hold) (item : Item) (here : Bool) → same_item k.item item ≡ here → is_before h.item k.item ≡ true → (here || is_held ks item) ≡ true → (is_held ks item ≡ true → same_item h.item item ≡ false) → same_item h.item item ≡ false
others_held_by h k ks item true s b e rest = same_turned h.item item ∙ ap (λ x. same_item x h.item) (sym (same_is k.item item s)) ∙ before_not_same h.item k.item b
others_held_by h k ks item false s b e rest = rest e

-- a later hold is of another item
others_held : (h : Hold) (ks : List Hold) (item : Item) → AreOthers h ks → is_held ks item ≡ true → same_item h.item item ≡ false
others_held h [] item a e = absurd (cc)
others_held h (k ∷ ks) item a e = others_held_by h k ks item (same_item k.item item) refl a.0 e (λ f. others_held h ks item a.2 f)

or_true : (a : Bool) → (a || true) ≡ true
or_true true = refl
or_true false = refl

held_then_by : (worker iter : ℕ) (h : Hold) (hs : List Hold) (item : Item) (mine : Bool) → (if mine then Some h.item else held_by hs worker iter) ≡ Some item → (held_by hs worker iter ≡ Some item → is_held hs item ≡ true) → is_held (h ∷ hs) item ≡ true
held_then_by worker iter h hs item true e rest = let is : h.item ≡ item = cc in ap (λ b. b || is_held hs item) (ap (λ x. same_item x item) is ∙ same_itself item)
held_then_by worker iter h hs item false e rest = ap (λ b. same_item h.item item || b) (rest e) ∙ or_true (same_item h.item item)

-- what an iteration holds is held
pub held_by-held : (hs : List Hold) (worker iter : ℕ) (item : Item) → held_by hs worker iter ≡ Some item → is_held hs item ≡ true
held_by-held [] worker iter item e = absurd (cc)
held_by-held (h ∷ hs) worker iter item e = held_then_by worker iter h hs item (is_hold_of worker iter h) e (held_by-held hs worker iter item)

ended_by : (worker iter : ℕ) (h : Hold) (hs : List Hold) (item : Item) (mine here : Bool) → is_hold_of worker iter h ≡ mine → same_item h.item item ≡ here → AreHeldApart (h ∷ hs)
    → (if mine then Some h.item else held_by hs worker iter) ≡ Some item → (held_by hs worker iter ≡ Some item → without_iteration hs worker iter ≡ without_item_held hs item)
    → (if mine then without_iteration hs worker iter else h ∷ without_iteration hs worker iter) ≡ (if here then without_item_held hs item else h ∷ without_item_held hs item)
ended_by worker iter h hs item true true m s a e rest =
    others_not_of worker iter h hs m a.0 ∙ sym (others_not_item h.item hs (others_after h hs a.0)) ∙ ap (without_item_held hs) (same_is h.item item s)
ended_by worker iter h hs item true false m s a e rest =
    absurd (let is : h.item ≡ item = cc in let t : true ≡ false = sym (same_itself item) ∙ ap (λ x. same_item x item) (sym is) ∙ s in cc)
ended_by worker iter h hs item false true m s a e rest =
    absurd (let t : true ≡ false = sym s ∙ others_held h hs item a.0 (held_by-held hs worker iter item e) in cc)
ended_by worker iter h hs item false false m s a e rest = ap (λ l. h ∷ l) (rest e)

-- an iteration's hold ends where that of its item does
pub ended-item : (hs : List Hold) (worker iter : ℕ) (item : Item) → AreHeldApart hs → held_by hs worker iter ≡ Some item → without_iteration hs worker iter ≡ without_item_held hs item
ended-item [] worker iter item a e = refl
ended-item (h ∷ hs) worker iter item a e = ended_by worker iter h hs item (is_hold_of worker iter h) (same_item h.item item) refl refl a e (ended-item hs worker iter item a.1)

none_by : (worker iter : ℕ) (h : Hold) (hs : List Hold) (mine : Bool) → (if mine then Some h.item else held_by hs worker iter) ≡ None → (held_by hs worker iter ≡ None → without_iteration hs worker iter ≡ hs)
    → (if mine then without_iteration hs worker iter else h ∷ without_iteration hs worker iter) ≡ h ∷ hs
none_by worker iter h hs true e rest = absurd (cc)
none_by worker iter h hs false e rest = ap (λ l. h ∷ l) (rest e)

pub none-ended : (hs : List Hold) (worker iter : ℕ) → held_by hs worker iter ≡ None → without_iteration hs worker iter ≡ hs
none-ended [] worker iter e = refl
none-ended (h ∷ hs) worker iter e = none_by worker iter h hs (is_hold_of worker iter h) e (none-ended hs worker iter)

-- ---- an iteration that gets an item

inserted_by : (e : Item × Holder) (es ins : List (Item × Holder)) (item : Item) (holder : Holder) (r : Ordering) → item_cmp item e.0 ≡ r → same_item e.0 item ≡ false → holds_of ins ≡ with_hold (holds_of es) (hold_at (item, holder))
    → holds_of (match_ordering r ((item, holder) ∷ e ∷ es) ((e.0, holder) ∷ es) (e ∷ ins)) ≡ (if is_lt r then hold_at (item, holder) ∷ hold_at e ∷ holds_of es else hold_at e ∷ with_hold (holds_of es) (hold_at (item, holder)))
inserted_by e es ins item holder Less c n rest = refl
inserted_by e es ins item holder Equal c n rest = absurd (let t : true ≡ false = ap is_eq (sym c) ∙ same_turned item e.0 ∙ n in cc)
inserted_by e es ins item holder Greater c n rest = ap (λ l. hold_at e ∷ l) rest

-- std puts a hold at the same place
pub with_hold-insert_entry : (es : List (Item × Holder)) (item : Item) (holder : Holder) → is_held (holds_of es) item ≡ false → holds_of (insert_entry item_cmp es item holder) ≡ with_hold (holds_of es) (hold_at (item, holder))
with_hold-insert_entry [] item holder n = refl
with_hold-insert_entry (e ∷ es) item holder n =
    let p = neither (same_item e.0 item) (is_held (holds_of es) item) n in
    inserted_by e es (insert_entry item_cmp es item holder) item holder (item_cmp item e.0) refl p.0 (with_hold-insert_entry es item holder p.1)

front_by : (h k : Hold) (ks : List Hold) → is_before h.item k.item ≡ true → with_hold (k ∷ ks) h ≡ h ∷ k ∷ ks
front_by h k ks e = ap (λ b. if b then h ∷ k ∷ ks else k ∷ with_hold ks h) e

front_of_by : (h m : Hold) (ms : List Hold) (here : Bool) → is_before h.item m.item ≡ true → with_hold ms h ≡ h ∷ ms → with_hold (if here then ms else m ∷ ms) h ≡ h ∷ (if here then ms else m ∷ ms)
front_of_by h m ms true e rest = rest
front_of_by h m ms false e rest = front_by h m ms e

-- a hold before another goes in front of those that come after that one
front_of_others : (h k : Hold) (ks : List Hold) (item : Item) → is_before h.item k.item ≡ true → AreOthers k ks → with_hold (without_item_held ks item) h ≡ h ∷ without_item_held ks item
front_of_others h k [] item e a = refl
front_of_others h k (m ∷ ms) item e a =
    front_of_by h m (without_item_held ms item) (same_item m.item item) (before_then h.item k.item m.item e a.0) (front_of_others h k ms item e a.2)

swapped_by : (h k : Hold) (ks : List Hold) (item : Item) (before here : Bool) → is_before h.item k.item ≡ before → same_item k.item item ≡ here → same_item h.item item ≡ false → AreHeldApart (k ∷ ks)
    → without_item_held (with_hold ks h) item ≡ with_hold (without_item_held ks item) h
    → without_item_held (if before then h ∷ k ∷ ks else k ∷ with_hold ks h) item ≡ with_hold (if here then without_item_held ks item else k ∷ without_item_held ks item) h
swapped_by h k ks item true true b s n a rest =
    ap (λ c. if c then without_item_held (k ∷ ks) item else h ∷ without_item_held (k ∷ ks) item) n
    ∙ ap (λ c. h ∷ (if c then without_item_held ks item else k ∷ without_item_held ks item)) s
    ∙ sym (front_of_others h k ks item b a.0)
swapped_by h k ks item true false b s n a rest =
    ap (λ c. if c then without_item_held (k ∷ ks) item else h ∷ without_item_held (k ∷ ks) item) n
    ∙ ap (λ c. h ∷ (if c then without_item_held ks item else k ∷ without_item_held ks item)) s
    ∙ sym (front_by h k (without_item_held ks item) b)
swapped_by h k ks item false true b s n a rest = ap (λ c. if c then without_item_held (with_hold ks h) item else k ∷ without_item_held (with_hold ks h) item) s ∙ rest
swapped_by h k ks item false false b s n a rest =
    ap (λ c. if c then without_item_held (with_hold ks h) item else k ∷ without_item_held (with_hold ks h) item) s
    ∙ ap (λ l. k ∷ l) rest
    ∙ sym (ap (λ c. if c then h ∷ k ∷ without_item_held ks item else k ∷ with_hold (without_item_held ks item) h) b)

-- a hold may begin before that of another item ends
pub swapped-hold : (hs : List Hold) (h : Hold) (item : Item) → AreHeldApart hs → same_item h.item item ≡ false → without_item_held (with_hold hs h) item ≡ with_hold (without_item_held hs item) h
swapped-hold [] h item a n = ap (λ c. if c then [] else h ∷ []) n
swapped-hold (k ∷ ks) h item a n = swapped_by h k ks item (is_before h.item k.item) (same_item k.item item) refl refl n a (swapped-hold ks h item a.1 n)

-- ---- holds stay apart

others-without_item_by : (h k : Hold) (ws : List Hold) (here : Bool) → is_before h.item k.item ≡ true → is_hold_of h.worker h.iter k ≡ false → AreOthers h ws → AreOthers h (if here then ws else k ∷ ws)
others-without_item_by h k ws true b m a = a
others-without_item_by h k ws false b m a = (b, m, a)

others-without_item : (h : Hold) (ks : List Hold) (item : Item) → AreOthers h ks → AreOthers h (without_item_held ks item)
others-without_item h [] item a = tt
others-without_item h (k ∷ ks) item a = others-without_item_by h k (without_item_held ks item) (same_item k.item item) a.0 a.1 (others-without_item h ks item a.2)

apart_by : (k : Hold) (ws : List Hold) (here : Bool) → AreOthers k ws → AreHeldApart ws → AreHeldApart (if here then ws else k ∷ ws)
apart_by k ws true o a = a
apart_by k ws false o a = (o, a)

pub apart-without_item : (hs : List Hold) (item : Item) → AreHeldApart hs → AreHeldApart (without_item_held hs item)
apart-without_item [] item a = tt
apart-without_item (k ∷ ks) item a = apart_by k (without_item_held ks item) (same_item k.item item) (others-without_item k ks item a.0) (apart-without_item ks item a.1)

others-without_iteration : (h : Hold) (ks : List Hold) (worker iter : ℕ) → AreOthers h ks → AreOthers h (without_iteration ks worker iter)
others-without_iteration h [] worker iter a = tt
others-without_iteration h (k ∷ ks) worker iter a = others-without_item_by h k (without_iteration ks worker iter) (is_hold_of worker iter k) a.0 a.1 (others-without_iteration h ks worker iter a.2)

pub apart-without_iteration : (hs : List Hold) (worker iter : ℕ) → AreHeldApart hs → AreHeldApart (without_iteration hs worker iter)
apart-without_iteration [] worker iter a = tt
apart-without_iteration (k ∷ ks) worker iter a = apart_by k (without_iteration ks worker iter) (is_hold_of worker iter k) (others-without_iteration k ks worker iter a.0) (apart-without_iteration ks worker iter a.1)

-- no hold of the list is the iteration's
abbrev pub AreNotOf : ℕ → ℕ → List Hold → Type 0
AreNotOf worker iter [] = ⊤
AreNotOf worker iter (k ∷ ks) = (is_hold_of worker iter k ≡ false) × AreNotOf worker iter ks

not_of_by : (worker iter : ℕ) (k : Hold) (ws : List Hold) (mine : Bool) → is_hold_of worker iter k ≡ mine → AreNotOf worker iter ws → AreNotOf worker iter (if mine then ws else k ∷ ws)
not_of_by worker iter k ws true m a = a
not_of_by worker iter k ws false m a = (m, a)

none_left : (hs : List Hold) (worker iter : ℕ) → AreNotOf worker iter (without_iteration hs worker iter)
none_left [] worker iter = tt
none_left (k ∷ ks) worker iter = not_of_by worker iter k (without_iteration ks worker iter) (is_hold_of worker iter k) refl (none_left ks worker iter)

others_than : (h k : Hold) (ks : List Hold) → is_before h.item k.item ≡ true → AreOthers k ks → AreNotOf h.worker h.iter ks → AreOthers h ks
others_than h k [] e a n = tt
others_than h k (m ∷ ms) e a n = (before_then h.item k.item m.item e a.0, n.0, others_than h k ms e a.2 n.1)

others-with_by : (g h k : Hold) (ks ws : List Hold) (before : Bool) → is_before g.item h.item ≡ true → is_hold_of g.worker g.iter h ≡ false → AreOthers g (k ∷ ks) → AreOthers g ws → AreOthers g (if before then h ∷ k ∷ ks else k ∷ ws)
others-with_by g h k ks ws true e m a rest = (e, m, a)
others-with_by g h k ks ws false e m a rest = (a.0, a.1, rest)

others-with : (g h : Hold) (ks : List Hold) → is_before g.item h.item ≡ true → is_hold_of g.worker g.iter h ≡ false → AreOthers g ks → AreOthers g (with_hold ks h)
others-with g h [] e m a = (e, m, tt)
others-with g h (k ∷ ks) e m a = others-with_by g h k ks (with_hold ks h) (is_before h.item k.item) e m a (others-with g h ks e m a.2)

apart-with_by : (h k : Hold) (ks : List Hold) (before : Bool) → is_before h.item k.item ≡ before → same_item k.item h.item ≡ false → AreNotOf h.worker h.iter (k ∷ ks) → AreHeldApart (k ∷ ks) → AreHeldApart (with_hold ks h) → AreHeldApart (if before then h ∷ k ∷ ks else k ∷ with_hold ks h)
apart-with_by h k ks true e s n a rest = ((e, n.0, others_than h k ks e a.0 n.1), a)
apart-with_by h k ks false e s n a rest = (others-with k h ks (else_before h.item k.item s e) (sym (hold_of_turned h k) ∙ n.0) a.0, rest)

apart-with : (hs : List Hold) (h : Hold) → is_held hs h.item ≡ false → AreNotOf h.worker h.iter hs → AreHeldApart hs → AreHeldApart (with_hold hs h)
apart-with [] h s n a = (tt, tt)
apart-with (k ∷ ks) h s n a =
    let p = neither (same_item k.item h.item) (is_held ks h.item) s in
    apart-with_by h k ks (is_before h.item k.item) refl p.0 n a (apart-with ks h p.1 n.1 a.1)

unheld_by : (k : Hold) (ks ws : List Hold) (item : Item) (mine : Bool) → is_held (k ∷ ks) item ≡ false → (is_held ks item ≡ false → is_held ws item ≡ false) → is_held (if mine then ws else k ∷ ws) item ≡ false
unheld_by k ks ws item true e rest = rest (neither (same_item k.item item) (is_held ks item) e).1
unheld_by k ks ws item false e rest =
    let p = neither (same_item k.item item) (is_held ks item) e in
    ap (λ b. b || is_held ws item) p.0 ∙ rest p.1

unheld_still : (hs : List Hold) (worker iter : ℕ) (item : Item) → is_held hs item ≡ false → is_held (without_iteration hs worker iter) item ≡ false
unheld_still [] worker iter item e = refl
unheld_still (k ∷ ks) worker iter item e = unheld_by k ks (without_iteration ks worker iter) item (is_hold_of worker iter k) e (unheld_still ks worker iter item)

-- an iteration that gets an item which none holds, in place of its own
pub apart-given : (hs : List Hold) (h : Hold) → is_held hs h.item ≡ false → AreHeldApart hs → AreHeldApart (with_hold (without_iteration hs h.worker h.iter) h)
apart-given hs h e a =
    apart-with (without_iteration hs h.worker h.iter) h (unheld_still hs h.worker h.iter h.item e) (none_left hs h.worker h.iter) (apart-without_iteration hs h.worker h.iter a)

-- the same as std's ordered map does it: for an iteration that held nothing
pub given-first : (es ins : List (Item × Holder)) (hs : List Hold) (item : Item) (holder : Holder) → holds_of es ≡ hs → ins ≡ insert_entry item_cmp es item holder → is_held hs item ≡ false → held_by hs holder.worker holder.iter ≡ None
    → holds_of ins ≡ with_hold (without_iteration hs holder.worker holder.iter) (hold_at (item, holder))
given-first es ins hs item holder v e n h =
    ap holds_of e ∙ with_hold-insert_entry es item holder (ap (λ l. is_held l item) v ∙ n) ∙ ap (λ l. with_hold l (hold_at (item, holder))) v
    ∙ ap (λ l. with_hold l (hold_at (item, holder))) (sym (none-ended hs holder.worker holder.iter h))

not_same_by : (hs : List Hold) (item held : Item) (same : Bool) → same_item item held ≡ same → is_held hs item ≡ false → is_held hs held ≡ true → same ≡ false
not_same_by hs item held true e n h = absurd (let t : true ≡ false = sym h ∙ ap (is_held hs) (sym (same_is item held e)) ∙ n in cc)
not_same_by hs item held false e n h = refl

-- and for one that held an item, which ends after the new hold has begun
pub given-in_place : (es ins outs : List (Item × Holder)) (hs : List Hold) (item held : Item) (holder : Holder) → holds_of es ≡ hs → ins ≡ insert_entry item_cmp es item holder → outs ≡ remove_entry (is_at (item_cmp held)) ins
    → AreHeldApart (holds_of es) → is_held hs item ≡ false → held_by hs holder.worker holder.iter ≡ Some held
    → holds_of outs ≡ with_hold (without_iteration hs holder.worker holder.iter) (hold_at (item, holder))
given-in_place es ins outs hs item held holder v e f a n h =
    let unheld : is_held (holds_of es) item ≡ false = ap (λ l. is_held l item) v ∙ n in
    let begun : holds_of ins ≡ with_hold (holds_of es) (hold_at (item, holder)) = ap holds_of e ∙ with_hold-insert_entry es item holder unheld in
    let rising : AreRising (items_held (holds_of ins)) =
    subst AreRising (sym (ap items_held begun ∙ items-with_hold (holds_of es) (hold_at (item, holder)) unheld)) (rising-with (items_held (holds_of es)) item (apart_rising (holds_of es) a)) in
    let other : same_item item held ≡ false = not_same_by hs item held (same_item item held) refl n (held_by-held hs holder.worker holder.iter held h) in
    ap holds_of f ∙ held-remove_entry ins held rising
    ∙ ap (λ l. without_item_held l held) begun
    ∙ swapped-hold (holds_of es) (hold_at (item, holder)) held a other
    ∙ ap (λ l. with_hold l (hold_at (item, holder))) (sym (ended-item (holds_of es) holder.worker holder.iter held a (ap (λ l. held_by l holder.worker holder.iter) v ∙ h)))
    ∙ ap (λ l. with_hold (without_iteration l holder.worker holder.iter) (hold_at (item, holder))) v

-- ---- names

named_by : (g : Hold) (k : Hold) (ks : List Hold) (named : Bool) → is_before g.item k.item ≡ true → is_hold_of g.worker g.iter k ≡ false → AreOthers g ks → AreOthers g ((if named then record k { named = true } else k) ∷ ks)
named_by g k ks true b m a = (b, m, a)
named_by g k ks false b m a = (b, m, a)

others-with_name : (g : Hold) (ks : List Hold) (worker iter : ℕ) (item : Item) → AreOthers g ks → AreOthers g (with_name ks worker iter item)
others-with_name g [] worker iter item a = tt
others-with_name g (k ∷ ks) worker iter item a =
    named_by g k (with_name ks worker iter item) (is_hold_of worker iter k && is_before item k.item) a.0 a.1 (others-with_name g ks worker iter item a.2)

others_as : (k : Hold) (ks : List Hold) → AreOthers k ks → AreOthers (record k { named = true }) ks
others_as k [] a = tt
others_as k (m ∷ ms) a = (a.0, a.1, others_as k ms a.2)

renamed_by : (k : Hold) (ks : List Hold) (named : Bool) → AreOthers k ks → AreHeldApart ks → AreHeldApart ((if named then record k { named = true } else k) ∷ ks)
renamed_by k ks true o a = (others_as k ks o, a)
renamed_by k ks false o a = (o, a)

pub apart-with_name : (hs : List Hold) (worker iter : ℕ) (item : Item) → AreHeldApart hs → AreHeldApart (with_name hs worker iter item)
apart-with_name [] worker iter item a = tt
apart-with_name (k ∷ ks) worker iter item a =
    renamed_by k (with_name ks worker iter item) (is_hold_of worker iter k && is_before item k.item) (others-with_name k ks worker iter item a.0) (apart-with_name ks worker iter item a.1)

marked_by : (worker iter : ℕ) (h : Hold) (mine after : Bool) → is_hold_of worker iter h ≡ mine
    → (is_hold_of worker iter (if mine && after then record h { named = true } else h) && (if mine && after then record h { named = true } else h).named) ≡ ((mine && after) || (mine && h.named))
marked_by worker iter h true true e = ap (λ b. b && true) e
marked_by worker iter h true false e = ap (λ b. b && h.named) e
marked_by worker iter h false after e = ap (λ b. b && h.named) e

either_paired : (a b c d : Bool) → ((a || b) || (c || d)) ≡ ((a || c) || (b || d))
either_paired true b c d = refl
either_paired false true true d = refl
either_paired false true false d = refl
either_paired false false c d = refl

-- an iteration is named where it could be, or was so
pub named-with_name : (hs : List Hold) (worker iter : ℕ) (item : Item) → is_named_in (with_name hs worker iter item) worker iter ≡ (holds_after hs worker iter item || is_named_in hs worker iter)
named-with_name [] worker iter item = refl
named-with_name (h ∷ hs) worker iter item =
    (λ i. marked_by worker iter h (is_hold_of worker iter h) (is_before item h.item) refl i || named-with_name hs worker iter item i)
    ∙ either_paired (is_hold_of worker iter h && is_before item h.item) (is_hold_of worker iter h && h.named) (holds_after hs worker iter item) (is_named_in hs worker iter)

unnamed_by : (mine : Bool) → (mine && false) ≡ false
unnamed_by true = refl
unnamed_by false = refl

-- std's ordered map keeps no names
pub kept-unnamed : (es : List (Item × Holder)) (worker iter : ℕ) → is_named_in (holds_of es) worker iter ≡ false
kept-unnamed [] worker iter = refl
kept-unnamed (e ∷ es) worker iter = λ i. unnamed_by (is_hold_of worker iter (hold_at e)) i || kept-unnamed es worker iter i

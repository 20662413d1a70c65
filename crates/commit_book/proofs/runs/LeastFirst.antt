-- The least ready item is one item, so that a run which takes it at each turn has no choice.
use Rattle.std.specs.Prelude.{◌≡◌, ℕ, ◌≤◌, Bool, true, false, not, ◌&&◌, ◌||◌, if◌then◌else◌, Option, Some, None, List, [], ◌∷◌, length, take, suc, refl}
use Rattle.std.proofs.Common.{sym, ◌∙◌, ap, subst, arith}
use Rattle.std.proofs.Math.Seq.{take-length}
use Rattle.std.proofs.lemmas.List.{length-map}
use Rattle.std.specs.Ordering.{is_lt, ordering_reverse}
use Rattle.std.specs.declared.cmp.Ordering.{Ordering}
use Rattle.std.specs.declared.cmp.Ordering.TheVariants.{Less, Equal, Greater}
use Rattle.gx_base.specs.declared.items.Item.{Item}
use Rattle.gx_base.specs.States.{State}
use Rattle.gx_base.specs.Plans.{Operator}
use Rattle.gx_base.specs.Outcomes.{Outcome, WholeCommit, order_of}
use Rattle.gx_base.specs.Worklists.{item_cmp, same_item, is_before, has_item, is_least}
use Rattle.gx_base.specs.declared.acts.Commit.{Commit}
use Rattle.gx_base.specs.SerialRuns.{counted, all_counted}
use Rattle.gx_base.specs.SerialIterations.{body, Ended, may_commit, ready_after, with_first, serial, least_first}
use Rattle.commit_book.specs.SerialRuns.{IsWholeSerialRun, IsUnfinished, IsDetermined}
use Rattle.commit_book.proofs.ready.ReadySets.{item_cmp_total, is_equal, item_equal}

both : (a b : Bool) → (a && b) ≡ true → (a ≡ true) × (b ≡ true)
both true b e = (refl, e)
both false b e = absurd (cc)

is_not : (b : Bool) → not b ≡ true → b ≡ false
is_not true e = absurd (cc)
is_not false e = refl

none_before_by : (z y x : Item) (b c : Bool) → same_item z y ≡ b → (b || c) ≡ true → is_before z x ≡ false → (c ≡ true → is_before y x ≡ false) → is_before y x ≡ false
none_before_by z y x true c s h n k = ap is_lt (sym (item_cmp_total.congr z y x (is_equal (item_cmp z y) s))) ∙ n
none_before_by z y x false c s h n k = k h

none_before : (ready : List Item) (x y : Item) → has_item ready y ≡ true → is_least ready x ≡ true → is_before y x ≡ false
unfolding has_item is_least
none_before [] x y h l = absurd (cc)
none_before (z ∷ zs) x y h l =
    let p : (not (is_before z x) ≡ true) × (is_least zs x ≡ true) = both (not (is_before z x)) (is_least zs x) l in
    none_before_by z y x (same_item z y) (has_item zs y) refl h (is_not (is_before z x) p.0) (λ k. none_before zs x y k p.1)

tied : (r s : Ordering) → r ≡ ordering_reverse s → is_lt r ≡ false → is_lt s ≡ false → r ≡ Equal
tied Less s e h k = absurd (cc)
tied Equal s e h k = refl
tied Greater Less e h k = absurd (cc)
tied Greater Equal e h k = absurd (cc)
tied Greater Greater e h k = absurd (cc)

-- two items that are ready and the least are one
one_least : (ready : List Item) (x y : Item) → may_commit true ready x ≡ true → may_commit true ready y ≡ true → x ≡ y
one_least ready x y m n =
    let p : (has_item ready x ≡ true) × (is_least ready x ≡ true) = both (has_item ready x) (is_least ready x) m in
    let q : (has_item ready y ≡ true) × (is_least ready y ≡ true) = both (has_item ready y) (is_least ready y) n in
    item_equal x y (tied (item_cmp x y) (item_cmp y x) (item_cmp_total.antisymm x y) (none_before ready y x p.0 q.1) (none_before ready x y q.0 p.1))

-- the rest of a run after its first item
record IsFirst (op : Operator) (states : ℕ → State) (ready : List Item) (item : Item) (order : List Item) (ended : Ended) : Type 0 where
  may : may_commit op.ordered ready item ≡ true
  rest : Ended
  runs : serial op (body (op.plan item) states).states (ready_after ready item (body (op.plan item) states).outcome) order ≡ Some rest
  ready_same : rest.ready ≡ ended.ready

with_by : (o : Outcome) (t : Option Ended) (ended : Ended) → with_first o t ≡ Some ended → (rest : Ended) × (t ≡ Some rest) × (rest.ready ≡ ended.ready)
with_by o None ended e = absurd (cc)
with_by o (Some rest) ended e = let same : record rest { outcomes = o ∷ rest.outcomes } ≡ ended = cc in (rest, refl, ap (λ (x : Ended). x.ready) same)

if_by : (b : Bool) (t : Option Ended) (ended : Ended) → (if b then t else None) ≡ Some ended → (b ≡ true) × (t ≡ Some ended)
if_by true t ended e = (refl, e)
if_by false t ended e = absurd (cc)

first_of : (op : Operator) (states : ℕ → State) (ready : List Item) (item : Item) (order : List Item) (ended : Ended) → serial op states ready (item ∷ order) ≡ Some ended → IsFirst op states ready item order ended
unfolding serial
first_of op states ready item order ended e =
    let p = if_by (may_commit op.ordered ready item) _ ended e in
    let q = with_by _ _ ended p.1 in
    record { may = p.0; rest = q.0; runs = q.1; ready_same = q.2 }

same_start : (op : Operator) (states : ℕ → State) (ready : List Item) (x y : Item) (order : List Item) (ended : Ended) → x ≡ y
    → serial op (body (op.plan y) states).states (ready_after ready y (body (op.plan y) states).outcome) order ≡ Some ended
    → serial op (body (op.plan x) states).states (ready_after ready x (body (op.plan x) states).outcome) order ≡ Some ended
same_start op states ready x y order ended e h = subst (λ z. serial op (body (op.plan z) states).states (ready_after ready z (body (op.plan z) states).outcome) order ≡ Some ended) (sym e) h

same_order : (op : Operator) (states : ℕ → State) (ready xs ys : List Item) (e f : Ended) → serial (least_first op) states ready xs ≡ Some e → serial (least_first op) states ready ys ≡ Some f → length xs ≤ length ys → xs ≡ take (length xs) ys
same_order op states ready [] ys e f h k l = refl
same_order op states ready (x ∷ xs) [] e f h k l = absurd (omega arith)
same_order op states ready (x ∷ xs) (y ∷ ys) e f h k l =
    let a = first_of (least_first op) states ready x xs e h in
    let b = first_of (least_first op) states ready y ys f k in
    let same : x ≡ y = one_least ready x y a.may b.may in
    let rest : xs ≡ take (length xs) ys = same_order op (body (op.plan x) states).states (ready_after ready x (body (op.plan x) states).outcome) xs ys a.rest b.rest a.runs (same_start (least_first op) states ready x y ys b.rest same b.runs) (omega arith) in
    λ i. same i ∷ rest i

nothing_ready : (ordered : Bool) (ready : List Item) (y : Item) → ready ≡ [] → may_commit ordered ready y ≡ true → ⊥
unfolding has_item
nothing_ready ordered ready y e m = let h : has_item [] y ≡ true = subst (λ xs. has_item xs y ≡ true) e (both (has_item ready y) _ m).0 in absurd (cc)

no_longer : (op : Operator) (states : ℕ → State) (ready xs ys : List Item) (e f : Ended) → serial (least_first op) states ready xs ≡ Some e → serial (least_first op) states ready ys ≡ Some f → e.ready ≡ [] → length ys ≤ length xs
unfolding serial
no_longer op states ready xs [] e f h k n = omega arith
no_longer op states ready [] (y ∷ ys) e f h k n =
    let same : record { states = states; ready = ready; outcomes = [] } ≡ e = cc in
    let b = first_of (least_first op) states ready y ys f k in
    absurd (nothing_ready true ready y (ap (λ (x : Ended). x.ready) same ∙ n) b.may)
no_longer op states ready (x ∷ xs) (y ∷ ys) e f h k n =
    let a = first_of (least_first op) states ready x xs e h in
    let b = first_of (least_first op) states ready y ys f k in
    let same : x ≡ y = one_least ready x y a.may b.may in
    let rest : length ys ≤ length xs = no_longer op (body (op.plan x) states).states (ready_after ready x (body (op.plan x) states).outcome) xs ys a.rest b.rest a.runs (same_start (least_first op) states ready x y ys b.rest same b.runs) (a.ready_same ∙ n) in
    omega arith

abbrev ready_of : Option Ended → List Item
ready_of None = []
ready_of (Some ended) = ended.ready

length-order_of : (commits : List WholeCommit) → length (order_of commits) ≡ length commits
length-order_of [] = refl
length-order_of (c ∷ cs) = ap suc (length-order_of cs)

-- as many items commit as are told
as_many : (told : List Commit) (commits : List WholeCommit) → told ≡ all_counted commits → length (order_of commits) ≡ length told
as_many told commits e = length-order_of commits ∙ sym (length-map commits counted) ∙ ap length (sym e)

never_unfinished : (op : Operator) (states after other : ℕ → State) (ready : List Item) (told : List Commit) → IsWholeSerialRun op states ready told after → IsUnfinished op states ready other → ⊥
never_unfinished op states after other ready told w s =
    let end : Ended = record { states = after; ready = []; outcomes = w.outcomes } in
    let whole : List Item = order_of w.run.commits in
    let more : List Item = order_of s.run.commits in
    let shorter : length more ≤ length whole = no_longer op states ready whole more end s.ended w.run.least s.run.least refl in
    let as_long : length whole ≡ length more = omega (arith, shorter, w.within, s.full, as_many told w.run.commits w.run.are_told, as_many s.told s.run.commits s.run.are_told) in
    let same : whole ≡ more =
    same_order op states ready whole more end s.ended w.run.least s.run.least (omega (arith, as_long))
    ∙ ap (λ n. take n more) as_long ∙ take-length more in
    let ends : Some end ≡ Some s.ended = sym w.run.least ∙ ap (serial (least_first op) states ready) same ∙ s.run.least in
    let left : s.ended.ready ≡ [] = ap ready_of (sym ends) in
    s.ready_still left

pub determined : (op : Operator) → IsDetermined op
determined op = record { order = same_order op; longest = no_longer op; not_unfinished = never_unfinished op }

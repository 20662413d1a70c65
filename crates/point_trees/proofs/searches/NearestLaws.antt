-- Keys of points are in a total order, so there is one nearest point, and it is the one that is defined.
use Rattle.std.specs.Prelude.{◌≡◌, ℕ, ℤ, Bool, true, false, not, cond, ◌&&◌, ◌==◌, if◌then◌else◌, int_lt, Option, Some, None, List, [], ◌∷◌, is_some, refl, ◌⊎◌}
use Rattle.std.proofs.Common.{sym, ◌∙◌, ap, inl, inr}
use Rattle.std.specs.declared.cmp.Ordering.{Ordering}
use Rattle.std.specs.declared.cmp.Ordering.TheVariants.{Less, Equal, Greater}
use Rattle.std.specs.Ordering.{nat_cmp, int_cmp, int_eq, ordering_then, ordering_reverse, eq_by_cmp, is_gt}
use Rattle.std.specs.Cmp.{IsTotalOrder, tied_itself, nat_cmp_total, int_cmp_total, then_total, on_total, upto}
use Rattle.std.specs.FinMap as map
use Rattle.std.specs.List.{list_any}
use Rattle.std.specs.Int.{int_min, int_max}
use Rattle.gx_base.specs.declared.calls.Spot.{Spot}
use Rattle.gx_base.specs.States.{State, row_cmp, row_at, with_row}
use Rattle.gx_base.proofs.CallerLemmas.{both_equal, same_row, same_row-is, same_row-sort, row_at-with}
use Rattle.gx_base.specs.Spots.{Key, pk, key_cmp, beyond, distance}
use Rattle.gx_base.specs.PointKind.{spot_of, spot_at, nearer, other_at, nearest_of, nearest}
use Rattle.point_trees.specs.NearestPoints.{IsOther, IsNearest}
use Rattle.point_trees.proofs.states.Basics.{some_is, some_none, and_parts, or_parts, not_true}

-- keys are in a total order
pub key_cmp_total : IsTotalOrder key_cmp
key_cmp_total = then_total (on_total (λ (k : Key). k.0) nat_cmp_total) (then_total (on_total (λ (k : Key). k.1) int_cmp_total) (on_total (λ (k : Key). k.2) int_cmp_total))

same_other : (b c : Bool) (x y z : ℤ) → cond b y x ≡ cond c z x → cond b x y ≡ cond c x z → y ≡ z
same_other true true x y z e f = e
same_other true false x y z e f = e ∙ f
same_other false true x y z e f = f ∙ e
same_other false false x y z e f = f

-- for one spot, different ids give different keys
pub pk-apart : (p q r : Spot) → key_cmp (pk p q) (pk p r) ≡ Equal → q.id ≡ r.id
unfolding pk
pk-apart p q r e =
    let rest : ordering_then (int_cmp (int_min p.id q.id) (int_min p.id r.id)) (int_cmp (int_max p.id q.id) (int_max p.id r.id)) ≡ Equal = (both_equal (nat_cmp (distance p q) (distance p r)) _ e).1 in
    let ids : (int_cmp (int_min p.id q.id) (int_min p.id r.id) ≡ Equal) × (int_cmp (int_max p.id q.id) (int_max p.id r.id) ≡ Equal) = both_equal _ _ rest in
    same_other (int_lt q.id p.id) (int_lt r.id p.id) p.id q.id r.id (map.int_cmp-IsAntisymmetric _ _ ids.0) (map.int_cmp-IsAntisymmetric _ _ ids.1)

-- so `beyond` is a strict order on ids
pub beyond-upto : (q n m r : Spot) → beyond q n m ≡ false → beyond q m r ≡ false → beyond q n r ≡ false
beyond-upto q n m r e f = upto key_cmp_total (pk q n) (pk q m) (pk q r) e f

reversed : (a b : Ordering) → a ≡ ordering_reverse b → is_gt a ≡ true → is_gt b ≡ false
reversed a Less e t = refl
reversed a Equal e t = refl
reversed a Greater e t = absurd (let f : is_gt a ≡ false = ap is_gt e in cc)

pub beyond-back : (q n m : Spot) → beyond q n m ≡ true → beyond q m n ≡ false
beyond-back q n m t = reversed (key_cmp (pk q n) (pk q m)) (key_cmp (pk q m) (pk q n)) (key_cmp_total.antisymm (pk q n) (pk q m)) t

neither : (a b : Ordering) → a ≡ ordering_reverse b → is_gt a ≡ false → is_gt b ≡ false → a ≡ Equal
neither Less Less e s t = absurd (let f : is_gt Less ≡ is_gt Greater = ap is_gt e in cc)
neither Less Equal e s t = e
neither Less Greater e s t = absurd (cc)
neither Equal b e s t = refl
neither Greater b e s t = absurd (cc)

pub beyond-same : (q n m : Spot) → beyond q n m ≡ false → beyond q m n ≡ false → n.id ≡ m.id
beyond-same q n m s t = pk-apart q n m (neither _ _ (key_cmp_total.antisymm (pk q n) (pk q m)) s t)

-- there is one nearest point
pub IsNearest-unique : (s : State) (q : Spot) (o p : Option Spot) → IsNearest s q o → IsNearest s q p → o ≡ p
IsNearest-unique s q None None h k = refl
IsNearest-unique s q None (Some m) h k = absurd (h m k.0)
IsNearest-unique s q (Some n) None h k = absurd (k n h.0)
IsNearest-unique s q (Some n) (Some m) h k =
    let ids : n.id ≡ m.id = beyond-same q n m (h.1 m k.0) (k.1 n h.0) in
    sym h.0.there ∙ ap (spot_at s) ids ∙ k.0.there

-- the same among these keys
abbrev pub IsAmong : List (ℕ × ℤ) → Spot → Type 0
IsAmong keys r = list_any (eq_by_cmp row_cmp (0, r.id)) keys ≡ true

-- among the points of these keys, none is nearer to the spot
abbrev pub IsNearestOf : State → Spot → List (ℕ × ℤ) → Option Spot → Type 0
IsNearestOf s q keys None = (r : Spot) → IsOther s q r → IsAmong keys r → ⊥
IsNearestOf s q keys (Some n) = IsOther s q n × ((r : Spot) → IsOther s q r → IsAmong keys r → beyond q n r ≡ false)

spot_of-id : (id : ℤ) (row : Option (List ℤ)) (r : Spot) → spot_of id row ≡ Some r → r.id ≡ id
spot_of-id id None r e = absurd (some_none r e)
spot_of-id id (Some []) r e = absurd (some_none r e)
spot_of-id id (Some (x ∷ [])) r e = absurd (some_none r e)
spot_of-id id (Some (x ∷ y ∷ [])) r e = absurd (some_none r e)
spot_of-id id (Some (x ∷ y ∷ z ∷ [])) r e = sym (ap (λ (t : Spot). t.id) (some_is (record { id = id; x = x; y = y; z = z }) r e))
spot_of-id id (Some (x ∷ y ∷ z ∷ w ∷ ws)) r e = absurd (some_none r e)

spot_of-some : (id : ℤ) (row : Option (List ℤ)) (r : Spot) → spot_of id row ≡ Some r → is_some row ≡ true
spot_of-some id None r e = absurd (some_none r e)
spot_of-some id (Some xs) r e = refl

if_some : (b : Bool) (o : Option Spot) (r : Spot) → (if b then o else None) ≡ Some r → (b ≡ true) × (o ≡ Some r)
if_some true o r e = (refl, e)
if_some false o r e = absurd (some_none r e)

-- what stands in a place is another point
other_at-is : (s : State) (q : Spot) (key : ℕ × ℤ) (r : Spot) → other_at s q key ≡ Some r → IsOther s q r
other_at-is s q key r e =
    let p : ((key.0 == 0 && not (int_eq key.1 q.id)) ≡ true) × (spot_at s key.1 ≡ Some r) = if_some _ _ r e in
    let n : int_eq key.1 q.id ≡ false = not_true _ (and_parts _ _ p.0).1 in
    let id : r.id ≡ key.1 = spot_of-id key.1 (row_at s (0, key.1)) r p.1 in
    record { there = ap (spot_at s) id ∙ p.1; other = ap (λ x. int_eq x q.id) id ∙ n }

-- and another point stands in its place
at-other : (s : State) (q r : Spot) → IsOther s q r → other_at s q (0, r.id) ≡ Some r
at-other s q r o = ap (λ b. if not b then spot_at s r.id else None) o.other ∙ o.there

at-other_in : (s : State) (q r : Spot) (key : ℕ × ℤ) → IsOther s q r → eq_by_cmp row_cmp (0, r.id) key ≡ true → other_at s q key ≡ Some r
at-other_in s q r key o t = ap (other_at s q) (sym (same_row-is (0, r.id) key t)) ∙ at-other s q r o

pub beyond-itself : (q n : Spot) → beyond q n n ≡ false
beyond-itself q n = ap is_gt (tied_itself key_cmp_total (pk q n))

-- one more key
with_none : (s : State) (q : Spot) (key : ℕ × ℤ) (keys : List (ℕ × ℤ)) (o : Option Spot) → other_at s q key ≡ None → IsNearestOf s q keys o → IsNearestOf s q (key ∷ keys) o
with_none s q key keys None e h = λ r i t. from_either r i (or_parts _ _ t)
  where
    from_either : (r : Spot) → IsOther s q r → (eq_by_cmp row_cmp (0, r.id) key ≡ true) ⊎ (IsAmong keys r) → ⊥
    from_either r i (inl t) = some_none r (sym e ∙ at-other_in s q r key i t)
    from_either r i (inr t) = h r i t
with_none s q key keys (Some n) e h = (h.0, λ r i t. from_either r i (or_parts _ _ t))
  where
    from_either : (r : Spot) → IsOther s q r → (eq_by_cmp row_cmp (0, r.id) key ≡ true) ⊎ (IsAmong keys r) → beyond q n r ≡ false
    from_either r i (inl t) = absurd (some_none r (sym e ∙ at-other_in s q r key i t))
    from_either r i (inr t) = h.1 r i t

-- n is as near as c, and as near as all points among the keys
as_near : (s : State) (q : Spot) (key : ℕ × ℤ) (keys : List (ℕ × ℤ)) (c n : Spot) → other_at s q key ≡ Some c → beyond q n c ≡ false → ((r : Spot) → IsOther s q r → IsAmong keys r → beyond q n r ≡ false)
    → (r : Spot) → IsOther s q r → IsAmong (key ∷ keys) r → beyond q n r ≡ false
as_near s q key keys c n e f h r i t = from_either (or_parts _ _ t)
  where
    from_either : (eq_by_cmp row_cmp (0, r.id) key ≡ true) ⊎ (IsAmong keys r) → beyond q n r ≡ false
    from_either (inl t) = ap (beyond q n) (sym (some_is c r (sym e ∙ at-other_in s q r key i t))) ∙ f
    from_either (inr t) = h r i t

with_both : (s : State) (q : Spot) (key : ℕ × ℤ) (keys : List (ℕ × ℤ)) (c n : Spot) → other_at s q key ≡ Some c → IsNearestOf s q keys (Some n) → (b : Bool) → beyond q c n ≡ b → IsNearestOf s q (key ∷ keys) (Some (if b then n else c))
with_both s q key keys c n e h true t = (h.0, as_near s q key keys c n e (beyond-back q c n t) h.1)
with_both s q key keys c n e h false t = (other_at-is s q key c e, as_near s q key keys c c e (beyond-itself q c) (λ r i u. beyond-upto q c n r t (h.1 r i u)))

with_some : (s : State) (q : Spot) (key : ℕ × ℤ) (keys : List (ℕ × ℤ)) (c : Spot) (o : Option Spot) → other_at s q key ≡ Some c → IsNearestOf s q keys o → IsNearestOf s q (key ∷ keys) (nearer q (Some c) o)
with_some s q key keys c None e h = (other_at-is s q key c e, as_near s q key keys c c e (beyond-itself q c) (λ r i u. absurd (h r i u)))
with_some s q key keys c (Some n) e h = with_both s q key keys c n e h (beyond q c n) refl

with_one : (s : State) (q : Spot) (key : ℕ × ℤ) (keys : List (ℕ × ℤ)) (c o : Option Spot) → other_at s q key ≡ c → IsNearestOf s q keys o → IsNearestOf s q (key ∷ keys) (nearer q c o)
with_one s q key keys None o e h = with_none s q key keys o e h
with_one s q key keys (Some c) o e h = with_some s q key keys c o e h

nearest_of-is : (s : State) (q : Spot) (keys : List (ℕ × ℤ)) → IsNearestOf s q keys (nearest_of s q keys)
nearest_of-is s q [] = λ r i t. absurd (cc)
nearest_of-is s q (key ∷ keys) = with_one s q key keys (other_at s q key) (nearest_of s q keys) refl (nearest_of-is s q keys)

-- each point is among the keys
among : (s : State) (q r : Spot) → IsOther s q r → IsAmong (map.keys s.rows) r
among s q r i = sym (map.contains_key-keys s.rows (0, r.id)) ∙ spot_of-some r.id (row_at s (0, r.id)) r i.there

of_all : (s : State) (q : Spot) (o : Option Spot) → IsNearestOf s q (map.keys s.rows) o → IsNearest s q o
of_all s q None h = λ r i. h r i (among s q r i)
of_all s q (Some n) h = (h.0, λ r i. h.1 r i (among s q r i))

pub nearest-is : (s : State) (q : Spot) → IsNearest s q (nearest s q)
unfolding nearest
nearest-is s q = of_all s q (nearest s q) (nearest_of-is s q (map.keys s.rows))

pub nearest-when : (s : State) (q : Spot) (o : Option Spot) → IsNearest s q o → nearest s q ≡ o
nearest-when s q o h = IsNearest-unique s q (nearest s q) o (nearest-is s q) h

-- a write of one row
spot_if : (b : Bool) (y : ℤ) (row old : Option (List ℤ)) → spot_of y (cond b row old) ≡ cond b (spot_of y row) (spot_of y old)
spot_if true y row old = refl
spot_if false y row old = refl

pub spot_at-with : (s : State) (x : ℤ) (row : Option (List ℤ)) (y : ℤ) → spot_at (with_row s (0, x) row) y ≡ cond (int_eq y x) (spot_of y row) (spot_at s y)
spot_at-with s x row y = ap (spot_of y) (row_at-with s (0, x) row (0, y)) ∙ spot_if (same_row (0, y) (0, x)) y row (row_at s (0, y)) ∙ ap (λ b. cond b (spot_of y row) (spot_at s y)) (same_row-sort 0 y x)

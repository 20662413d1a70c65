-- Lists of entries, and facts that hold of each of them.
use Rattle.std.specs.Prelude.{◌≡◌, ◌≢◌, ℕ, Bool, true, false, not, ◌&&◌, ◌||◌, ◌==◌, if◌then◌else◌, Some, None, List, [], ◌∷◌, ◌++◌, filter, slice_get, refl}
use Rattle.std.proofs.Common.{zero, suc, sym, ◌∙◌, ap, subst}
use Rattle.std.specs.Cmp.{unsigned_Decides, nat_eq_equiv}
use Rattle.gx_base.specs.declared.acts.Entry.{Entry}
use Rattle.gate_core.specs.Entries.{same_iteration, is_of, others_than, has_entry, last_of, without_last, Each, LosesLast}

pub some_same : {A : Type 0} {x y : A} → Some x ≡ Some y → x ≡ y
some_same e = cc

pub neither : (p q : Bool) → (p || q) ≡ false → (p ≡ false) × (q ≡ false)
neither true q e = absurd (cc)
neither false q e = (refl, e)

pub both_true : (a b : Bool) → (a && b) ≡ true → (a ≡ true) × (b ≡ true)
both_true true b e = (refl, e)
both_true false b e = absurd (cc)

pub both_ways : (b : Bool) → b ≡ true → b ≡ false → ⊥
both_ways true e f = absurd (cc)
both_ways false e f = absurd (cc)

-- the two names of an iteration are those of its entries
pub numbers_of : (worker iter : ℕ) (e : Entry) → is_of worker iter e ≡ true → (e.worker ≡ worker) × (e.iter ≡ iter)
numbers_of worker iter e h =
    let b : ((e.worker == worker) ≡ true) × ((e.iter == iter) ≡ true) = both_true (e.worker == worker) (e.iter == iter) h in
    ((unsigned_Decides e.worker worker).0 b.0, (unsigned_Decides e.iter iter).0 b.1)

-- to be of the same iteration as an entry of it is to be of it
pub of_same : (worker iter : ℕ) (e m : Entry) → is_of worker iter m ≡ true → same_iteration e m ≡ is_of worker iter e
of_same worker iter e m h =
    let n : (m.worker ≡ worker) × (m.iter ≡ iter) = numbers_of worker iter m h in
    λ i. (e.worker == n.0 i) && (e.iter == n.1 i)

pub same_turn : (e m : Entry) → same_iteration e m ≡ same_iteration m e
same_turn e m = λ i. nat_eq_equiv.symm e.worker m.worker i && nat_eq_equiv.symm e.iter m.iter i

module _ (P : Entry → Type 0) where
  pub each_append : (xs ys : List Entry) → Each P xs → Each P ys → Each P (xs ++ ys)
  each_append [] ys p q = q
  each_append (x ∷ xs) ys p q = (p.0, each_append xs ys p.1 q)

  filter_by : (x : Entry) (ms : List Entry) (b : Bool) → P x → Each P ms → Each P (if b then x ∷ ms else ms)
  filter_by x ms true p h = (p, h)
  filter_by x ms false p h = h

  pub each_filter : (test : Entry → Bool) (es : List Entry) → Each P es → Each P (filter test es)
  each_filter test [] h = tt
  each_filter test (x ∷ es) h = filter_by x (filter test es) (test x) h.0 (each_filter test es h.1)

  without_by : (x : Entry) (ms ns : List Entry) (b c : Bool) → P x → Each P ms → Each P ns → Each P (if b then x ∷ ns else (if c then ms else x ∷ ms))
  without_by x ms ns true c p h k = (p, k)
  without_by x ms ns false true p h k = h
  without_by x ms ns false false p h k = (p, h)

  pub each_without : (worker iter : ℕ) (es : List Entry) → Each P es → Each P (without_last worker iter es)
  each_without worker iter [] h = tt
  each_without worker iter (x ∷ es) h = without_by x es (without_last worker iter es) (has_entry worker iter es) (is_of worker iter x) h.0 h.1 (each_without worker iter es h.1)

  pub each_at : (es : List Entry) (place : ℕ) (e : Entry) → Each P es → slice_get es place ≡ Some e → P e
  each_at [] place e h s = absurd (cc)
  each_at (x ∷ es) zero e h s = subst P (some_same s) h.0
  each_at (x ∷ es) (suc place) e h s = each_at es place e h.1 s

pub each_same : (P Q : Entry → Type 0) (es : List Entry) → ((e : Entry) → P e → Q e) → Each P es → Each Q es
each_same P Q [] k h = tt
each_same P Q (e ∷ es) k h = (k e h.0, each_same P Q es k h.1)

module _ (worker iter : ℕ) where
  or_true : (b c : Bool) → c ≡ true → (b || c) ≡ true
  or_true true c e = refl
  or_true false c e = e

  has_middle : (xs ys : List Entry) (e : Entry) → is_of worker iter e ≡ true → has_entry worker iter (xs ++ e ∷ ys) ≡ true
  has_middle [] ys e h = ap (λ b. b || has_entry worker iter ys) h
  has_middle (x ∷ xs) ys e h = or_true (is_of worker iter x) (has_entry worker iter (xs ++ e ∷ ys)) (has_middle xs ys e h)

  -- the last entry, where it is seen in the middle of a list
  pub last_split : (xs ys : List Entry) (e : Entry) → is_of worker iter e ≡ true → has_entry worker iter ys ≡ false → last_of worker iter (xs ++ e ∷ ys) ≡ Some e
  last_split [] ys e h n =
      ap (λ (b : Bool). if b then last_of worker iter ys else (if is_of worker iter e then Some e else None)) n ∙ ap (λ (b : Bool). if b then Some e else None) h
  last_split (x ∷ xs) ys e h n =
      ap (λ (b : Bool). if b then last_of worker iter (xs ++ e ∷ ys) else (if is_of worker iter x then Some x else None)) (has_middle xs ys e h) ∙ last_split xs ys e h n

  pub without_split : (xs ys : List Entry) (e : Entry) → is_of worker iter e ≡ true → has_entry worker iter ys ≡ false → without_last worker iter (xs ++ e ∷ ys) ≡ xs ++ ys
  without_split [] ys e h n =
      ap (λ (b : Bool). if b then e ∷ without_last worker iter ys else (if is_of worker iter e then ys else e ∷ ys)) n ∙ ap (λ (b : Bool). if b then ys else e ∷ ys) h
  without_split (x ∷ xs) ys e h n =
      ap (λ (b : Bool). if b then x ∷ without_last worker iter (xs ++ e ∷ ys) else (if is_of worker iter x then xs ++ e ∷ ys else x ∷ xs ++ e ∷ ys)) (has_middle xs ys e h)
      ∙ ap (λ zs. x ∷ zs) (without_split xs ys e h n)

  -- an entry of the iteration equals none of the others
  pub none_equal : (e : Entry) (ys : List Entry) → is_of worker iter e ≡ true → has_entry worker iter ys ≡ false → Each (λ f. f ≢ e) ys
  none_equal e [] h n = tt
  none_equal e (y ∷ ys) h n =
      let p : (is_of worker iter y ≡ false) × (has_entry worker iter ys ≡ false) = neither (is_of worker iter y) (has_entry worker iter ys) n in
      (λ same. both_ways (is_of worker iter y) (ap (is_of worker iter) same ∙ h) p.0, none_equal e ys h p.1)

  others_by : (x : Entry) (os : List Entry) (b : Bool) → is_of worker iter x ≡ b → has_entry worker iter os ≡ false → has_entry worker iter (if not b then x ∷ os else os) ≡ false
  others_by x os true e h = h
  others_by x os false e h = ap (λ b. b || has_entry worker iter os) e ∙ h

  -- the others have none of the iteration
  pub has_others : (es : List Entry) → has_entry worker iter (others_than worker iter es) ≡ false
  has_others [] = refl
  has_others (x ∷ es) = others_by x (others_than worker iter es) (is_of worker iter x) refl (has_others es)

  -- a search that finds a last entry splits the list there
  pub record Split (es : List Entry) (e : Entry) : Type 0 where
    pub front : List Entry
    pub rear : List Entry
    pub was : es ≡ front ++ e ∷ rear
    pub is : is_of worker iter e ≡ true
    pub none : has_entry worker iter rear ≡ false

  split_here : (x e : Entry) (es : List Entry) (c : Bool) → is_of worker iter x ≡ c → has_entry worker iter es ≡ false → (if c then Some x else None) ≡ Some e → Split (x ∷ es) e
  split_here x e es true q n k =
      let same : x ≡ e = some_same k in
      record { front = []; rear = es; was = ap (λ y. y ∷ es) same; is = ap (is_of worker iter) (sym same) ∙ q; none = n }
  split_here x e es false q n k = absurd (cc)

  split_by : (x e : Entry) (es : List Entry) (b : Bool) → has_entry worker iter es ≡ b → (last_of worker iter es ≡ Some e → Split es e)
      → (if b then last_of worker iter es else (if is_of worker iter x then Some x else None)) ≡ Some e → Split (x ∷ es) e
  split_by x e es true n r k =
      let s : Split es e = r k in
      record { front = x ∷ s.front; rear = s.rear; was = ap (λ zs. x ∷ zs) s.was; is = s.is; none = s.none }
  split_by x e es false n r k = split_here x e es (is_of worker iter x) refl n k

  pub split : (es : List Entry) (e : Entry) → last_of worker iter es ≡ Some e → Split es e
  split [] e k = absurd (cc)
  split (x ∷ es) e k = split_by x e es (has_entry worker iter es) refl (split es e) k

  -- what goes is the last entry that equals it
  pub loses_last : (es : List Entry) (e : Entry) → last_of worker iter es ≡ Some e → LosesLast e es (without_last worker iter es)
  loses_last es e k =
      let s : Split es e = split es e k in
      record {
        front = s.front;
        rear = s.rear;
        was = s.was;
        last = none_equal e s.rear s.is s.none;
        is = ap (without_last worker iter) s.was ∙ without_split s.front s.rear e s.is s.none;
      }

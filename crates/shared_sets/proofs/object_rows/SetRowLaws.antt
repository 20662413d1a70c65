-- What stands in the rows of a set's state, and what a write of a mark does to them.
use Rattle.std.specs.Prelude.{◌≡◌, ℕ, zero, suc, ℤ, pos, Bool, true, false, cond, not, Option, Some, None, List, [], ◌∷◌, unwrap_or, is_some, if◌then◌else◌, IsTrue, refl}
use Rattle.std.proofs.Common.{sym, ◌∙◌, ap}
use Rattle.std.specs.Ordering.{int_cmp, int_eq}
use Rattle.std.specs.Cmp.{int_cmp_total}
use Rattle.std.specs.FinMap as map
use Rattle.gx_base.specs.declared.calls.Made.{Made}
use Rattle.gx_base.specs.declared.calls.Reply.{Reply}
use Rattle.gx_base.specs.declared.kinds.Kind.TheVariants.{Set}
use Rattle.gx_base.specs.Kinds.{kind_number}
use Rattle.gx_base.specs.SetKind.{SetDeed, Add, Remove, Contains, Nothing, set_deed}
use Rattle.gx_base.specs.States.{State, row_cmp, rows_put, row_at, with_row}
use Rattle.gx_base.proofs.CallerLemmas.{row_cmp_total, row_cmp-IsAntisymmetric, same_row, same_row-sort, row_at-with}
use Rattle.number_rows.specs.declared.rows.NumberRows.{NumberRows}
use Rattle.number_rows.specs.NumbersAsRows.{number_in}
use Rattle.number_rows.proofs.CallerLemmas.{apart_sorts, KeepsRows, put_at}
use Rattle.shared_sets.specs.declared.marked_set.SharedSet.{SharedSet}
use Rattle.shared_sets.specs.SetRows.{Marks, row_if, mark_row, entries_marked, set_rows}
use Rattle.shared_sets.specs.SetState.{has_mark, room_in_set, has_set_room}

-- the state of a set with these rows
abbrev pub with_rows : map.FinMap row_cmp (List ℤ) → State
with_rows rows = record { kind = kind_number Set; rows = rows }

-- what stands where a mark was found, or not
abbrev marked_at : Option ℤ → Option (List ℤ)
marked_at None = None
marked_at (Some x) = mark_row x

here_by : (b c : Bool) (x : ℤ) (p : Option (List ℤ)) (o : Option ℤ) → b ≡ c → p ≡ marked_at o → cond b (mark_row x) p ≡ marked_at (cond c (Some x) o)
here_by true true x p o e h = refl
here_by true false x p o e h = absurd (cc)
here_by false true x p o e h = absurd (cc)
here_by false false x p o e h = h

get-entries_marked : (es : List (ℤ × ℤ)) (k : ℤ) → map.get (entries_marked es) (0, k) ≡ marked_at (map.find int_cmp k es)
get-entries_marked [] k = map.get-empty row_cmp (0, k)
get-entries_marked (e ∷ es) k =
    row_at-with (with_rows (entries_marked es)) (0, e.0) (mark_row e.1) (0, k)
    ∙ here_by (same_row (0, k) (0, e.0)) (int_eq k e.0) e.1 (map.get (entries_marked es) (0, k)) (map.find int_cmp k es) (same_row-sort 0 k e.0) (get-entries_marked es k)

get-set_rows : (m : Marks) (k : ℤ) → map.get (set_rows m) (0, k) ≡ marked_at (map.get m k)
unfolding set_rows
get-set_rows m k = get-entries_marked (map.entries m) k ∙ ap marked_at (sym (map.get-entries m k))

get-entries_marked-other : (es : List (ℤ × ℤ)) (i : ℕ) (k : ℤ) → (i ≡ 0 → ⊥) → map.get (entries_marked es) (i, k) ≡ None
get-entries_marked-other [] i k n = map.get-empty row_cmp (i, k)
get-entries_marked-other (e ∷ es) i k n =
    row_at-with (with_rows (entries_marked es)) (0, e.0) (mark_row e.1) (i, k)
    ∙ ap (λ b. cond b (mark_row e.1) (map.get (entries_marked es) (i, k))) (apart_sorts i 0 k e.0 n) ∙ get-entries_marked-other es i k n

get-set_rows-other : (m : Marks) (i : ℕ) (k : ℤ) → (i ≡ 0 → ⊥) → map.get (set_rows m) (i, k) ≡ None
unfolding set_rows
get-set_rows-other m i k n = get-entries_marked-other (map.entries m) i k n

-- rows with these look-ups
by_rows : (m : Marks) (other : map.FinMap row_cmp (List ℤ)) → ((k : ℤ) → map.get other (0, k) ≡ marked_at (map.get m k)) → ((i : ℕ) (k : ℤ) → (i ≡ 0 → ⊥) → map.get other (i, k) ≡ None) → set_rows m ≡ other
by_rows m other here there = map.same_map row_cmp_total row_cmp-IsAntisymmetric _ _ (λ q. at q.0 q.1)
  where
    at : (i : ℕ) (k : ℤ) → map.get (set_rows m) (i, k) ≡ map.get other (i, k)
    at zero k = get-set_rows m k ∙ sym (here k)
    at (suc i) k = get-set_rows-other m (suc i) k (λ e. absurd (cc)) ∙ sym (there (suc i) k (λ e. absurd (cc)))

-- a mark that is written is a row that is written
set_rows-insert : (m : Marks) (k x : ℤ) → set_rows (map.insert m k x) ≡ rows_put (set_rows m) (0, k) (mark_row x)
set_rows-insert m k x = by_rows (map.insert m k x) (rows_put (set_rows m) (0, k) (mark_row x))
    (λ q. row_at-with (with_rows (set_rows m)) (0, k) (mark_row x) (0, q)
    ∙ here_by (same_row (0, q) (0, k)) (int_eq q k) x (map.get (set_rows m) (0, q)) (map.get m q) (same_row-sort 0 q k) (get-set_rows m q)
    ∙ ap marked_at (sym (map.get-insert int_cmp_total m k x q)))
    (λ i q n. row_at-with (with_rows (set_rows m)) (0, k) (mark_row x) (i, q)
    ∙ ap (λ b. cond b (mark_row x) (map.get (set_rows m) (i, q))) (apart_sorts i 0 q k n) ∙ get-set_rows-other m i q n)

marked_same : (o p : Option ℤ) → unwrap_or o (pos 0) ≡ unwrap_or p (pos 0) → marked_at o ≡ marked_at p
marked_same None None e = refl
marked_same None (Some y) e = ap mark_row e
marked_same (Some x) None e = ap mark_row e
marked_same (Some x) (Some y) e = ap mark_row e

-- the same marks are the same rows
pub set_rows-same : (m n : Marks) → ((k : ℤ) → number_in m k ≡ number_in n k) → set_rows m ≡ set_rows n
set_rows-same m n h = by_rows m (set_rows n) (λ k. get-set_rows n k ∙ marked_same (map.get n k) (map.get m k) (sym (h k))) (λ i k d. get-set_rows-other n i k d)

-- no mark is no row
pub set_rows-empty : set_rows map.empty ≡ map.empty
set_rows-empty = by_rows map.empty map.empty (λ k. map.get-empty row_cmp (0, k) ∙ sym (ap marked_at (map.get-empty int_cmp k))) (λ i k n. map.get-empty row_cmp (i, k))

some_by : (o : Option ℤ) → not (int_eq (unwrap_or o (pos 0)) (pos 0)) ≡ is_some (marked_at o)
some_by None = refl
some_by (Some x) = marked_by (int_eq x (pos 0))
  where
    marked_by : (b : Bool) → not b ≡ is_some {T = List ℤ} (if b then None else Some [])
    marked_by true = refl
    marked_by false = refl

-- a mark that is read
pub read_mark : (m : Marks) (k kk x y : ℤ) (b : Bool) → b ≡ not (int_eq y (pos 0)) → kk ≡ k → y ≡ x → x ≡ number_in m kk → b ≡ is_some (row_at (with_rows (set_rows m)) (0, k))
read_mark m k kk x y b is ek ey r =
    is ∙ ap (λ z. not (int_eq z (pos 0))) (ey ∙ r ∙ ap (number_in m) ek) ∙ some_by (map.get m k) ∙ sym (ap is_some (get-set_rows m k))

mark_by : (present : Bool) → mark_row (if present then pos 1 else pos 0) ≡ row_if present
mark_by true = refl
mark_by false = refl

-- a mark that is written
pub wrote_mark : (m n : Marks) (k kk x xx : ℤ) (present : Bool) → x ≡ (if present then pos 1 else pos 0) → kk ≡ k → xx ≡ x → n ≡ map.insert m kk xx
    → with_rows (set_rows n) ≡ with_row (with_rows (set_rows m)) (0, k) (row_if present)
wrote_mark m n k kk x xx present is ek ex w =
    ap (λ l. with_rows (set_rows l)) (put_at m n k kk x xx ek ex w)
    ∙ ap with_rows (set_rows-insert m k x ∙ ap (rows_put (set_rows m) (0, k)) (ap mark_row is ∙ mark_by present))

turned-kept : (turned a b : Bool) → (IsTrue a → IsTrue b) → IsTrue (if turned then a else true) → IsTrue (if turned then b else true)
turned-kept true a b h t = h t
turned-kept false a b h t = t

room-kept : (d : SetDeed) (a b : Bool) (r : Reply) → (IsTrue a → IsTrue b) → IsTrue (room_in_set d a r) → IsTrue (room_in_set d b r)
room-kept Add a b r h t = turned-kept (int_eq r.p (pos 1)) a b h t
room-kept Remove a b r h t = turned-kept (int_eq r.p (pos 1)) a b h t
room-kept Contains a b r h t = t
room-kept Nothing a b r h t = t

-- where the rows stay, each call keeps its room
pub set_kept : (s : SharedSet) (n : NumberRows) → KeepsRows s.marks n → (made : Made) → IsTrue (has_set_room s made) → IsTrue (has_set_room (record s { marks = n }) made)
set_kept s n h made t = room-kept (set_deed made.call.method) (has_mark s made.call.a) (has_mark (record s { marks = n }) made.call.a) made.reply (h made.call.a) t

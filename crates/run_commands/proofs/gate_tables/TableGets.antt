-- What is found in a table that rows are put in.
use Rattle.std.proofs.Common.{◌≡◌, ◌==◌, ℕ, ◌+◌, ◌<◌, ◌≤◌, ◌&&◌, nat_le, nat_lt, length, Bool, true, false, cond, if◌then◌else◌, Some, None, refl, sym, ap, subst, ◌∙◌, arith}
use Rattle.std.specs.FinMap as map
use Rattle.std.specs.Cmp.{unsigned_Decides}
use Rattle.std.specs.Ordering.{is_eq}
use Rattle.std.proofs.lemmas.Bool.{false≢true, ltb-true, le-leb, lt-ltb}
use Rattle.gx_base.specs.Conditions.{Condition, False}
use Rattle.gx_base.specs.Methods.{first_method, words_of, is_method, method_at}
use Rattle.gx_base.specs.Tables.{Rows, KeepsToKind}
use Rattle.gx_base.specs.TableRows.{RowMap, row_of, row_or_false}
use Rattle.gx_base.proofs.CallerLemmas.{pair_cmp_total, same_pair, same_pair-is, same_pair-parts, one_more, all_methods, within_of}
use Rattle.run_commands.specs.RunTables.{IsWholeTable, GainsRows}

same_number : (n : ℕ) → (n == n) ≡ true
same_number n = (unsigned_Decides n n).1 refl

same_itself : (m n : ℕ) → same_pair (m, n) (m, n) ≡ true
same_itself m n = same_pair-parts (m, n) (m, n) ∙ ap (λ b. b && (n == n)) (same_number m) ∙ same_number n

-- the pair that was put
pub put_here : (table : RowMap) (m n : ℕ) (row : Condition) → map.get (map.insert table (m, n) row) (m, n) ≡ Some row
put_here table m n row = map.get-insert pair_cmp_total table (m, n) row (m, n) ∙ ap (λ b. cond b (Some row) (map.get table (m, n))) (same_itself m n)

-- any other
pub put_elsewhere : (table : RowMap) (m n : ℕ) (row : Condition) (q : ℕ × ℕ) → same_pair q (m, n) ≡ false → map.get (map.insert table (m, n) row) q ≡ map.get table q
put_elsewhere table m n row q e = map.get-insert pair_cmp_total table (m, n) row q ∙ ap (λ b. cond b (Some row) (map.get table q)) e

other_first : (m n first second : ℕ) → (m == first) ≡ false → same_pair (m, n) (first, second) ≡ false
other_first m n first second e = same_pair-parts (m, n) (first, second) ∙ ap (λ b. b && (n == second)) e

-- a pair that has its row still has it
still_by : (rows : Rows) (table : RowMap) (first second n : ℕ) (b : Bool) → same_pair (first, n) (first, second) ≡ b → map.get table (first, n) ≡ Some (rows first n)
    → map.get (map.insert table (first, second) (rows first second)) (first, n) ≡ Some (rows first n)
still_by rows table first second n true e had =
    let same : n ≡ second = ap (λ (q : ℕ × ℕ). q.1) (same_pair-is (first, n) (first, second) e) in
    subst (λ (k : ℕ). map.get (map.insert table (first, second) (rows first second)) (first, k) ≡ Some (rows first k)) (sym same) (put_here table first second (rows first second))
still_by rows table first second n false e had = put_elsewhere table first second (rows first second) (first, n) e ∙ had

abbrev pub HasBefore : ℕ → Rows → ℕ → ℕ → RowMap → Type 0
HasBefore kind rows first place table = (n : ℕ) → is_method kind n ≡ true → n < first_method kind + place → map.get table (first, n) ≡ Some (rows first n)

-- with one row more
pub one_row_more : (kind : ℕ) (rows : Rows) (first second place : ℕ) (row : Condition) (table after : RowMap) → method_at kind place ≡ Some second → row ≡ rows first second
    → after ≡ map.insert table (first, second) row → HasBefore kind rows first place table → HasBefore kind rows first (place + 1) after
one_row_more kind rows first second place row table after at r a before =
    let put : after ≡ map.insert table (first, second) (rows first second) = a ∙ ap (λ x. map.insert table (first, second) x) r in
    one_more kind place second (λ n. map.get after (first, n) ≡ Some (rows first n)) at
    (λ n known less. ap (λ t. map.get t (first, n)) put ∙ still_by rows table first second n (same_pair (first, n) (first, second)) refl (before n known less))
    (ap (λ t. map.get t (first, second)) put ∙ put_here table first second (rows first second))

-- what isn't a method of the kind is another one
not_method : (kind second n : ℕ) (b : Bool) → (n == second) ≡ b → is_method kind second ≡ true → is_method kind n ≡ false → (n == second) ≡ false
not_method kind second n true e known unknown =
    let same : n ≡ second = (unsigned_Decides n second).0 e in
    absurd (false≢true (sym unknown ∙ ap (is_method kind) same ∙ known))
not_method kind second n false e known unknown = e

and_false : (b : Bool) → (b && false) ≡ false
and_false true = refl
and_false false = refl

pub outside_stays : (kind first second n : ℕ) (row : Condition) (table after : RowMap) → is_method kind second ≡ true → is_method kind n ≡ false → after ≡ map.insert table (first, second) row
    → map.get after (first, n) ≡ map.get table (first, n)
outside_stays kind first second n row table after known unknown a =
    ap (λ t. map.get t (first, n)) a
    ∙ put_elsewhere table first second row (first, n) (same_pair-parts (first, n) (first, second) ∙ ap (λ b. (first == first) && b) (not_method kind second n (n == second) refl known unknown) ∙ and_false (first == first))

pub others_stay : (m n first second : ℕ) (row : Condition) (table after : RowMap) → (m == first) ≡ false → after ≡ map.insert table (first, second) row → map.get after (m, n) ≡ map.get table (m, n)
others_stay m n first second row table after e a = ap (λ t. map.get t (m, n)) a ∙ put_elsewhere table first second row (m, n) (other_first m n first second e)

-- ---- all methods first

abbrev pub HasFirsts : ℕ → Rows → ℕ → RowMap → Type 0
HasFirsts kind rows place table = (m : ℕ) → is_method kind m ≡ true → m < first_method kind + place → (n : ℕ) → is_method kind n ≡ true → map.get table (m, n) ≡ Some (rows m n)

abbrev pub HasNoOthers : ℕ → RowMap → Type 0
HasNoOthers kind table = (m n : ℕ) → (is_method kind m && is_method kind n) ≡ false → map.get table (m, n) ≡ None

kept_by : (kind : ℕ) (rows : Rows) (first m n : ℕ) (before after : RowMap) (b : Bool) → (m == first) ≡ b → GainsRows kind rows first before after → is_method kind n ≡ true
    → map.get before (m, n) ≡ Some (rows m n) → map.get after (m, n) ≡ Some (rows m n)
kept_by kind rows first m n before after true e gains known had =
    let same : m ≡ first = (unsigned_Decides m first).0 e in
    subst (λ (k : ℕ). map.get after (k, n) ≡ Some (rows k n)) (sym same) (gains.has n known)
kept_by kind rows first m n before after false e gains known had = gains.others m n e ∙ had

pub one_first_more : (kind : ℕ) (rows : Rows) (first place : ℕ) (before after : RowMap) → method_at kind place ≡ Some first → GainsRows kind rows first before after
    → HasFirsts kind rows place before → HasFirsts kind rows (place + 1) after
one_first_more kind rows first place before after at gains had =
    one_more kind place first (λ m. (n : ℕ) → is_method kind n ≡ true → map.get after (m, n) ≡ Some (rows m n)) at
    (λ m known less n also. kept_by kind rows first m n before after (m == first) refl gains also (had m known less n also))
    (λ n known. gains.has n known)

second_unknown : (a b : Bool) → a ≡ true → (a && b) ≡ false → b ≡ false
second_unknown true b e f = f
second_unknown false b e f = absurd (false≢true e)

none_by : (kind : ℕ) (rows : Rows) (first m n : ℕ) (before after : RowMap) (b : Bool) → (m == first) ≡ b → GainsRows kind rows first before after → is_method kind first ≡ true
    → (is_method kind m && is_method kind n) ≡ false → map.get before (m, n) ≡ None → map.get after (m, n) ≡ None
none_by kind rows first m n before after true e gains known other none =
    let same : m ≡ first = (unsigned_Decides m first).0 e in
    let unknown : is_method kind n ≡ false = second_unknown (is_method kind m) (is_method kind n) (ap (is_method kind) same ∙ known) other in
    subst (λ (k : ℕ). map.get before (k, n) ≡ None → map.get after (k, n) ≡ None) (sym same) (λ h. gains.outside n unknown ∙ h) none
none_by kind rows first m n before after false e gains known other none = gains.others m n e ∙ none

pub no_others_still : (kind : ℕ) (rows : Rows) (first : ℕ) (before after : RowMap) → is_method kind first ≡ true → GainsRows kind rows first before after → HasNoOthers kind before → HasNoOthers kind after
no_others_still kind rows first before after known gains none m n other = none_by kind rows first m n before after (m == first) refl gains known other (none m n other)

found_by : (rows : Rows) (table : RowMap) (m n : ℕ) (a b : Bool) → ((a && b) ≡ true → map.get table (m, n) ≡ Some (rows m n)) → ((a && b) ≡ false → map.get table (m, n) ≡ None)
    → map.get table (m, n) ≡ (if a && b then Some (rows m n) else None)
found_by rows table m n true true some none = some refl
found_by rows table m n true false some none = none refl
found_by rows table m n false b some none = none refl

both_true : (a b : Bool) → (a && b) ≡ true → (a ≡ true) × (b ≡ true)
both_true true b e = (refl, e)
both_true false b e = absurd (false≢true e)

pub whole : (kind : ℕ) (rows : Rows) (place : ℕ) (table : RowMap) → method_at kind place ≡ None → HasFirsts kind rows place table → HasNoOthers kind table → IsWholeTable kind rows table
whole kind rows place table end had none m n =
    found_by rows table m n (is_method kind m) (is_method kind n)
    (λ e. let parts = both_true (is_method kind m) (is_method kind n) e in all_methods kind place (λ k. (j : ℕ) → is_method kind j ≡ true → map.get table (k, j) ≡ Some (rows k j)) end had m parts.0 n parts.1)
    (none m n)

-- ---- what such a table is

-- there is one such table
pub one_whole : (kind : ℕ) (rows rows' : Rows) (table table' : RowMap) → ((m n : ℕ) → rows m n ≡ rows' m n) → IsWholeTable kind rows table → IsWholeTable kind rows' table' → table ≡ table'
one_whole kind rows rows' table table' same w w' =
    map.same_map pair_cmp_total (λ x y e. same_pair-is x y (ap is_eq e)) table table'
    (λ q. w q.0 q.1 ∙ ap (λ x. if is_method kind q.0 && is_method kind q.1 then Some x else None) (same q.0 q.1) ∙ sym (w' q.0 q.1))

row_by : (b : Bool) (row : Condition) → (b ≡ false → row ≡ False) → row_or_false (if b then Some row else None) ≡ row
row_by true row f = refl
row_by false row f = sym (f refl)

-- its rows are those given, where these are false for other methods
pub row_of_whole : (kind : ℕ) (rows : Rows) (table : RowMap) → KeepsToKind kind rows → IsWholeTable kind rows table → row_of table ≡ rows
row_of_whole kind rows table keeps w =
    λ i m n. (ap row_or_false (w m n) ∙ row_by (is_method kind m && is_method kind n) (rows m n) (keeps m n)) i

-- ---- methods at places

at_by : (kind place method : ℕ) (b : Bool) → nat_lt place (length (words_of kind)) ≡ b → (if b then Some (first_method kind + place) else None) ≡ Some method → is_method kind method ≡ true
at_by kind place method true within e =
    let number : first_method kind + place ≡ method = cc in
    let below : place < length (words_of kind) = ltb-true place (length (words_of kind)) within in
    let least : nat_le (first_method kind) method ≡ true = le-leb (first_method kind) method (omega arith) in
    let most : nat_lt method (first_method kind + length (words_of kind)) ≡ true = lt-ltb method (first_method kind + length (words_of kind)) (omega arith) in
    ap (λ b. b && nat_lt method (first_method kind + length (words_of kind))) least ∙ most
at_by kind place method false within e = absurd (cc)

pub is_method_at : (kind place method : ℕ) → method_at kind place ≡ Some method → is_method kind method ≡ true
is_method_at kind place method e = at_by kind place method (nat_lt place (length (words_of kind))) refl e

pub none_before : (kind m : ℕ) → is_method kind m ≡ true → m < first_method kind + 0 → ⊥
none_before kind m known less = let of = within_of kind m known in let from : first_method kind ≤ m = of.from in omega arith
